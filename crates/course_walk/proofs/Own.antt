-- A course's own lists do for it what the unit's do: a heading never looks at the other's ramp.
use Prim.Native.Nat.{ℕ, zero, suc, ◌+◌, ◌-◌, min}
use mathlib.Core.Path.{◌≡◌, refl, ap, sym, ◌∙◌, subst}
use mathlib.Core.List.{List, [], ◌∷◌, ◌++◌}
use lib.Dec.{ltb, eqb}
use lib.ListN.{length}
use Rattle.level.specs.Choice.{pick}
use Rattle.course.specs.declared.Segment.{Segment}
use Rattle.records.specs.declared.UnitData.{UnitData}
use Rattle.course.specs.declared.Course.{Course}
use Rattle.course.specs.Lists.{Lists, rates_of, lists_of}
use Rattle.course.specs.declared.Heading.{Heading}
use Rattle.course.specs.declared.Heading.TheVariants.{Rising, Falling}
use Rattle.course.specs.Course.{Moment, toward, gap, in_use, rate_at, breaks_in_use, triggers, candidates, next_stop, hold_at, arrived, second, after, stops_from, segments_of}
use Rattle.course.specs.Pieces.{piece, pieces_of}
use Rattle.course_rates.specs.declared.Route.{Route}
use Rattle.course_walk.specs.declared.Place.{Place}
use Rattle.course_rates.specs.Ways.{lists_in, route_with, route_of, lists_by}
use Rattle.course_stops.specs.Ahead.{segment_to, segment_from}
use Rattle.course_walk.specs.Walk.{moment_of, after_hold, after_rest, along, onward, segments_from, pieces_left, twice_to}
use Rattle.course_walk.proofs.Areas.{area_same}

-- two lists that a heading cannot tell apart
pub record Alike (h : Heading) (l m : Lists) : Type 0 where
  pub rate : (v : ℕ) → rate_at h l v ≡ rate_at h m v
  pub all : (t : ℕ) → candidates h l t ≡ candidates h m t
  pub next : (t v : ℕ) → next_stop h l t v ≡ next_stop h m t v
  pub hold : (t v : ℕ) → hold_at h l t v ≡ hold_at h m t v

module _ (h : Heading) (l m : Lists) (a : Alike h l m) (t : ℕ) where
  alike_segment : (v : ℕ) → segment_from h l t v ≡ segment_from h m t v
  unfolding segment_from segment_to
  alike_segment v = λ i. record { way = gap v (a.next t v i); rate = a.rate v i; hold = a.hold t (a.next t v i) i }

  alike_onward : (n : ℕ) (p : Place) → onward h l t n p ≡ onward h m t n p
  unfolding onward
  alike_onward n p = λ i. pick (ltb 0 p.left) (after_hold n p) (pick (eqb p.level t) (after_rest n p) (along h n p (alike_segment p.level i)))

  alike_second : (o : Moment) → second h l t o ≡ second h m t o
  unfolding second arrived
  alike_second o =
      let v : ℕ = o.level in
      λ i.
      let stop : ℕ = a.next t v i in
      let w : ℕ = toward h v (min (a.rate v i) (gap v stop)) in
      pick (ltb 0 o.left) (record { level = v; left = o.left - 1 })
      (pick (eqb v t) o (record { level = w; left = pick (eqb w stop) (a.hold t w i) 0 }))

  alike_after : (k : ℕ) (o : Moment) → after h l t k o ≡ after h m t k o
  unfolding after
  alike_after zero o = refl
  alike_after (suc k) o = λ i. alike_second (alike_after k o i) i

  alike_twice : (n : ℕ) (p : Place) → twice_to h l t n p ≡ twice_to h m t n p
  unfolding twice_to
  alike_twice n p = area_same (λ k. (after h l t k (moment_of p)).level) (λ k. (after h m t k (moment_of p)).level)
      (λ k. ap (λ (o : Moment). o.level) (alike_after k (moment_of p))) 0 (n - p.second)

  alike_stops : (k v : ℕ) → stops_from h l t k v ≡ stops_from h m t k v
  unfolding stops_from
  alike_stops zero v = refl
  alike_stops (suc k) v = λ i. pick (eqb v t) [] (a.next t v i ∷ alike_stops k (a.next t v i) i)

  alike_ways : (v : ℕ) (ws : List ℕ) → segments_of h l t v ws ≡ segments_of h m t v ws
  unfolding segments_of
  alike_ways v [] = refl
  alike_ways v (w ∷ ws) = λ i. pick (eqb (a.rate v i) 0) [] (record { way = gap v w; rate = a.rate v i; hold = a.hold t w i } ∷ alike_ways w ws i)

  alike_segments : (v : ℕ) → segments_from h l t v ≡ segments_from h m t v
  unfolding segments_from
  alike_segments v = λ i. alike_ways v (alike_stops (length (a.all t i)) v i) i

own_alike : (u : UnitData) (c : Course) (h : Heading) → Alike h (lists_by (route_with u c h)) (lists_in u c)
unfolding rate_at in_use candidates breaks_in_use triggers next_stop hold_at lists_by lists_of rates_of
own_alike u c Rising = record { rate = λ v. refl; all = λ t. refl; next = λ t v. refl; hold = λ t v. refl }
own_alike u c Falling = record { rate = λ v. refl; all = λ t. refl; next = λ t v. refl; hold = λ t v. refl }

module _ (u : UnitData) (r : Route) where
  abbrev l : Lists
  l = lists_by r

  abbrev m : Lists
  m = lists_in u r.course

  -- by either heading
  module _ (own : r ≡ route_with u r.course r.heading) where
    pub headed_alike : Alike r.heading l m
    headed_alike = subst (λ (x : Route). Alike x.heading (lists_by x) m) (sym own) (own_alike u r.course r.heading)

    pub headed_segments : (t v : ℕ) → segments_from r.heading l t v ≡ segments_from r.heading m t v
    headed_segments t v = alike_segments r.heading l m headed_alike t v

    module _ (t n : ℕ) (p : Place) where
      pub headed_onward : onward r.heading l t n p ≡ onward r.heading m t n p
      headed_onward = alike_onward r.heading l m headed_alike t n p

      pub headed_twice : twice_to r.heading l t n p ≡ twice_to r.heading m t n p
      headed_twice = alike_twice r.heading l m headed_alike t n p

      pub headed_left : pieces_left r.heading l t n p ≡ pieces_left r.heading m t n p
      unfolding pieces_left
      headed_left =
          let held : ℕ = min (p.second + p.left) n in
          ap (λ (ls : List Segment). piece p.second held p.level p.level ++ pieces_of r.heading n held p.level ls) (headed_segments t p.level)

  -- so by the course's own heading
  module _ (own : r ≡ route_of u r.course) where
    headed : r ≡ route_with u r.course r.heading
    unfolding route_of
    headed = own ∙ ap (route_with u r.course) (sym (ap (λ (x : Route). x.heading) own))

    pub alike : Alike r.heading l m
    alike = headed_alike headed

    pub own_segments : (t v : ℕ) → segments_from r.heading l t v ≡ segments_from r.heading m t v
    own_segments = headed_segments headed

    module _ (t n : ℕ) (p : Place) where
      pub own_onward : onward r.heading l t n p ≡ onward r.heading m t n p
      own_onward = headed_onward headed t n p

      pub own_twice : twice_to r.heading l t n p ≡ twice_to r.heading m t n p
      own_twice = headed_twice headed t n p

      pub own_left : pieces_left r.heading l t n p ≡ pieces_left r.heading m t n p
      own_left = headed_left headed t n p
