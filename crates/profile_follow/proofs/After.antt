-- What is to come of a day: the courses after the one under way, and their areas.
use Prim.Native.Nat.{ℕ, ◌+◌, ◌*◌, ◌-◌, min, ◌≤◌}
use mathlib.Core.Path.{◌≡◌, refl, ap, sym, ◌∙◌}
use mathlib.Core.List.{List, [], ◌∷◌, map}
use native.Mathlib.Omega.{arith}
use lib.ListN.{drop}
use Rattle.level.specs.Numbers.{half_hour}
use Rattle.course.specs.Recorded.{area, twice_area}
use Rattle.records.specs.declared.UnitData.{UnitData}
use Rattle.course.specs.declared.Course.{Course}
use Rattle.course.specs.Course.{Trajectory, trajectory_of, level_at}
use Rattle.course.specs.Pieces.{pieces_in}
use Rattle.course.proofs.Pieces.{pieces_area}
use Rattle.validation.specs.declared.Numbered.{Numbered}
use Rattle.validation.specs.Kept.{acting}
use Rattle.profile.specs.declared.UnderWay.{UnderWay}
use Rattle.profile.specs.declared.Setting.{Setting}
use Rattle.std.specs.Prelude.{Some, None}
use Rattle.profile.specs.State.{by_rule}
use Rattle.profile.specs.Effects.{Followed, begun, under_way, course_from, goes_on, replaces, follow}
use Rattle.profile.specs.Profile.{begin_of, spans_of, course_of}
use Rattle.profile.specs.Twin.{pieces_to}
use Rattle.profile.proofs.Following.{comes_to, new_course, follow_on, follow_new, follow_ind}
use Rattle.course_rates.specs.declared.Route.{Route}
use Rattle.course_rates.specs.Ways.{lists_in, target_of, route_of, lists_by}
use Rattle.course_walk.specs.Walk.{reached_at, beginning, twice_to}
use Rattle.course_walk.proofs.PieceStep.{standing_here}
use Rattle.course_walk.proofs.Areas.{twice_is}
use Rattle.course_walk.proofs.Own.{own_twice}
use Rattle.course_walk.proofs.Rest.{known_at}
use Rattle.profile_areas.proofs.Watch.{watching_start}
use Rattle.profile_follow.specs.Following.{set_out, second_of, Ordered, LowStart, OnIt, courses_from, courses_after, end_of, twice_on, sum_after}

-- ---- the courses after

module _ (u : UnitData) where
  -- a course begins where the instruction that sets it acts
  pub begins_there : (now : UnderWay) (o : Numbered) (g : Setting) → (new_course by_rule u now o g).course.begin ≡ acting o
  unfolding begun under_way course_from
  begins_there now o g = refl

  pub after_none : (now : UnderWay) → courses_after u now [] ≡ []
  unfolding courses_from courses_after follow
  after_none now = refl

  module _ (now : UnderWay) (o : Numbered) (os : List Numbered) where
    pub after_on : comes_to by_rule u now o ≡ None → courses_after u now (o ∷ os) ≡ courses_after u now os
    unfolding courses_from courses_after goes_on
    after_on e = rw (follow_on by_rule u now o os e) refl

    pub after_new : (g : Setting) → comes_to by_rule u now o ≡ Some g → courses_after u now (o ∷ os) ≡ courses_from u (new_course by_rule u now o g) os
    unfolding courses_from courses_after replaces
    after_new g e = rw (follow_new by_rule u now o os g e) refl

  module _ (end : ℕ) where
    -- the course under way comes first, and ends no earlier than the first of those that act does so
    record CourseFirst (now : UnderWay) (os : List Numbered) (f : Followed) : Type 0 where
      head : map course_of f.courses ≡ now.course ∷ drop 1 (map course_of f.courses)
      ends : (a : ℕ) → Ordered end a os → a ≤ begin_of end (drop 1 (map course_of f.courses))

    course_first : (now : UnderWay) (os : List Numbered) → CourseFirst now os (follow by_rule u now os)
    course_first = follow_ind by_rule u CourseFirst (λ now. unfold begin_of in record { head = refl; ends = λ a h. h })
        (λ now o os f e t. unfold goes_on in record { head = t.head; ends = λ a h. omega (arith, h.0, t.ends (acting o) h.1) })
        (λ now o os g f e t. unfold replaces in record {
          head = refl;
          ends = λ a h. rw (ap (begin_of end) t.head) (unfold begin_of in omega (arith, h.0, begins_there now o g));
        })

    pub end_none : (now : UnderWay) → end_of u end now [] ≡ end
    unfolding begin_of
    end_none now = ap (begin_of end) (after_none now)

    pub end_after : (now : UnderWay) (os : List Numbered) (a : ℕ) → Ordered end a os → a ≤ end_of u end now os
    unfolding courses_from courses_after
    end_after now os a h = (course_first now os).ends a h

  pub from_head : (now : UnderWay) (os : List Numbered) → courses_from u now os ≡ now.course ∷ courses_after u now os
  unfolding courses_from courses_after
  from_head now os = (course_first 0 now os).head

  pub end_new : (end : ℕ) (now : UnderWay) (o : Numbered) (os : List Numbered) (g : Setting) → comes_to by_rule u now o ≡ Some g →
      end_of u end now (o ∷ os) ≡ acting o
  unfolding begin_of
  end_new end now o os g e = ap (begin_of end) (after_new now o os g e ∙ from_head (new_course by_rule u now o g) os) ∙ begins_there now o g

module _ (end : ℕ) where
  pub ordered_less : (a b : ℕ) (os : List Numbered) → a ≤ b → Ordered end b os → Ordered end a os
  ordered_less a b [] le h = omega arith
  ordered_less a b (o ∷ os) le h = (omega (arith, h.0), h.1)

  pub ordered_end : (a : ℕ) (os : List Numbered) → Ordered end a os → a ≤ end
  ordered_end a [] h = h
  ordered_end a (o ∷ os) h = omega (arith, h.0, ordered_end (acting o) os h.1)

  -- the first of those left acts no earlier, and they act in order from there
  pub record NextActs (a : ℕ) (os : List Numbered) : Type 0 where
    pub later : a ≤ second_of end os
    pub soon : second_of end os ≤ end
    pub ordered : Ordered end (second_of end os) os

  pub ordered_next : (a : ℕ) (os : List Numbered) → Ordered end a os → NextActs a os
  ordered_next a [] h = record { later = h; soon = omega arith; ordered = omega arith }
  ordered_next a (o ∷ os) h = record { later = h.0; soon = ordered_end (acting o) os h.1; ordered = (omega arith, h.1) }

-- ---- their areas

module _ (u : UnitData) (r : Route) (own : r ≡ route_of u r.course) where
  -- of a course from its beginning to the second n
  course_area : (n : ℕ) →
      twice_area (pieces_in (trajectory_of u r.course) 0 (n - r.course.begin)) ≡ twice_on r n (beginning r.course r.course.begin)
  unfolding beginning
  course_area n =
      let a : ℕ = r.course.begin in
      let c : Trajectory = trajectory_of u r.course in
      pieces_area c (n - a) ∙ ap (λ (k : ℕ). area (level_at c) k (n - a)) {x = 0} {y = a - a} (omega arith) ∙ sym (twice_is u r own a a n)
      ∙ ap (twice_to r.heading (lists_in u r.course) (target_of r) n)
      (standing_here r.heading (lists_in u r.course) (target_of r) a (beginning r.course a) (begins a))
      ∙ sym (own_twice u r own (target_of r) n (beginning r.course a))
    where
      begins : (a : ℕ) → a ≡ (beginning r.course a).second
      begins a = refl

module _ (u : UnitData) (now : UnderWay) where
  abbrev route : Route
  route = route_of u now.course

  own : route ≡ route_of u route.course
  unfolding route_of
  own = refl

  course_is : route.course ≡ now.course
  unfolding route_of
  course_is = refl

  pub set_out_sum : (end : ℕ) (os : List Numbered) (j : ℕ) →
      pieces_to (spans_of u end (courses_from u now os)) (half_hour * j) ≡ sum_after u end now (set_out u now) os j
  unfolding sum_after set_out reached_at spans_of pieces_to route_of
  set_out_sum end os j =
      let n : ℕ = min (end_of u end now os) (half_hour * j) in
      ap (λ (cs : List Course). pieces_to (spans_of u end cs) (half_hour * j)) (from_head u now os)
      ∙ ap (λ (k : ℕ). k + pieces_to (spans_of u end (courses_after u now os)) (half_hour * j)) (course_area u route own n)

  -- a course set out on is where its rule says
  pub out_on : LowStart now.course → OnIt u now (set_out u now)
  unfolding set_out reached_at beginning route_of
  out_on low =
      let w = watching_start u route now.off own in
      record {
        course = course_is;
        watching = w;
        known = known_at route.heading (lists_by route) (target_of route) (beginning now.course now.course.begin) w.short;
        low = low;
      }
