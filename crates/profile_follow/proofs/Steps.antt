-- From one instruction that acts to the next, and to the day's end.
use Prim.Native.Nat.{ℕ, zero, suc, ◌+◌, ◌*◌, min, ◌≤◌, ◌<◌}
use mathlib.Core.Path.{◌≡◌, refl, ap, sym, ◌∙◌, subst}
use mathlib.Core.List.{List, [], ◌∷◌}
use native.Mathlib.Decide.{dec_le}
use native.Mathlib.Omega.{arith}
use lib.ListN.{length, get_or, take, replicate, length-append}
use lib.Seq.{get_or-take, length-take-le}
use Rattle.level.specs.Lists.{All, list_from, filled}
use Rattle.level.specs.Numbers.{half_hour, most_half_hours, boundary_places}
use Rattle.records.specs.declared.UnitData.{UnitData}
use Rattle.course.specs.declared.Course.{Course}
use Rattle.course.specs.Lists.{Lists}
use Rattle.course.specs.declared.Heading.{Heading}
use Rattle.course.specs.Headings.{Short}
use Rattle.validation.specs.declared.Numbered.{Numbered}
use Rattle.validation.specs.Kept.{acting}
use Rattle.profile.specs.declared.UnderWay.{UnderWay}
use Rattle.profile.specs.declared.Setting.{Setting}
use Rattle.profile.specs.declared.State.{State}
use Rattle.std.specs.Prelude.{Some, None}
use Rattle.profile.specs.State.{by_rule}
use Rattle.profile.specs.Effects.{Followed, follow, state_at}
use Rattle.profile.specs.Profile.{Span, begin_of, spans_of}
use Rattle.profile.specs.Twin.{pieces_to, twin_to}
use Rattle.profile.proofs.Following.{comes_to, new_course}
use Rattle.level.proofs.Arrays.{places_same}
use Rattle.profile.proofs.Found.{list_length, list_at}
use Rattle.course_walk.specs.declared.Place.{Place}
use Rattle.course_rates.specs.Ways.{target_of, lists_by}
use Rattle.course_walk.specs.Walk.{reached_at, beginning, onward}
use Rattle.course_walk.proofs.PieceStep.{PieceStep, onward_step}
use Rattle.profile_areas.specs.declared.Sums.{Sums}
use Rattle.profile_areas.specs.declared.Passed.{Passed}
use Rattle.profile_areas.specs.Passing.{summed, noted_to, SumsFit, Noted, piece_from, Passing}
use Rattle.profile_areas.proofs.Adding.{noted_there, noted_total}
use Rattle.profile_areas.proofs.Areas.{twice_through, piece_on}
use Rattle.profile_follow.specs.declared.Walk.{Walk}
use Rattle.profile_follow.specs.declared.OnCourse.{OnCourse}
use Rattle.profile_follow.specs.declared.FollowedDay.{FollowedDay}
use Rattle.profile_follow.specs.Walk.{walk_of, walk_all, went_on, replaced_by}
use Rattle.profile_follow.specs.Following.{set_out, went_to, second_of, Ordered, LowStart, courses_from, courses_after, end_of, OnIt, sums_at, twice_on, sum_after, last_in, ended, FollowedBy}
use Rattle.profile_follow.proofs.Walking.{WalkProgress, walked_start, walked_on, walked_new, walked_end}
use Rattle.profile_follow.proofs.After.{begins_there, from_head, after_none, after_on, after_new, end_none, end_new, end_after, ordered_less, NextActs, ordered_next, set_out_sum, out_on}

-- the place q, where the course under way is cut at the second n
pub record CutAt (g : OnCourse) (q : Place) (n : ℕ) : Type 0 where
  pub there : q.second ≡ n
  pub runs : g.reached.place.second < n → q ≡ onward g.route.heading (lists_by g.route) (target_of g.route) n g.reached.place

-- the last piece of the course, up to there
pub last_step : {g : OnCourse} {q : Place} {n : ℕ} → CutAt g q n → Short g.route.heading (target_of g.route) g.reached.place.level →
    g.reached.place.second < q.second →
    PieceStep g.route.heading (lists_by g.route) (target_of g.route) q.second g.reached.place q
last_step {g} {q} {n} cut sh lt =
    let h : Heading = g.route.heading in
    let ls : Lists = lists_by g.route in
    let t : ℕ = target_of g.route in
    let p : Place = g.reached.place in
    subst (λ (k : ℕ). PieceStep h ls t k p q) (sym cut.there)
    (subst (PieceStep h ls t n p) (sym (cut.runs (omega (arith, cut.there)))) (onward_step h ls t n p (omega (arith, cut.there)) sh))

-- those that act all told, and those that are left; the walk so far, the course under way with its lists, and the sums
pub record FollowProgress (u : UnitData) (end : ℕ) (first : UnderWay) (all left : List Numbered) (w : Walk) (g : OnCourse)
    (x : Sums) : Type 0 where
  pub walked : WalkProgress u w left (follow by_rule u first all)
  pub few : length w.courses.these ≤ length w.fates.these + 1
  pub on : OnIt u w.now g
  pub ordered : Ordered end g.reached.place.second left
  pub starts : All LowStart (courses_from u w.now left)
  pub sums : (j : ℕ) → j ≤ most_half_hours →
      noted_to (sums_at g x) j + sum_after u end w.now g left j ≡ pieces_to (spans_of u end (courses_from u first all)) (half_hour * j)
  pub fits : SumsFit (sums_at g x)

-- ---- at 06:00

zeros : (n j : ℕ) → get_or {A = ℕ} (replicate n 0) j 0 ≡ 0
zeros zero j = refl
zeros (suc n) zero = refl
zeros (suc n) (suc j) = zeros n j

abbrev no_sums : Sums
no_sums = record { noted = replicate boundary_places 0; total = 0 }

nothing : (s j : ℕ) → noted_to (summed s no_sums) j ≡ 0
nothing s j = elim (dec_le (half_hour * j) s) [
  | yes h ↦ noted_there (summed s no_sums) j h ∙ zeros boundary_places j
  | no h ↦ noted_total (summed s no_sums) j (omega arith)
]

pub progress_start : {u : UnitData} {end : ℕ} {first : UnderWay} {all : List Numbered} {w : Walk} {g : OnCourse} →
    w ≡ walk_of first (record { marks = []; courses = first ∷ [] }) → g ≡ set_out u first →
    Ordered end first.course.begin all → All LowStart (courses_from u first all) →
    FollowProgress u end first all all w g no_sums
unfolding walk_of set_out reached_at beginning
progress_start {u} {end} {first} {all} {w} {g} a e ord low = rw (a, e) (record {
  walked = walked_start u first all;
  few = omega arith;
  on = out_on u first (rw (from_head u first all) at low).0;
  ordered = ord;
  starts = low;
  sums = λ j h. omega (arith, nothing first.course.begin j, set_out_sum u first end all j);
  fits = record { places = refl; total = omega arith };
})

-- ---- up to the next acting second, or the day's end
module _ {u : UnitData} {end : ℕ} {first : UnderWay} {all left : List Numbered} {w : Walk} {g : OnCourse} {x : Sums}
    (f : FollowProgress u end first all left w g x) where
  abbrev next : ℕ
  next = second_of end left

  pub order : NextActs end g.reached.place.second left
  order = ordered_next end g.reached.place.second left f.ordered

  pub progress_pass : {s : Passed} {z : Sums} → Passing g.route g.reached.place g.off next (sums_at g x) z s →
      FollowProgress u end first all left w (went_to g s) z
  unfolding sum_after
  progress_pass {s} passing =
      let p = passing.progress in
      record {
        walked = f.walked;
        few = f.few;
        on = record { course = f.on.course; watching = p.watched u w.now.off f.on.watching; known = p.known; low = p.low };
        ordered = ordered_less end s.reached.place.second next left p.within order.ordered;
        starts = f.starts;
        sums = λ j h. omega (
          arith,
          f.sums j h,
          p.adds j h,
          twice_through g.route.heading (lists_by g.route) (target_of g.route) g.reached.place s.reached.place
              p.stands p.later (end_of u end w.now left) (half_hour * j)
              (omega (arith, p.within, end_after u end w.now left next order.ordered)),
        );
        fits = p.fits;
      }

-- ---- an instruction acts
module _ {u : UnitData} {end : ℕ} {first : UnderWay} {all : List Numbered} {act : Numbered} {left : List Numbered} {w : Walk} {g : OnCourse}
    {x : Sums} (f : FollowProgress u end first all (act ∷ left) w g x) where
  abbrev whole : Followed
  whole = follow by_rule u first all

  abbrev h : Heading
  h = g.route.heading

  abbrev ls : Lists
  ls = lists_by g.route

  abbrev t : ℕ
  t = target_of g.route

  abbrev p : Place
  p = g.reached.place

  -- without effect: the course goes on
  pub progress_on : comes_to by_rule u w.now act ≡ None → FollowProgress u end first all left (went_on w) g x
  unfolding sum_after went_on
  progress_on e =
      let same : courses_after u w.now (act ∷ left) ≡ courses_after u w.now left = after_on u w.now act left e in
      record {
        walked = walked_on u w act left whole f.walked e;
        few = simp length-append (omega (arith, f.few));
        on = f.on;
        ordered = ordered_less end p.second (acting act) left f.ordered.0 f.ordered.1;
        starts = subst (All LowStart) (from_head u w.now (act ∷ left) ∙ ap (λ (cs : List Course). w.now.course ∷ cs) same
            ∙ sym (from_head u w.now left)) f.starts;
        sums = subst (λ (cs : List Course). (j : ℕ) → j ≤ most_half_hours → noted_to (sums_at g x) j
            + (twice_on g.route (min (begin_of end cs) (half_hour * j)) p + pieces_to (spans_of u end cs) (half_hour * j))
            ≡ pieces_to (spans_of u end (courses_from u first all)) (half_hour * j)) same f.sums;
        fits = f.fits;
      }

  -- with effect: it ends at the place q, and the next one begins
  module _ {set : Setting} (new : comes_to by_rule u w.now act ≡ Some set) {q : Place} (cut : CutAt g q (acting act)) where
    abbrev then : UnderWay
    then = new_course by_rule u w.now act set

    by_end : (j : ℕ) → sum_after u end w.now g (act ∷ left) j
        ≡ twice_on g.route (min q.second (half_hour * j)) p + pieces_to (spans_of u end (courses_from u then left)) (half_hour * j)
    unfolding sum_after
    by_end j = λ k. twice_on g.route (min ((end_new u end w.now act left set new ∙ sym cut.there) k) (half_hour * j)) p
        + pieces_to (spans_of u end (after_new u w.now act left set new k)) (half_hour * j)

    later_starts : All LowStart (courses_from u then left)
    later_starts = (subst (All LowStart) (from_head u w.now (act ∷ left)
        ∙ ap (λ (cs : List Course). w.now.course ∷ cs) (after_new u w.now act left set new)) f.starts).1

    begins_here : then.course.begin ≡ q.second
    begins_here = begins_there u w.now act set ∙ sym cut.there

    pub progress_new : {z : Sums} {d : UnderWay} {g' : OnCourse} → d ≡ then → g' ≡ set_out u d →
        Noted (piece_from h p q) (sums_at g x) (summed q.second z) → FollowProgress u end first all left (replaced_by w d) g' z
    unfolding set_out reached_at beginning replaced_by
    progress_new {z} {d} {g'} is out-is noted =
        rw (out-is, is) (record {
          walked = walked_new u w act left whole f.walked set new;
          few = simp length-append (omega (arith, f.few));
          on = out_on u then (rw (from_head u then left) at later_starts).0;
          ordered = subst (λ (k : ℕ). Ordered end k left) (sym (begins_here ∙ cut.there)) f.ordered.1;
          starts = later_starts;
          sums = λ j k. omega (
            arith,
            f.sums j k,
            by_end j,
            subst (λ (i : ℕ). noted_to (summed i z) j ≡ noted_to (sums_at g x) j + twice_on g.route (min q.second (half_hour * j)) p)
                (sym begins_here)
                (piece_on h ls t q.second p q (last_step cut f.on.watching.short) (omega (arith, f.ordered.0, cut.there)) noted j k),
            set_out_sum u then end left j,
          );
          fits = subst (λ (k : ℕ). SumsFit (summed k z)) (sym begins_here) noted.fits;
        })

-- ---- the day's end
module _ {u : UnitData} {halves : ℕ} {first : UnderWay} {all : List Numbered} {w : Walk} {g : OnCourse} {x : Sums}
    {q : Place} (v : FollowProgress u (half_hour * halves) first all [] w g x) (long : halves ≤ most_half_hours)
    (cut : CutAt g q (half_hour * halves)) where
  abbrev end : ℕ
  end = half_hour * halves

  abbrev ss : List Span
  ss = spans_of u end (courses_from u first all)

  abbrev twice_there : ℕ → ℕ
  twice_there n = twice_on g.route n g.reached.place

  sum_last : (j : ℕ) → sum_after u end w.now g [] j ≡ twice_there (min q.second (half_hour * j))
  unfolding sum_after spans_of pieces_to
  sum_last j = (λ k. twice_there (min ((end_none u end w.now ∙ sym cut.there) k) (half_hour * j))
      + pieces_to (spans_of u end (after_none u w.now k)) (half_hour * j)) ∙ omega arith

  module _ {z : Sums} (noted : Noted (piece_from g.route.heading g.reached.place q) (sums_at g x) (summed q.second z))
    where
      -- what is noted at a boundary of the day
      noted_at : (j : ℕ) → j ≤ halves → get_or z.noted j 0 ≡ twin_to ss j
      unfolding twin_to
      noted_at j h = omega (
        arith,
        v.sums j (omega arith),
        sum_last j,
        noted_there (summed q.second z) j (omega (arith, cut.there)),
        piece_on g.route.heading (lists_by g.route) (target_of g.route) q.second g.reached.place q
            (last_step cut v.on.watching.short) (omega (arith, v.ordered, cut.there)) noted j (omega arith),
      )

      all_noted : take (suc halves) z.noted ≡ list_from (twin_to ss) 0 (suc halves)
      all_noted =
          let m : length (take (suc halves) z.noted) ≡ suc halves = length-take-le (suc halves) z.noted (omega (arith, noted.fits.places)) in
          places_same 0 (take (suc halves) z.noted) (list_from (twin_to ss) 0 (suc halves)) (m ∙ sym (list_length (twin_to ss) 0 (suc halves)))
          (λ j h. get_or-take (suc halves) z.noted j 0 (omega (arith, m)) ∙ noted_at j (omega (arith, m))
          ∙ ap (twin_to ss) {x = j} {y = 0 + j} (omega arith) ∙ sym (list_at (twin_to ss) 0 (suc halves) j (omega (arith, m))))

      pub progress_end : {s : State} {r : FollowedDay} → s ≡ state_at by_rule u w.now end → r ≡ ended w z.noted s halves →
          FollowedBy u first all halves r
      unfolding walk_all walk_of ended
      progress_end state e =
          let all-walked : w ≡ walk_of (last_in u first all) (follow by_rule u first all) =
          walked_end u first w (follow by_rule u first all) v.walked in
          rw e (record {
            walk = all-walked;
            sums = ap (filled boundary_places 0) all_noted;
            end = state ∙ ap (λ (x : Walk). state_at by_rule u x.now end) all-walked;
          })
