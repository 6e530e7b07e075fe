-- Twice the area along a course.
use Prim.Native.Nat.{ℕ, zero, suc, ◌+◌, ◌-◌, ◌≤◌}
use mathlib.Core.Path.{◌≡◌, refl, ap, sym, ◌∙◌}
use native.Mathlib.Omega.{arith}
use Rattle.level.specs.Lists.{sum}
use Rattle.course.specs.Recorded.{area}
use Rattle.course.proofs.Sums.{sum_eq}
use Rattle.records.specs.declared.UnitData.{UnitData}
use Rattle.course.specs.Lists.{Lists}
use Rattle.course.specs.declared.Heading.{Heading}
use Rattle.course.specs.Course.{heading, Moment, trajectory_of, after, moment_at, level_at}
use Rattle.course.proofs.Rule.{at}
use Rattle.course.proofs.Seconds.{after_add}
use Rattle.course_walk.specs.declared.Place.{Place}
use Rattle.course_rates.specs.declared.Route.{Route}
use Rattle.course_rates.specs.Ways.{lists_in, route_of, target_of}
use Rattle.course_walk.specs.Walk.{moment_of, beginning, standing, twice_to}
use Rattle.course_walk.proofs.Courses.{heading_is, moment_is}

sum_from : (g : ℕ → ℕ) (x i n : ℕ) → sum g (x + i) n ≡ sum (λ j. g (x + j)) i n
unfolding sum
sum_from g x i zero = refl
sum_from g x i (suc n) =
    ap (λ (k : ℕ). g (x + i) + k) (ap (λ (j : ℕ). sum g j n) {x = suc (x + i)} {y = x + suc i} (omega arith) ∙ sum_from g x (suc i) n)

pub area_same : (f g : ℕ → ℕ) → ((j : ℕ) → f j ≡ g j) → (a n : ℕ) → area f a n ≡ area g a n
unfolding area
area_same f g e a n = sum_eq (λ j. f j + f (suc j)) (λ j. g j + g (suc j)) (λ j. rw (e j, e (suc j))) a n

-- counted from x on
pub area_from : (f : ℕ → ℕ) (x n : ℕ) → area f x n ≡ area (λ j. f (x + j)) 0 n
unfolding area
area_from f x n = ap (λ (k : ℕ). sum (λ j. f j + f (suc j)) k n) {x = x} {y = x + 0} (omega arith) ∙ sum_from (λ j. f j + f (suc j)) x 0 n
    ∙ sum_eq (λ j. f (x + j) + f (suc (x + j))) (λ j. f (x + j) + f (x + suc j)) (λ j. ap (λ (k : ℕ). f (x + j) + f k) (omega arith)) 0 n

module _ (h : Heading) (l : Lists) (t n : ℕ) where
  abbrev path : Place → ℕ → ℕ
  path p k = (after h l t k (moment_of p)).level

  pub twice_here : (p : Place) → n ≤ p.second → twice_to h l t n p ≡ 0
  unfolding twice_to area sum
  twice_here p le = ap (area (path p) 0) {x = n - p.second} {y = 0} (omega arith)

-- ---- in the course's own seconds
module _ (u : UnitData) (r : Route) (own : r ≡ route_of u r.course) where
  abbrev here : ℕ → ℕ → Place
  here a m = standing r.heading (lists_in u r.course) (target_of r) m (beginning r.course a)

  second_is : (a m : ℕ) → (here a m).second ≡ m
  unfolding standing
  second_is a m = refl

  later_is : (a m j : ℕ) → after r.heading (lists_in u r.course) (target_of r) j (moment_of (here a m))
      ≡ moment_at (trajectory_of u r.course) (m - a + j)
  unfolding trajectory_of moment_at
  later_is a m j =
      let l : Lists = lists_in u r.course in
      let t : ℕ = target_of r in
      let x : ℕ = m - a in
      ap (after r.heading l t j) (moment_is u r own a m)
      ∙ ap (λ (k : Heading). after k l t j (moment_at (trajectory_of u r.course) x)) (sym (heading_is u r own))
      ∙ sym (after_add (heading (trajectory_of u r.course)) l t x j (at r.course.start.grains 0))

  -- from the second m on, of a course that began at the second a
  pub twice_is : (a m n : ℕ) → twice_to r.heading (lists_in u r.course) (target_of r) n (here a m)
      ≡ area (level_at (trajectory_of u r.course)) (m - a) (n - m)
  unfolding twice_to level_at
  twice_is a m n =
      let x : ℕ = m - a in
      ap (area (λ k. (after r.heading (lists_in u r.course) (target_of r) k (moment_of (here a m))).level) 0) (ap (λ (k : ℕ). n - k) (second_is a m))
      ∙ area_same (λ k. (after r.heading (lists_in u r.course) (target_of r) k (moment_of (here a m))).level)
      (λ j. level_at (trajectory_of u r.course) (x + j))
      (λ j. ap (λ (q : Moment). q.level) (later_is a m j)) 0 (n - m) ∙ sym (area_from (level_at (trajectory_of u r.course)) x (n - m))
