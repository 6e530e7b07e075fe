-- The areas by pieces are the sums over seconds.
use mathlib.Core.Path.{◌≡◌, refl, ap, ◌∙◌}
use mathlib.Core.List.{List, [], ◌∷◌}
use Prim.Native.Nat.{ℕ, zero, suc, ◌+◌, ◌*◌, ◌-◌, min, ◌≤◌, ◌<◌}
use native.Mathlib.Decide.{dec_le}
use native.Mathlib.Omega.{arith}
use borrow.Author.Tests.{lt-ltb, le-ltb}
use Rattle.level.specs.Lists.{sum}
use Rattle.level.specs.Numbers.{half_hour}
use Rattle.course.specs.Recorded.{area, twice_area}
use Rattle.course.specs.Course.{Trajectory, level_at}
use Rattle.course.specs.Pieces.{pieces_in}
use Rattle.course.proofs.Pieces.{pieces_area, pieces_window}
use Rattle.profile.specs.Profile.{Span, in_force, level_starting, level_ending, recorded_twice, recorded_to, recorded_in, Chain}
use Rattle.profile.specs.Twin.{pieces_to, twin_to, twin_in}

none : (c : Trajectory) → (n : ℕ) → n ≡ 0 → twice_area (pieces_in c 0 n) ≡ 0
unfolding area sum
none c n e = ap (λ (k : ℕ). twice_area (pieces_in c 0 k)) e ∙ pieces_area c 0

one_more : (c : Trajectory) → (j : ℕ) → twice_area (pieces_in c 0 (suc j)) ≡ twice_area (pieces_in c 0 j) + (level_at c j + level_at c (suc j))
unfolding area sum
one_more c j = ap (λ (k : ℕ). twice_area (pieces_in c 0 k)) {x = suc j} {y = j + 1} (omega arith) ∙ pieces_window c j 1 ∙ omega arith

not_yet : (from to x : ℕ) (ss : List Span) → Chain from ss to → x ≤ from → pieces_to ss x ≡ 0
unfolding pieces_to
not_yet from to x [] c h = refl
not_yet from to x (s ∷ ss) c h =
    omega (arith, none s.trajectory (min s.end x - s.begin) (omega (arith, c.0)), not_yet s.end to x ss c.2 (omega (arith, c.1)))

module _ (s : Span) (ss : List Span) (g : Trajectory → ℕ → ℕ) (x : ℕ) where
  pub in_here : x < s.end → in_force g (s ∷ ss) x ≡ g s.trajectory (x - s.begin)
  unfolding in_force
  in_here h = rw (lt-ltb x s.end h, in_force) refl

  pub in_rest : s.end ≤ x → in_force g (s ∷ ss) x ≡ in_force g ss x
  unfolding in_force
  in_rest h = rw (le-ltb x s.end h, in_force) refl

next : (from to x : ℕ) (ss : List Span) → Chain from ss to → from ≤ x → x < to →
    pieces_to ss (suc x) ≡ pieces_to ss x + (level_starting ss x + level_ending ss x)
unfolding pieces_to level_starting level_ending
next from to x [] c h k = absurd (omega (arith, c))
next from to x (s ∷ ss) c h k = elim (dec_le (suc x) s.end) [
  | yes p ↦
      let j : ℕ = x - s.begin in
      let e : twice_area (pieces_in s.trajectory 0 (min s.end (suc x) - s.begin)) ≡ twice_area (pieces_in s.trajectory 0 (suc j)) =
      ap (λ (n : ℕ). twice_area (pieces_in s.trajectory 0 n)) (omega (arith, c.0)) in
      let f : twice_area (pieces_in s.trajectory 0 (min s.end x - s.begin)) ≡ twice_area (pieces_in s.trajectory 0 j) =
      ap (λ (n : ℕ). twice_area (pieces_in s.trajectory 0 n)) (omega (arith, c.0)) in
      rw (in_here s ss level_at x p, in_here s ss (λ c k. level_at c (suc k)) x p)
      (omega (arith, e, f, one_more s.trajectory j, not_yet s.end to (suc x) ss c.2 p, not_yet s.end to x ss c.2 (omega arith)))
  | no p ↦
      let e : twice_area (pieces_in s.trajectory 0 (min s.end (suc x) - s.begin)) ≡ twice_area
      (pieces_in s.trajectory 0 (min s.end x - s.begin)) = ap (λ (n : ℕ). twice_area (pieces_in s.trajectory 0 n)) (omega arith) in
      rw (in_rest s ss level_at x (omega arith), in_rest s ss (λ c k. level_at c (suc k)) x (omega arith))
      (omega (arith, e, next s.end to x ss c.2 (omega arith) k))
]

module _ (from to : ℕ) (ss : List Span) (c : Chain from ss to) where
  pub over : (a n : ℕ) → from ≤ a → a + n ≤ to → pieces_to ss (a + n) ≡ pieces_to ss a + sum (λ t. level_starting ss t + level_ending ss t) a n
  unfolding sum
  over a zero h k = ap (pieces_to ss) {x = a + 0} {y = a} (omega arith) ∙ omega arith
  over a (suc n) h k =
      ap (pieces_to ss) {x = a + suc n} {y = suc a + n} (omega arith)
      ∙ omega (arith, over (suc a) n (omega arith) (omega arith), next from to a ss c h (omega arith))

-- from 0 to each half-hour boundary, and in each half-hour
module _ (n : ℕ) (ss : List Span) (c : Chain 0 ss (half_hour * n)) where
  pub area_to : (b : ℕ) → b ≤ n → recorded_to ss b ≡ twin_to ss b
  unfolding recorded_to recorded_twice twin_to
  area_to b h =
      omega (
        arith,
        over 0 (half_hour * n) ss c 0 (half_hour * b) (omega arith) (omega arith),
        not_yet 0 (half_hour * n) 0 ss c (omega arith),
        ap (pieces_to ss) {x = 0 + half_hour * b} {y = half_hour * b} (omega arith),
      )

  pub area_in : (i : ℕ) → i < n → recorded_in ss i ≡ twin_in ss i
  unfolding recorded_in recorded_twice twin_in twin_to
  area_in i h =
      let e : pieces_to ss (half_hour * suc i) ≡ pieces_to ss (half_hour * i + half_hour) = ap (pieces_to ss) (omega arith) in
      omega (arith, e, over 0 (half_hour * n) ss c (half_hour * i) half_hour (omega arith) (omega arith))
