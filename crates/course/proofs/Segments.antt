-- One leg: its seconds against its ticks; both ways of progress start at 0, rise, and end at the distance.
use mathlib.Core.Path.{◌≡◌, refl, ap}
use mathlib.Core.List.{List, [], ◌∷◌}
use Prim.Native.Nat.{ℕ, ◌+◌, ◌*◌, ◌-◌, ◌≤◌, ◌<◌}
use native.Mathlib.Nat.{le_refl, mul-le-mul_right, le_of_mul-le-mul_right, div-add-mod', mod-lt, mul-div_cancel', zero-sub}
use native.Mathlib.Decide.{dec_le}
use native.Mathlib.Omega.{arith}
use Rattle.course.specs.declared.Segment.{Segment}
use Rattle.course.specs.Recorded.{SegmentOk, recorded, whole_way}
use Rattle.course.specs.Pieces.{seconds}
use Rattle.course.specs.Exact.{ticks, exact}

-- the seconds of a way: the way over the rate, rounded up
pub seconds_low : (l : Segment) → 1 ≤ l.rate → l.way ≤ seconds l * l.rate
unfolding seconds
seconds_low l h = omega (arith, div-add-mod' (l.way + (l.rate - 1)) l.rate, mod-lt (l.way + (l.rate - 1)) h)

pub seconds_high : (l : Segment) → 1 ≤ l.rate → seconds l * l.rate < l.way + l.rate
unfolding seconds
seconds_high l h = omega (arith, div-add-mod' (l.way + (l.rate - 1)) l.rate)

pub seconds_some : (l : Segment) → 1 ≤ l.way → 1 ≤ l.rate → 1 ≤ seconds l
seconds_some l w r = elim (dec_le 1 (seconds l)) [
  | yes h ↦ h
  | no h ↦ absurd (omega (arith, seconds_low l r, mul-le-mul_right {m = seconds l} {n = 0} l.rate (omega arith)))
]

module _ (p : ℕ) (l : Segment) (ok : SegmentOk p l) where
  pub ticks_rate : ticks p l * l.rate ≡ l.way * p
  unfolding ticks
  ticks_rate = omega (arith, ap (λ n. l.way * n) (mul-div_cancel' l.rate ok.divides))

  pub ticks_low : ticks p l ≤ seconds l * p
  ticks_low = le_of_mul-le-mul_right {k = l.rate} (omega (arith, ticks_rate, mul-le-mul_right p (seconds_low l ok.some_rate))) ok.some_rate

  pub ticks_high : seconds l * p ≤ ticks p l + p
  ticks_high = le_of_mul-le-mul_right {k = l.rate} (omega (arith, ticks_rate, mul-le-mul_right p (seconds_high l ok.some_rate))) ok.some_rate

pub recorded_zero : (ls : List Segment) → recorded ls 0 ≡ 0
unfolding recorded
recorded_zero [] = refl
recorded_zero (l ∷ ls) = omega (arith, recorded_zero ls, ap (recorded ls) (zero-sub (seconds l + l.hold)))

pub exact_zero : (p : ℕ) (ls : List Segment) → exact p ls 0 ≡ 0
unfolding exact
exact_zero p [] = refl
exact_zero p (l ∷ ls) = omega (arith, exact_zero p ls, ap (exact p ls) (zero-sub (ticks p l + l.hold * p)))

pub recorded_mono : (ls : List Segment) (j k : ℕ) → j ≤ k → recorded ls j ≤ recorded ls k
unfolding recorded
recorded_mono [] j k h = le_refl 0
recorded_mono (l ∷ ls) j k h =
    omega (arith, mul-le-mul_right l.rate h, recorded_mono ls (j - (seconds l + l.hold)) (k - (seconds l + l.hold)) (omega arith))

pub exact_mono : (p : ℕ) (ls : List Segment) (j k : ℕ) → j ≤ k → exact p ls j ≤ exact p ls k
unfolding exact
exact_mono p [] j k h = le_refl 0
exact_mono p (l ∷ ls) j k h =
    omega (arith, mul-le-mul_right l.rate h, exact_mono p ls (j - (ticks p l + l.hold * p)) (k - (ticks p l + l.hold * p)) (omega arith))

pub exact_top : (p : ℕ) (ls : List Segment) (j : ℕ) → exact p ls j ≤ whole_way ls * p
unfolding exact whole_way
exact_top p [] j = omega arith
exact_top p (l ∷ ls) j = omega (arith, exact_top p ls (j - (ticks p l + l.hold * p)))

pub recorded_top : (ls : List Segment) (k : ℕ) → recorded ls k ≤ whole_way ls
unfolding recorded whole_way
recorded_top [] k = le_refl 0
recorded_top (l ∷ ls) k = omega (arith, recorded_top ls (k - (seconds l + l.hold)))
