-- Believed: document 01, The printed day (demand 3). The exact area between two half-hour boundaries, and what demand 3 allows there.
use Rattle.std.specs.Prelude.{ℕ, suc, ◌+◌, ◌*◌, ◌-◌, ◌≤◌, min, max, List, [], ◌∷◌, Bool, ltb, length}
use Rattle.level.specs.Choice.{pick}
use Rattle.level.specs.Lists.{sum}
use Rattle.level.specs.Numbers.{half_hour}
use Rattle.course.specs.Course.{stops, distance}
use Rattle.course.specs.Exact.{Fraction, nought, plus, ticks_of, exact_twice}
use Rattle.profile.specs.Profile.{Span}

-- "It has time between two boundaries if a second of it lies there"
unfoldable pub has_time : Span → ℕ → ℕ → Bool
has_time s a b = ltb (max s.begin (half_hour * a)) (min s.end (half_hour * b))

-- "for each course having time there, twice its number of stops times its distance in grains"
unfoldable pub allowed : Span → ℕ → ℕ → ℕ
allowed s a b = pick (has_time s a b) (2 * (length (stops s.trajectory) * distance s.trajectory)) 0

unfoldable pub allowance : List Span → ℕ → ℕ → ℕ
allowance [] a b = 0
allowance (s ∷ ss) a b = allowed s a b + allowance ss a b

-- twice the exact area of a course in the half-hour from the boundary i on, "for as long as its course lasts"
unfoldable pub exact_in : Span → ℕ → Fraction
exact_in s i = exact_twice s.trajectory (max s.begin (half_hour * i) - s.begin) (min s.end (half_hour * suc i) - s.begin)

-- between the boundaries a and b: its pieces are cut at each half-hour boundary, and all have one denominator
unfoldable pub exact_of : Span → ℕ → ℕ → Fraction
exact_of s a b = record { num = sum (λ i. (exact_in s i).num) a (b - a); den = ticks_of s.trajectory * ticks_of s.trajectory }

-- "The exact area there is that of all exact courses"
unfoldable pub exact_area : List Span → ℕ → ℕ → Fraction
exact_area [] a b = nought
exact_area (s ∷ ss) a b = plus (exact_of s a b) (exact_area ss a b)

-- the whole number x "differs from" the fraction e "by at most" m
pub record Within (x : ℕ) (e : Fraction) (m : ℕ) : Type 0 where
  pub fraction : 1 ≤ e.den
  pub above : x * e.den ≤ e.num + m * e.den
  pub below : e.num ≤ (x + m) * e.den
