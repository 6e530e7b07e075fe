-- Believed: document 01, A course, second by second. The exact course, and twice its area as a fraction of two whole numbers.
use Rattle.std.specs.Prelude.{ℕ, ◌+◌, ◌*◌, ◌-◌, ◌/◌, min, max, List, [], ◌∷◌}
use Rattle.course.specs.declared.Segment.{Segment}
use Rattle.course.specs.Course.{Trajectory, heading, toward, segments}

-- way/rate seconds as a fraction: so many ticks of 1/p second. Exact where the rate divides p
unfoldable pub ticks : ℕ → Segment → ℕ
ticks p l = l.way * (p / l.rate)

-- exact progress after j ticks of 1/p second, in units of 1/p grain
unfoldable pub exact : ℕ → List Segment → ℕ → ℕ
exact p [] j = 0
exact p (l ∷ ls) j = min (j * l.rate) (l.way * p) + exact p ls (j - (ticks p l + l.hold * p))

-- each rate divides the product of all
unfoldable pub rate_product : List Segment → ℕ
rate_product [] = 1
rate_product (l ∷ ls) = l.rate * rate_product ls

-- a fraction, kept as two whole numbers
pub record Fraction : Type 0 where
  pub num : ℕ
  pub den : ℕ

abbrev pub nought : Fraction
nought = record { num = 0; den = 1 }

unfoldable pub plus : Fraction → Fraction → Fraction
plus x y = record { num = x.num * y.den + y.num * x.den; den = x.den * y.den }

-- a second of a course is cut into as many ticks as the product of its rates, so that each stop is reached at a tick:
-- "way/rate seconds as a fraction" is so many ticks over that product
unfoldable pub ticks_of : Trajectory → ℕ
ticks_of c = rate_product (segments c)

-- "The exact course has the same start, holds and stops but reaches a stop after way/rate seconds .. and goes on within the second":
-- its level j ticks of 1/p second after it began, in units of 1/p grain
unfoldable pub exact_at : ℕ → Trajectory → ℕ → ℕ
exact_at p c j = toward (heading c) (c.start * p) (exact p (segments c) j)

-- a straight piece from the tick u to the tick v, cut to the ticks lo to hi: "a piece's time by the sum of the levels at its two ends"
unfoldable pub cut : (ℕ → ℕ) → ℕ → ℕ → ℕ → ℕ → ℕ
cut f u v lo hi = (min v hi - max u lo) * (f (max u lo) + f (min v hi))

-- "the sum over its straight pieces" from the tick u on, cut to the ticks lo to hi: way and hold of each segment, and the rest after the last stop
unfoldable pub cuts : ℕ → (ℕ → ℕ) → ℕ → List Segment → ℕ → ℕ → ℕ
cuts p f u [] lo hi = (hi - max u lo) * (f (max u lo) + f hi)
cuts p f u (l ∷ ls) lo hi =
    cut f u (u + ticks p l) lo hi
    + (cut f (u + ticks p l) (u + ticks p l + l.hold * p) lo hi
    + cuts p f (u + ticks p l + l.hold * p) ls lo hi)

-- twice the exact area of a course from its second lo to its second hi
unfoldable pub exact_twice : Trajectory → ℕ → ℕ → Fraction
exact_twice c lo hi =
    let p : ℕ = ticks_of c in
    record { num = cuts p (exact_at p c) 0 (segments c) (lo * p) (hi * p); den = p * p }
