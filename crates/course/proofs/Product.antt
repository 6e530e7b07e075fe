-- The product of the rates, which every rate divides: a number of ticks to a second at which each stop is reached at a tick.
use mathlib.Core.List.{List, [], ◌∷◌}
use Prim.Native.Nat.{ℕ, ◌+◌, ◌*◌, ◌≤◌, ◌<◌, ◌∣◌}
use native.Mathlib.Nat.{mul-pos, dvd_refl, dvd_trans, dvd-mul_left, dvd-mul_right}
use native.Mathlib.Omega.{arith}
use lib.ListN.{length}
use Rattle.course.specs.declared.Segment.{Segment}
use Rattle.course.specs.Recorded.{Ok, Valid, recorded, area, whole_way}
use Rattle.course.specs.Exact.{exact, rate_product}
use Rattle.course.proofs.Bound.{bound_of_seconds}

-- every rate divides a multiple of their product
pub product_ok : (p : ℕ) (ls : List Segment) → rate_product ls ∣ p → Valid ls → Ok p ls
unfolding rate_product
product_ok p [] d v = tt
product_ok p (l ∷ ls) d v = (
  record { some_way = v.0.some_way; some_rate = v.0.some_rate; divides = dvd_trans l.rate (dvd-mul_right l.rate (rate_product ls)) d },
  product_ok p ls (dvd_trans (rate_product ls) (dvd-mul_left (rate_product ls) l.rate) d) v.1,
)

pub product_pos : (ls : List Segment) → Valid ls → 0 < rate_product ls
unfolding rate_product
product_pos [] v = omega arith
product_pos (l ∷ ls) v = mul-pos v.0.some_rate (product_pos ls v.1)

-- the two bounds with the product of the rates for p: all that is asked is that the legs are valid
pub whole_product : (ls : List Segment) → Valid ls → (a n : ℕ) →
    (rate_product ls * rate_product ls * area (recorded ls) a n ≤ area (exact (rate_product ls) ls) (a * rate_product ls) (n * rate_product ls)) ×
    (area (exact (rate_product ls) ls) (a * rate_product ls) (n * rate_product ls)
    ≤ rate_product ls * rate_product ls * (area (recorded ls) a n + 2 * (length ls * whole_way ls)))
whole_product ls v = bound_of_seconds (rate_product ls) (product_pos ls v) ls (product_ok (rate_product ls) ls (dvd_refl (rate_product ls)) v)
