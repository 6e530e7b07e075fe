-- A course of two legs, worked: the definitions compute, and the theorems hold of it.
use mathlib.Core.Path.{◌≡◌, refl}
use mathlib.Core.List.{List, [], ◌∷◌}
use Prim.Native.Nat.{◌+◌, ◌*◌, ◌≤◌}
use native.Mathlib.Nat.{dvd_refl}
use native.Mathlib.Omega.{arith}
use Rattle.level.specs.Lists.{sum}
use Rattle.course.specs.declared.Segment.{Segment}
use Rattle.course.specs.Recorded.{Ok, Valid, recorded, between, recorded_tick, whole_way, area}
use Rattle.course.specs.Pieces.{seconds}
use Rattle.course.specs.Exact.{ticks, exact, rate_product}
use Rattle.course.proofs.Bound.{bound_of_seconds}
use Rattle.course.proofs.Product.{product_ok}

abbrev two_segments : List Segment
two_segments = record { way = 100; rate = 3; hold = 5 } ∷ record { way = 50; rate = 7; hold = 2 } ∷ []

-- 34 seconds up, 5 held, 8 up; recorded at 33, 34, 39, 40, 47 and 60 seconds
at_seconds : recorded two_segments 33 ∷ recorded two_segments 34 ∷ recorded two_segments 39 ∷ recorded two_segments 40 ∷ recorded two_segments 47 ∷
    recorded two_segments 60 ∷ []
    ≡ 99 ∷ 100 ∷ 100 ∷ 107 ∷ 150 ∷ 150 ∷ []
unfolding recorded seconds
at_seconds = refl

per_second : rate_product two_segments ≡ 21
unfolding rate_product
per_second = refl

at_ticks : exact 21 two_segments 700 ∷ exact 21 two_segments 805 ∷ exact 21 two_segments 806 ∷ recorded_tick 21 two_segments 700 ∷ recorded_tick 21
    two_segments 825 ∷ []
    ≡ 2100 ∷ 2100 ∷ 2107 ∷ 2086 ∷ 2142 ∷ []
unfolding exact ticks recorded_tick between recorded seconds
at_ticks = refl

valid : Valid two_segments
valid = omega arith

ok : Ok 21 two_segments
ok = product_ok 21 two_segments (rw per_second (dvd_refl 21)) valid

-- twice the area over the first minute: by the sum, by the closed form, and the exact one against it
summed : area (recorded two_segments) 0 60 ≡ 10408
unfolding area sum recorded seconds
summed = refl

bounds : (21 * 21 * area (recorded two_segments) 0 60 ≤ area (exact 21 two_segments) 0 1260) ×
    (area (exact 21 two_segments) 0 1260 ≤ 21 * 21 * (area (recorded two_segments) 0 60 + 600))
unfolding whole_way
bounds = bound_of_seconds 21 (omega arith) two_segments ok 0 60
