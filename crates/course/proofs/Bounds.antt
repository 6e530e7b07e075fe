-- Over any bound-of-seconds seconds of a course, twice the area recorded and twice the exact area differ by at most 2 times stops times distance.
use mathlib.Core.Path.{◌≡◌, refl, ap}
use Prim.Native.Nat.{ℕ, zero, suc, ◌+◌, ◌*◌, ◌≤◌, ◌<◌}
use native.Mathlib.Nat.{mul-le-mul_right, dvd_refl}
use native.Mathlib.Omega.{arith}
use lib.ListN.{length}
use Rattle.level.specs.Lists.{sum}
use Rattle.course.specs.Recorded.{Ok, recorded, area, whole_way}
use Rattle.course.specs.Exact.{exact, rate_product, ticks_of, exact_at}
use Rattle.course.proofs.Segments.{exact_top, recorded_top}
use Rattle.course.proofs.Bound.{bound_of_seconds}
use Rattle.course.proofs.Product.{product_ok, product_pos}
use Rattle.course.specs.declared.Heading.{Heading}
use Rattle.course.specs.declared.Heading.TheVariants.{Rising, Falling}
use Rattle.course.specs.Course.{heading, Trajectory, toward, gap, level_at, stops, distance, segments}
use Rattle.course.proofs.Whole.{Driven, short_start, level_segments, as_many, ways_whole, ways_within, segments_valid}

area_up : (f g : ℕ → ℕ) (s : ℕ) → ((j : ℕ) → g j ≡ s + f j) → (a n : ℕ) → area g a n ≡ 2 * (s * n) + area f a n
unfolding area sum
area_up f g s h a zero = omega arith
area_up f g s h a (suc n) = omega (arith, h a, h (suc a), area_up f g s h (suc a) n)

pub area_down : (f g : ℕ → ℕ) (s : ℕ) → ((j : ℕ) → g j + f j ≡ s) → (a n : ℕ) → area g a n + area f a n ≡ 2 * (s * n)
unfolding area sum
area_down f g s h a zero = omega arith
area_down f g s h a (suc n) = omega (arith, h a, h (suc a), area_down f g s h (suc a) n)

-- two paths moved from s by what r and e say, either way
bounds : (h : Heading) (s p b : ℕ) (r e v x : ℕ → ℕ) → ((j : ℕ) → v j ≡ toward h s (r j)) → ((j : ℕ) → x j ≡ toward h (s * p) (e j)) →
    (h ≡ Falling → (j : ℕ) → (r j ≤ s) × (e j ≤ s * p)) → (a n : ℕ) →
    (p * p * area r a n ≤ area e (a * p) (n * p)) × (area e (a * p) (n * p) ≤ p * p * (area r a n + b)) →
    gap (p * p * area v a n) (area x (a * p) (n * p)) ≤ p * p * b
unfolding toward gap
bounds Rising s p b r e v x hv hx top a n w = omega (arith, ap (λ m. p * p * m) (area_up r v s hv a n), area_up e x (s * p) hx (a * p) (n * p))
bounds Falling s p b r e v x hv hx top a n w =
    let m = top refl in
    omega (
      arith,
      ap (λ m. p * p * m) (area_down r v s (λ j. omega (arith, hv j, m j)) a n),
      area_down e x (s * p) (λ j. omega (arith, hx j, m j)) (a * p) (n * p),
    )

-- a falling course goes no further than its start
pub fall : (c : Trajectory) → heading c ≡ Falling → (p j : ℕ) → (recorded (segments c) j ≤ c.start) × (exact p (segments c) j ≤ c.start * p)
unfolding distance gap
fall c q p j =
    let t : c.target ≤ c.start = rw q at (short_start c) in
    let le : whole_way (segments c) ≤ c.start = omega (arith, ways_within c) in
    omega (arith, recorded_top (segments c) j, exact_top p (segments c) j, mul-le-mul_right p le)

-- T5: p is any number of ticks to a second that the legs' rates divide
pub course_bound : (c : Trajectory) → Driven c.lists → (p : ℕ) → 0 < p → Ok p (segments c) → (a n : ℕ) →
    gap (p * p * area (level_at c) a n) (area (exact_at p c) (a * p) (n * p)) ≤ p * p * (2 * (length (stops c) * distance c))
unfolding exact_at
course_bound c d p pos ok a n =
    rw (← as_many c d, ← ways_whole c d)
    (bounds (heading c) c.start p _ (recorded (segments c)) (exact p (segments c)) (level_at c) (exact_at p c) (level_segments c) (λ j. refl)
    (λ q j. fall c q p j)
    a n (bound_of_seconds p pos (segments c) ok a n))

-- the product of the rates is one such number
pub ticks_ok : (c : Trajectory) → (0 < ticks_of c) × Ok (ticks_of c) (segments c)
unfolding ticks_of
ticks_ok c = (
  product_pos (segments c) (segments_valid c),
  product_ok (rate_product (segments c)) (segments c) (dvd_refl (rate_product (segments c))) (segments_valid c),
)
