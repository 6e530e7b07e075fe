-- The theorems: over any window, twice the area under the recorded progress is at most that under the exact progress, and short of it
-- by at most two times n seconds at the whole distance; and over whole seconds it is that of the seconds' own records.
use mathlib.Core.Path.{◌≡◌, ap, sym, ◌∙◌}
use mathlib.Core.List.{List}
use Prim.Native.Nat.{ℕ, zero, suc, ◌+◌, ◌*◌, ◌-◌, ◌≤◌, ◌<◌}
use native.Mathlib.Nat.{zero-mul, suc-mul, add_comm}
use native.Mathlib.Decide.{dec_le}
use native.Mathlib.Omega.{arith}
use lib.ListN.{length}
use Rattle.level.specs.Lists.{sum}
use Rattle.course.specs.declared.Segment.{Segment}
use Rattle.course.specs.Recorded.{Ok, recorded, between, recorded_tick, whole_way, area}
use Rattle.course.specs.Exact.{exact}
use Rattle.course.proofs.Sums.{sum_le, sum_lag, area_sums, area_split, area_line}
use Rattle.course.proofs.Segments.{recorded_mono, exact_top}
use Rattle.course.proofs.Sandwich.{between_at, recorded_below_exact, recorded_above_delayed}

module _ (p : ℕ) (h : 0 < p) (ls : List Segment) (ok : Ok p ls) where
  -- A
  pub sandwich : (j : ℕ) → (exact p ls (j - length ls * p) ≤ recorded_tick p ls j) × (recorded_tick p ls j ≤ exact p ls j)
  sandwich j = (recorded_above_delayed p h ls ok j, recorded_below_exact p h ls ok j)

  short : (a n : ℕ) → sum (exact p ls) a n ≤ sum (recorded_tick p ls) a n + length ls * p * (whole_way ls * p)
  short a n =
      let s : ℕ = length ls * p in
      omega (
        arith,
        sum_lag (exact p ls) (whole_way ls * p) (exact_top p ls) s a n,
        sum_le (λ j. exact p ls (j - s)) (recorded_tick p ls) (recorded_above_delayed p h ls ok) a n,
      )

  -- B, over the n ticks from a
  pub bound_of_ticks : (a n : ℕ) → (area (recorded_tick p ls) a n ≤ area (exact p ls) a n) ×
      (area (exact p ls) a n ≤ area (recorded_tick p ls) a n + 2 * (length ls * p * (whole_way ls * p)))
  bound_of_ticks a n =
      let e = area_sums (exact p ls) a n in
      let r = area_sums (recorded_tick p ls) a n in (
        omega (
          arith,
          sum_le (recorded_tick p ls) (exact p ls) (recorded_below_exact p h ls ok) a n,
          sum_le (recorded_tick p ls) (exact p ls) (recorded_below_exact p h ls ok) (suc a) n,
        ),
        omega (arith, short a n, short (suc a) n),
      )

-- C
area_second : (p : ℕ) → 0 < p → (f : ℕ → ℕ) → ((k : ℕ) → f k ≤ f (suc k)) → (k : ℕ) → area (between p f) (k * p) p ≡ p * p * (f k + f (suc k))
area_second p h f up k = area_line (between p f) (k * p) (p * f k) d p at ∙ omega (arith, ap (λ n. p * p * n) e)
  where
    d : ℕ
    d = f (suc k) - f k

    e : f k + d ≡ f (suc k)
    e = omega (arith, up k)

    end : between p f (suc k * p + 0) ≡ p * f k + p * d
    end = between_at p f (suc k) 0 h ∙ omega (arith, ap (λ n. p * n) e)

    at : (i : ℕ) → i ≤ p → between p f (k * p + i) ≡ p * f k + i * d
    at i le = elim (dec_le (suc i) p) [
      | yes lt ↦ between_at p f k i lt
      | no ge ↦ let same : i ≡ p = omega arith in rw same (ap (between p f) (omega arith) ∙ end)
    ]

pub area_seconds : (p : ℕ) → 0 < p → (f : ℕ → ℕ) → ((k : ℕ) → f k ≤ f (suc k)) → (a n : ℕ) → area (between p f) (a * p) (n * p) ≡ p * p * area f a n
unfolding area sum
area_seconds p h f up a zero = rw zero-mul (omega arith)
area_seconds p h f up a (suc n) =
    ap (area (between p f) (a * p)) (suc-mul n p ∙ add_comm (n * p) p) ∙ area_split (between p f) (a * p) p (n * p)
    ∙ omega (arith, area_second p h f up a, ap (λ k. area (between p f) k (n * p)) (sym (suc-mul a p)), area_seconds p h f up (suc a) n)

pub recorded_seconds : (p : ℕ) → 0 < p → (ls : List Segment) (a n : ℕ) → area (recorded_tick p ls) (a * p) (n * p) ≡ p * p * area (recorded ls) a n
unfolding recorded_tick
recorded_seconds p h ls a n = area_seconds p h (recorded ls) (λ k. recorded_mono ls k (suc k) (omega arith)) a n

-- D
pub straight : (l r t : ℕ) → area (λ j. l + j * r) 0 t ≡ t * (2 * l + t * r)
straight l r t = area_line (λ j. l + j * r) 0 l r t (λ i le. omega arith)

-- B and C together, over the n seconds from a: in grain seconds the record is short by at most 2 n D
pub bound_of_seconds : (p : ℕ) → 0 < p → (ls : List Segment) → Ok p ls → (a n : ℕ) →
    (p * p * area (recorded ls) a n ≤ area (exact p ls) (a * p) (n * p)) ×
    (area (exact p ls) (a * p) (n * p) ≤ p * p * (area (recorded ls) a n + 2 * (length ls * whole_way ls)))
bound_of_seconds p h ls ok a n =
    let w = bound_of_ticks p h ls ok (a * p) (n * p) in
    let s = recorded_seconds p h ls a n in
    (omega arith, omega arith)

-- B from a up to b
pub window_to : (p : ℕ) → 0 < p → (ls : List Segment) → Ok p ls → (a b : ℕ) → a ≤ b →
    (area (recorded_tick p ls) a (b - a) ≤ area (exact p ls) a (b - a)) ×
    (area (exact p ls) a (b - a) ≤ area (recorded_tick p ls) a (b - a) + 2 * (length ls * p * (whole_way ls * p)))
window_to p h ls ok a b le = bound_of_ticks p h ls ok a (b - a)
