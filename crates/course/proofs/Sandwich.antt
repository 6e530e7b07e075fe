-- Recorded progress at ticks lies between the exact progress n seconds ago and the exact progress, for n legs.
use mathlib.Core.Path.{◌≡◌, ap, sym, ◌∙◌}
use mathlib.Core.List.{List, [], ◌∷◌}
use Prim.Native.Nat.{ℕ, suc, ◌+◌, ◌*◌, ◌-◌, ◌/◌, ◌%◌, min, ◌≤◌, ◌<◌}
use native.Mathlib.Nat.{le_of_lt, add-zero, mul-le-mul_left, mul-le-mul_right, mod-lt, div-add-mod', mul-add-div_right, mul-add-mod_self_right, div-eq_of_lt, mod-eq_of_lt, zero-div, zero-mod}
use native.Mathlib.Decide.{dec_le}
use native.Mathlib.Omega.{arith}
use lib.ListN.{length}
use Rattle.course.specs.declared.Segment.{Segment}
use Rattle.course.specs.Recorded.{Ok, recorded, between, recorded_tick}
use Rattle.course.specs.Pieces.{seconds}
use Rattle.course.specs.Exact.{ticks, exact}
use Rattle.course.proofs.Segments.{ticks_low, ticks_high, recorded_zero, recorded_mono, exact_mono}

mul_min : (c a b : ℕ) → c * min a b ≡ min (c * a) (c * b)
mul_min c a b = elim (dec_le a b) [
  | yes h ↦ omega (arith, ap (λ n. c * n) (min_left h), mul-le-mul_left c h)
  | no h ↦ omega (arith, ap (λ n. c * n) (min_right h), mul-le-mul_left c (above h))
]
  where
    min_left : a ≤ b → min a b ≡ a
    min_left h = omega arith

    min_right : ¬ (a ≤ b) → min a b ≡ b
    min_right h = omega arith

    above : ¬ (a ≤ b) → b ≤ a
    above h = omega arith

-- a tick is the i-th of its second
pub split_tick : (p j : ℕ) → j ≡ j / p * p + j % p
split_tick p j = sym (div-add-mod' j p)

-- at the i-th tick of the second k
pub between_at : (p : ℕ) (f : ℕ → ℕ) (k i : ℕ) → i < p → between p f (k * p + i) ≡ p * f k + i * (f (suc k) - f k)
unfolding between
between_at p f k i h = rw (mul-add-div_right {m = p} (omega arith) k i, mul-add-mod_self_right k p i, div-eq_of_lt h, mod-eq_of_lt h, add-zero)

-- two functions that do not fall are read one by one
between_add : (p : ℕ) (f g : ℕ → ℕ) → ((k : ℕ) → f k ≤ f (suc k)) → ((k : ℕ) → g k ≤ g (suc k)) → (j : ℕ) →
    between p (λ k. f k + g k) j ≡ between p f j + between p g j
unfolding between
between_add p f g hf hg j =
    let q : ℕ = j / p in
    omega (arith, ap (λ n. j % p * n) (parts (hf q) (hg q)))
  where
    parts : {a b c d : ℕ} → a ≤ b → c ≤ d → b + d - (a + c) ≡ (b - a) + (d - c)
    parts h k = omega arith

-- a function that starts s seconds later
between_zero : (p : ℕ) (f : ℕ → ℕ) → f 0 ≡ 0 → between p f 0 ≡ 0
unfolding between
between_zero p f z = rw (zero-div, zero-mod, z) (omega arith)

later_after : (p : ℕ) (f : ℕ → ℕ) (s d i : ℕ) → i < p → between p (λ k. f (k - s)) ((s + d) * p + i) ≡ between p f (d * p + i)
later_after p f s d i h =
    let e : s + d - s ≡ d = omega arith in
    let e' : suc (s + d) - s ≡ suc d = omega arith in
    rw (between_at p (λ k. f (k - s)) (s + d) i h, between_at p f d i h, e, e')

later_before : (p : ℕ) (f : ℕ → ℕ) → f 0 ≡ 0 → (s j : ℕ) → suc (j / p) ≤ s → between p (λ k. f (k - s)) j ≡ 0
unfolding between
later_before p f z s j h =
    let e : j / p - s ≡ 0 = omega arith in
    let e' : suc (j / p) - s ≡ 0 = omega arith in
    rw (e, e', z) (omega arith)

between_later : (p : ℕ) → 0 < p → (f : ℕ → ℕ) → f 0 ≡ 0 → (s j : ℕ) → between p (λ k. f (k - s)) j ≡ between p f (j - s * p)
between_later p h f z s j = elim (dec_le s (j / p)) [ yes le ↦ after le | no gt ↦ before (omega arith) ]
  where
    after : s ≤ j / p → between p (λ k. f (k - s)) j ≡ between p f (j - s * p)
    after le =
        let d : ℕ = j / p - s in
        let q : (s + d) * p ≡ j / p * p = ap (λ n. n * p) (omega arith) in
        ap (between p (λ k. f (k - s))) (omega (arith, split_tick p j)) ∙ later_after p f s d (j % p) (mod-lt j h)
        ∙ ap (between p f) (omega (arith, split_tick p j))

    before : suc (j / p) ≤ s → between p (λ k. f (k - s)) j ≡ between p f (j - s * p)
    before le =
        let e : j - s * p ≡ 0 = omega (arith, split_tick p j, mod-lt j h, mul-le-mul_right p le) in
        later_before p f z s j le ∙ sym (ap (between p f) e ∙ between_zero p f z)

-- one leg's rise, read at ticks
rise : Segment → ℕ → ℕ
rise l k = min (k * l.rate) l.way

rise_up : (l : Segment) (k : ℕ) → rise l k ≤ rise l (suc k)
unfolding rise
rise_up l k = omega arith

rise_high : (p : ℕ) → 0 < p → (l : Segment) (j : ℕ) → between p (rise l) j ≤ min (j * l.rate) (l.way * p)
unfolding rise between
rise_high p h l j =
    let q : ℕ = j / p in
    let i : ℕ = j % p in
    let x : ℕ = min (q * l.rate) l.way in
    let y : ℕ = min (suc q * l.rate) l.way in
    let d : ℕ = y - x in
    omega (
      arith,
      mul-le-mul_left {m = x} {n = q * l.rate} p (omega arith),
      mul-le-mul_left {m = d} {n = l.rate} i (omega arith),
      ap (λ n. n * l.rate) (split_tick p j),
      mul-le-mul_right {n = p} d (le_of_lt (mod-lt j h)),
      mul-le-mul_left {m = x + d} {n = l.way} p (omega arith),
    )

rise_low : (p : ℕ) → 0 < p → (l : Segment) (j : ℕ) → min ((j - p) * l.rate) (l.way * p) ≤ between p (rise l) j
unfolding rise between
rise_low p h l j =
    let q : ℕ = j / p in
    omega (arith, mul_min p (q * l.rate) l.way, mul-le-mul_right {m = j - p} {n = q * p} l.rate (omega (arith, split_tick p j, mod-lt j h)))

-- a course's recorded progress at ticks, by its legs
recorded_tick_cons : (p : ℕ) → 0 < p → (l : Segment) (ls : List Segment) (j : ℕ) →
    recorded_tick p (l ∷ ls) j ≡ between p (rise l) j + recorded_tick p ls (j - (seconds l + l.hold) * p)
unfolding recorded_tick recorded rise
recorded_tick_cons p h l ls j =
    let s : ℕ = seconds l + l.hold in
    between_add p (rise l) (λ k. recorded ls (k - s)) (rise_up l) (λ k. recorded_mono ls (k - s) (suc k - s) (omega arith)) j
    ∙ ap (λ n. between p (rise l) j + n) (between_later p h (recorded ls) (recorded_zero ls) s j)

pub recorded_tick_nil : (p j : ℕ) → recorded_tick p [] j ≡ 0
unfolding recorded_tick recorded between
recorded_tick_nil p j = omega arith

pub recorded_below_exact : (p : ℕ) → 0 < p → (ls : List Segment) → Ok p ls → (j : ℕ) → recorded_tick p ls j ≤ exact p ls j
unfolding exact
recorded_below_exact p h [] ok j = omega (arith, recorded_tick_nil p j)
recorded_below_exact p h (l ∷ ls) ok j =
    let a : ℕ = j - (seconds l + l.hold) * p in
    let b : ℕ = j - (ticks p l + l.hold * p) in
    omega (
      arith,
      recorded_tick_cons p h l ls j,
      rise_high p h l j,
      recorded_below_exact p h ls ok.1 a,
      exact_mono p ls a b (omega (arith, ticks_low p l ok.0)),
    )

pub recorded_above_delayed : (p : ℕ) → 0 < p → (ls : List Segment) → Ok p ls → (j : ℕ) → exact p ls (j - length ls * p) ≤ recorded_tick p ls j
unfolding exact
recorded_above_delayed p h [] ok j = omega arith
recorded_above_delayed p h (l ∷ ls) ok j =
    let n : ℕ = suc (length ls) * p in
    let a : ℕ = j - n - (ticks p l + l.hold * p) in
    let b : ℕ = j - (seconds l + l.hold) * p in
    omega (
      arith,
      recorded_tick_cons p h l ls j,
      rise_low p h l j,
      mul-le-mul_right {m = j - n} {n = j - p} l.rate (omega arith),
      recorded_above_delayed p h ls ok.1 b,
      exact_mono p ls a (b - length ls * p) (omega (arith, ticks_high p l ok.0)),
    )
