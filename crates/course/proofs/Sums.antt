-- Sums over a run of numbers: added, split, moved by some places; the area under a straight line.
use mathlib.Core.Path.{◌≡◌, refl, ap, sym, ◌∙◌}
use Prim.Native.Nat.{ℕ, zero, suc, ◌+◌, ◌*◌, ◌-◌, ◌≤◌}
use native.Mathlib.Nat.{le_refl, zero-add, add-zero, add-suc, suc-add, sub-zero, suc-sub-suc, add-le-add}
use native.Mathlib.Omega.{arith}
use Rattle.level.specs.Lists.{sum}
use Rattle.course.specs.Recorded.{area}

pub sum_le : (f g : ℕ → ℕ) → ((j : ℕ) → f j ≤ g j) → (a n : ℕ) → sum f a n ≤ sum g a n
unfolding sum
sum_le f g h a zero = le_refl 0
sum_le f g h a (suc n) = add-le-add (h a) (sum_le f g h (suc a) n)

pub sum_eq : (f g : ℕ → ℕ) → ((j : ℕ) → f j ≡ g j) → (a n : ℕ) → sum f a n ≡ sum g a n
unfolding sum
sum_eq f g h a zero = refl
sum_eq f g h a (suc n) = omega (arith, h a, sum_eq f g h (suc a) n)

pub sum_add : (f g : ℕ → ℕ) (a n : ℕ) → sum (λ j. f j + g j) a n ≡ sum f a n + sum g a n
unfolding sum
sum_add f g a zero = refl
sum_add f g a (suc n) = omega (arith, sum_add f g (suc a) n)

pub sum_split : (f : ℕ → ℕ) (a m n : ℕ) → sum f a (m + n) ≡ sum f a m + sum f (a + m) n
unfolding sum
sum_split f a zero n = rw (zero-add n, add-zero a, zero-add)
sum_split f a (suc m) n = rw (suc-add m n) (omega (arith, sum_split f (suc a) m n, ap (λ k. sum f k n) (suc-add a m ∙ sym (add-suc a m))))

-- one place further on
pub sum_shift : (f : ℕ → ℕ) (a n : ℕ) → sum (λ j. f (suc j)) a n ≡ sum f (suc a) n
unfolding sum
sum_shift f a zero = refl
sum_shift f a (suc n) = omega (arith, sum_shift f (suc a) n)

sum_next : (f : ℕ → ℕ) (a n : ℕ) → sum f (suc a) n + f a ≡ sum f a n + f (a + n)
unfolding sum
sum_next f a zero = omega (arith, ap f (add-zero a))
sum_next f a (suc n) = omega (arith, sum_next f (suc a) n, ap f (suc-add a n ∙ sym (add-suc a n)))

-- a sum against the same sum s places back, of a function that is nowhere above m
pub sum_lag : (f : ℕ → ℕ) (m : ℕ) → ((j : ℕ) → f j ≤ m) → (s a n : ℕ) → sum f a n ≤ sum (λ j. f (j - s)) a n + s * m
sum_lag f m h zero a n = omega (arith, sum_eq f (λ j. f (j - 0)) (λ j. ap f (sym (sub-zero j))) a n)
sum_lag f m h (suc s) a n =
    let g : ℕ → ℕ = λ j. f (j - suc s) in
    omega (
      arith,
      sum_lag f m h s a n,
      sum_eq (λ j. f (j - s)) (λ j. g (suc j)) (λ j. ap f (sym (suc-sub-suc j s))) a n,
      sum_shift g a n,
      sum_next g a n,
      h (a + n - suc s),
    )

pub area_sums : (f : ℕ → ℕ) (a n : ℕ) → area f a n ≡ sum f a n + sum f (suc a) n
unfolding area
area_sums f a n = omega (arith, sum_add f (λ j. f (suc j)) a n, sum_shift f a n)

pub area_split : (f : ℕ → ℕ) (a m n : ℕ) → area f a (m + n) ≡ area f a m + area f (a + m) n
unfolding area
area_split f a m n = sum_split (λ j. f j + f (suc j)) a m n

-- twice the area under a straight piece of n ticks, from the level l, by r a tick
pub area_line : (f : ℕ → ℕ) (a l r n : ℕ) → ((i : ℕ) → i ≤ n → f (a + i) ≡ l + i * r) → area f a n ≡ n * (2 * l + n * r)
unfolding area sum
area_line f a l r zero h = omega arith
area_line f a l r (suc n) h =
    omega (
      arith,
      h 0 (omega arith),
      ap f (add-zero a),
      h 1 (omega arith),
      ap f (add-suc a 0 ∙ ap suc (add-zero a)),
      area_line f (suc a) (l + r) r n (λ i le. ap f (suc-add a i ∙ sym (add-suc a i)) ∙ h (suc i) (omega arith) ∙ omega arith),
    )
