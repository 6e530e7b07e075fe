-- The cases of the checks of a unit, each with its conditions as plain facts.
use Prim.Native.Nat.{ℕ, zero, suc, ◌+◌, ◌*◌, ◌<◌, ◌≤◌}
use native.Mathlib.Omega.{arith}
use native.Mathlib.Numerals.{add-one}
use mathlib.Core.Path.{◌≡◌, refl, sym, ap, ◌∙◌}
use mathlib.Core.Bool.{Bool, true, false, ◌&&◌, ◌||◌, not, or-true, and-true, and_assoc}
use mathlib.Core.List.{List, [], ◌∷◌, ◌++◌, map}
use lib.Dec.{leb, ltb}
use lib.ListN.{length, get_or, take, drop}
use lib.Seq.{drop-cons, take-suc, take_all}
use borrow.Author.Tests.{lt-ltb, le-ltb}
use Rattle.std.specs.List.{list_any, fold, zip}
use Rattle.std.specs.List.Sorted.{IsNonDecreasing}
use Rattle.std.specs.Bool.{MatchBool}
use denote.Param.Members.{Mut, Called}
use Rattle.std.specs.Array.{IsFromFnResultFrom}
use Rattle.level.specs.Lists.{some}
use Rattle.records.specs.Records.{number_at, numbers}
use Rattle.records.specs.Fields.{Range, in_range, fit_from, falls_below, falls}
use Rattle.records_unit.specs.declared.Range as own

-- ---- the numbers of a body, made by calls in turn that each give the next
module _ {F : Type 0} (g : Mut F (ℕ × Unit {0}) ℕ) (f : F) (b ns : List ℕ)
    (gives : (i n : ℕ) (q : F) → Called g f (i, tt) n q → (q ≡ f) × (n ≡ number_at b (i * 4))) where
  pub made_from : (i k : ℕ) → i + k ≡ length ns → take i ns ≡ numbers b i → IsFromFnResultFrom g f ns i k → ns ≡ numbers b (length ns)
  unfolding numbers
  made_from i zero e t m = let h : length ns ≡ i = omega (arith, e) in rw h (sym (take_all i ns (omega (arith, e))) ∙ t)
  made_from i (suc k) e t (q, n, at, call, rest) =
      let one = gives i n q call in
      let more : take (suc i) ns ≡ numbers b (suc i) =
      take-suc ns i 0 (omega (arith, e)) ∙ (λ j. t j ++ ((at.1 0 ∙ one.1) j ∷ [])) in
      made_from (suc i) k (omega (arith, e)) more (rw (add-one, one.0) at rest)

-- ---- the ranges, as the code has them
abbrev own_range : Range → own.Range
own_range r = record { low = r.low; high = r.high }

unfoldable pub own_ranges : List Range → List own.Range
own_ranges rs = map own_range rs

-- each number beside its range, from the place i on
abbrev pub looked : Bool → own.Range × ℕ → Bool
looked b p = b && (leb p.0.low p.1 && leb p.1 p.0.high)

pub all_looked : (rs : List Range) (ns : List ℕ) (i : ℕ) (b : Bool) → i + length rs ≡ length ns →
    fold looked b (zip (own_ranges rs) (drop i ns)) ≡ (b && fit_from rs ns i)
unfolding own_ranges fit_from in_range
all_looked [] ns i b e = sym (and-true b)
all_looked (r ∷ rs) ns i b e = rw (drop-cons ns i 0 (omega (arith, e)))
    (all_looked rs ns (suc i) (looked b (own_range r, get_or ns i 0)) (omega (arith, e))
    ∙ and_assoc b (in_range r (get_or ns i 0)) (fit_from rs ns (suc i)))

-- ---- breaks falling: those of a list that is not sorted
falls_none : (b : ℕ) (xs : List ℕ) → (1 ≤ length xs → b ≤ get_or xs 0 0) → ((i j : ℕ) → i ≤ j → j < length xs → get_or xs i 0 ≤ get_or xs j 0) →
    falls_below b xs ≡ false
unfolding falls_below
falls_none b [] f h = refl
falls_none b (x ∷ xs) f h =
    simp (le-ltb x b (f (omega arith))) (falls_none x xs (λ l. h 0 1 (omega arith) (omega arith)) (λ i j p l. h (suc i) (suc j) (omega arith) (omega arith)))

falls_one : (b : ℕ) (xs : List ℕ) (i : ℕ) → suc i < length xs → get_or xs (suc i) 0 < get_or xs i 0 → falls_below b xs ≡ true
unfolding falls_below
falls_one b [] i h k = absurd (omega arith)
falls_one b (x ∷ xs) (suc i) h k = rw (falls_one x xs i (omega arith) k) (or-true (ltb x b))
falls_one b (x ∷ []) zero h k = absurd (omega arith)
falls_one b (x ∷ (y ∷ ys)) zero h k = rw (lt-ltb y x k) (or-true (ltb x b))

pub falls_is : (r : Bool) (xs : List ℕ) →
    MatchBool r (IsNonDecreasing xs) ((k : ℕ) × (k + 1 < length xs) × ((d : ℕ) → get_or xs (k + 1) d < get_or xs k d)) → not r ≡ falls xs
unfolding falls
falls_is true xs h = sym (falls_none 0 xs (λ l. omega arith) (λ i j p l. h i j 0 p l))
falls_is false xs h = sym (falls_one 0 xs h.0 (omega (arith, h.1)) (rw add-one at (h.2 0)))

-- ---- an iterator's `any`
pub some_is : {A : Type 0} (f : A → Bool) (xs : List A) → list_any f xs ≡ some f xs
unfolding some
some_is f [] = refl
some_is f (x ∷ xs) = ap (λ (b : Bool). f x || b) (some_is f xs)
