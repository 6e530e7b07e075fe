-- The first few of some.
use mathlib.Core.Path.{◌≡◌, sym, ap, ◌∙◌}
use mathlib.Core.List.{List, [], ◌∷◌, ◌++◌}
use Prim.Native.Nat.{ℕ, ◌+◌, ◌-◌, ◌≤◌, min}
use native.Mathlib.Decide.{dec_le}
use native.Mathlib.Omega.{arith}
use lib.ListN.{length, take, drop, replicate, take-append-drop, length-take, length-append}
use lib.Seq.{take-take, take_all, take-append-add, drop-append-le}
use Rattle.std.proofs.lemmas.List.{drop_all, take-replicate, drop-replicate}
use Rattle.level.specs.Lists.{filled}
use Rattle.level.specs.Few.{Few, few_of, with_one, first_few}

module _ {T : Type 0} (items : List T) (count n : ℕ) (h : count ≤ length items) where
  pub first_few_is : (m : ℕ) → m ≡ min count n → (v : Few T) → record { these = take count items; spare = drop count items } ≡ v →
      record { these = take m items; spare = drop m items } ≡ first_few v n
  first_few_is m e v q = elim (dec_le n count) [
    | yes p ↦
        let k : m ≡ n = omega arith in
        let low : n ≤ length (take count items) = omega (arith, length-take count items) in
        let a = sym (take-take n count items p) in
        let b : drop n items ≡ drop n (take count items) ++ drop count items =
        ap (drop n) (sym (take-append-drop count items)) ∙ drop-append-le n (take count items) (drop count items) low in
        rw k ((λ i. record { these = a i; spare = b i }) ∙ ap (λ (u : Few T). first_few u n) q)
    | no p ↦
        let k : m ≡ count = omega arith in
        let all : length (take count items) ≤ n = omega (arith, length-take count items) in
        let a = sym (take_all n (take count items) all) in
        let b : drop count items ≡ drop n (take count items) ++ drop count items = rw (drop_all n (take count items) all) in
        rw k ((λ i. record { these = a i; spare = b i }) ∙ ap (λ (u : Few T). first_few u n) q)
  ]

-- one more, where the other places hold one value
pub few_push : {T : Type 0} (n : ℕ) (z : T) (xs : List T) (x : T) → with_one (few_of n z xs) x ≡ few_of n z (xs ++ (x ∷ []))
few_push n z xs x =
    let e : n - length xs - 1 ≡ n - length (xs ++ (x ∷ [])) = simp length-append (omega arith) in
    λ i. record { these = xs ++ (x ∷ []); spare = (drop-replicate 1 (n - length xs) z ∙ ap (λ k. replicate k z) e) i }

-- all its places, as an array that begins with these
pub few_filled : {T : Type 0} (n : ℕ) (z : T) (xs : List T) → length xs ≤ n → xs ++ replicate (n - length xs) z ≡ filled n z xs
unfolding filled
few_filled n z xs h =
    let e : length xs + (n - length xs) ≡ n = omega arith in
    sym (ap (λ k. take k (xs ++ replicate n z)) (sym e) ∙ (take-append-add xs (replicate n z) (n - length xs)
    ∙ ap (λ ys. xs ++ ys) (take-replicate (n - length xs) n z (omega arith))))
