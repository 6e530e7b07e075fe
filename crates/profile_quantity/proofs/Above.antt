-- A quantity above a figure, by the sums at the half-hour boundaries.
use Rattle.std.proofs.Common.{◌≡◌, refl, ap, sym, ◌∙◌, ℕ, zero, suc, ◌+◌, ◌*◌, ◌-◌, ◌<◌, ◌||◌, Bool, leb, ltb, List, ◌∷◌, length, get_or, take, drop, drop-cons, arith}
use native.Mathlib.Numerals.{add-one}
use native.Mathlib.Decide.{dec_le}
use borrow.Author.Tests.{lt-ltb, le-ltb, le-leb, lt-leb}
use Rattle.std.specs.List.{list_any, zip}
use Rattle.level.specs.Lists.{some, list_from}
use Rattle.profile.specs.Profile.{rounded}
use Rattle.profile.specs.Finding.{quantity_at}
use Rattle.profile_quantity.specs.Summing.{some_above}

module _ (sums : List ℕ) (i : ℕ) where
  pub quantity_is : rounded (get_or sums (i + 1) 0 - get_or sums i 0) ≡ quantity_at sums i
  unfolding quantity_at
  quantity_is = ap (λ (k : ℕ). rounded (get_or sums k 0 - get_or sums i 0)) (add-one i)

module _ (most : ℕ) where
  -- of a half-hour, by the sums where it begins and where it ends: twice its area comes to half a kW more
  abbrev pub above : ℕ × ℕ → Bool
  above p = leb (most * 216000 + 108000) (p.1 - p.0)

  above_is : (p : ℕ × ℕ) → above p ≡ ltb most (rounded (p.1 - p.0))
  unfolding rounded
  above_is p = elim (dec_le (most * 216000 + 108000) (p.1 - p.0)) [
    | yes h ↦ le-leb (most * 216000 + 108000) (p.1 - p.0) h ∙ sym (lt-ltb most (rounded (p.1 - p.0)) (omega arith))
    | no h ↦ lt-leb (most * 216000 + 108000) (p.1 - p.0) (omega arith) ∙ sym (le-ltb most (rounded (p.1 - p.0)) (omega arith))
  ]

  -- of n half-hours from the boundary i on
  above_from : (xs : List ℕ) (i n : ℕ) → i + n < length xs →
      list_any above (zip (take n (drop i xs)) (drop (suc i) xs)) ≡ some (λ q. ltb most q) (list_from (quantity_at xs) i n)
  unfolding some list_from quantity_at
  above_from xs i zero h = refl
  above_from xs i (suc n) h =
      let here : drop i xs ≡ get_or xs i 0 ∷ drop (suc i) xs = drop-cons xs i 0 (omega arith) in
      let next : drop (suc i) xs ≡ get_or xs (suc i) 0 ∷ drop (suc (suc i)) xs = drop-cons xs (suc i) 0 (omega arith) in
      (λ j. list_any above (zip (take (suc n) (here j)) (next j)))
      ∙ (λ j. above_is (get_or xs i 0, get_or xs (suc i) 0) j || above_from xs (suc i) n (omega arith) j)

  pub above_all : (xs : List ℕ) (n : ℕ) → n < length xs → list_any above (zip (take n xs) (drop 1 xs)) ≡ some_above most xs n
  unfolding some_above
  above_all xs n h = above_from xs 0 n (omega arith)
