-- An array whose elements are all one value.
use Prim.Native.Nat.{ℕ, zero, suc, ◌<◌}
use mathlib.Core.Path.{◌≡◌, refl}
use mathlib.Core.List.{List, [], ◌∷◌}
use native.Mathlib.Omega.{arith}
use lib.ListN.{length, get_or, replicate}
use Rattle.std.specs.Array.{AllOfLen}

module _ {A : Type 0} (P : A → Type 0) (z : A) (one : (x : A) → P x → x ≡ z) where
  each_is : (xs : List A) (n : ℕ) → length xs ≡ n → ((i : ℕ) → i < n → P (get_or xs i z)) → xs ≡ replicate n z
  each_is [] zero e f = refl
  each_is [] (suc n) e f = absurd (omega arith)
  each_is (x ∷ xs) zero e f = absurd (omega arith)
  each_is (x ∷ xs) (suc n) e f = λ i. one x (f 0 (omega arith)) i ∷ each_is xs n (omega arith) (λ j h. f (suc j) (omega arith)) i

  pub all_of : (xs : List A) (n : ℕ) → AllOfLen P xs n → xs ≡ replicate n z
  all_of xs n a = each_is xs n a.long (λ i h. a.at i z h)
