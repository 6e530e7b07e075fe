-- Lists, and a case of a test: what many proofs need.
use mathlib.Core.Path.{◌≡◌, refl, ap, sym, ◌∙◌}
use mathlib.Core.List.{List, [], ◌∷◌, ◌++◌, map}
use mathlib.Core.Bool.{Bool, true, false, ◌&&◌, ◌||◌, or_assoc, true≢false}
use Prim.Native.Nat.{ℕ, zero, suc, ◌+◌, ◌-◌}
use native.Mathlib.Omega.{arith}
use lib.ListN.{length, take, drop, length-drop}
use lib.Seq.{take_all}
use Rattle.level.specs.Lists.{All, some, list_from}

-- by the value of a test
pub by_bool : {P : Type 0} (b : Bool) → (b ≡ true → P) → (b ≡ false → P) → P
by_bool true t f = t refl
by_bool false t f = f refl

-- both tests hold; neither does
pub and_true : (a b : Bool) → (a && b) ≡ true → (a ≡ true) × (b ≡ true)
and_true true b e = (refl, e)
and_true false b e = absurd (true≢false (sym e))

pub or_false : (a b : Bool) → (a || b) ≡ false → (a ≡ false) × (b ≡ false)
or_false true b e = absurd (true≢false e)
or_false false b e = (refl, e)

-- a fact of each of two lists
pub all_append : {A : Type 0} (P : A → Type 0) (xs ys : List A) → All P xs → All P ys → All P (xs ++ ys)
all_append P [] ys p q = q
all_append P (x ∷ xs) ys p q = (p.0, all_append P xs ys p.1 q)

-- one passes in the one or in the other
pub some_append : {A : Type 0} (f : A → Bool) (xs ys : List A) → some f (xs ++ ys) ≡ (some f xs || some f ys)
unfolding some
some_append f [] ys = refl
some_append f (x ∷ xs) ys = ap (λ (b : Bool). f x || b) (some_append f xs ys) ∙ sym (or_assoc (f x) (some f xs) (some f ys))

-- as many as before
pub map_length : {A B : Type 0} (f : A → B) (xs : List A) → length (map f xs) ≡ length xs
map_length f [] = refl
map_length f (x ∷ xs) = ap suc (map_length f xs)

-- a part that reaches to the end
pub tail_is : (n : ℕ) (s : List ℕ) → take (length s - n) (drop n s) ≡ drop n s
tail_is n s = take_all (length s - n) (drop n s) (simp length-drop (omega arith))

-- one more at the end
pub list_snoc : (f : ℕ → ℕ) (a n : ℕ) → list_from f a (suc n) ≡ list_from f a n ++ (f (a + n) ∷ [])
unfolding list_from
list_snoc f a zero = ap (λ (k : ℕ). f k ∷ []) {x = a} {y = a + 0} (omega arith)
list_snoc f a (suc n) =
    ap (λ (xs : List ℕ). f a ∷ xs) (list_snoc f (suc a) n
    ∙ ap (λ (k : ℕ). list_from f (suc a) n ++ (f k ∷ [])) {x = suc a + n} {y = a + suc n} (omega arith))
