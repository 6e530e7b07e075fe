-- Believed: document 01, throughout. Lists: which elements pass a test, sums, lists of a fixed length.
use Rattle.std.specs.Prelude.{ℕ, zero, suc, ◌+◌, List, [], ◌∷◌, ◌++◌, Bool, false, ◌||◌, take, replicate}
use Rattle.level.specs.Choice.{pick}

-- those that pass
unfoldable pub those : {A : Type 0} → (A → Bool) → List A → List A
those f [] = []
those f (x ∷ xs) = pick (f x) (x ∷ those f xs) (those f xs)

-- at least one passes
unfoldable pub some : {A : Type 0} → (A → Bool) → List A → Bool
some f [] = false
some f (x ∷ xs) = f x || some f xs

-- the fact P of each
abbrev pub All : {A : Type 0} → (A → Type 0) → List A → Type 0
All P [] = Unit {0}
All P (x ∷ xs) = P x × All P xs

-- f a, f (a + 1), .., n of them: as a list, and their sum
unfoldable pub list_from : (ℕ → ℕ) → ℕ → ℕ → List ℕ
list_from f a zero = []
list_from f a (suc n) = f a ∷ list_from f (suc a) n

unfoldable pub sum : (ℕ → ℕ) → ℕ → ℕ → ℕ
sum f a zero = 0
sum f a (suc n) = f a + sum f (suc a) n

-- an array of n places that begins with xs; the places left hold x
unfoldable pub filled : {A : Type 0} → ℕ → A → List A → List A
filled n x xs = take n (xs ++ replicate n x)
