-- Believed: document 01, The printed day. Decimal numbers and a line of any kind, as ASCII bytes.
use Rattle.std.specs.Prelude.{ℕ, zero, suc, ◌+◌, ◌/◌, ◌%◌, List, [], ◌∷◌, ◌++◌, true, false, length, drop, ltb}

-- the digits of v, by at most so many steps
unfoldable pub digits : ℕ → ℕ → List ℕ
digits zero v = []
digits (suc f) v = elim (ltb v 10) [ true ↦ (v + 48) ∷ [] | false ↦ digits f (v / 10) ++ ((v % 10 + 48) ∷ []) ]

-- v in decimal, without leading zeros
unfoldable pub decimal : ℕ → List ℕ
decimal v = digits (suc v) v

-- a blank and a number; one for each of some numbers
unfoldable pub field : ℕ → List ℕ
field v = 32 ∷ decimal v

unfoldable pub fields : List ℕ → List ℕ
fields [] = []
fields (v ∷ vs) = field v ++ fields vs

-- a letter, the numbers, a line feed
unfoldable pub line : ℕ → List ℕ → List ℕ
line letter vs = letter ∷ (fields vs ++ (10 ∷ []))

-- the bytes xs at the front of o, and every other byte of o as it was
abbrev pub laid : List ℕ → List ℕ → List ℕ
laid xs o = xs ++ drop (length xs) o
