-- Believed: document 01, The printed day (demand 3). What a listing prints for a half-hour, read off its bytes alone.
use Rattle.std.specs.Prelude.{ℕ, ◌+◌, ◌*◌, ◌-◌, List, [], ◌∷◌, ◌++◌, Bool, true, false, ◌&&◌, eqb, leb, length}
use Rattle.level.specs.Choice.{pick}

-- what stands before each byte c, in turn; what no c ends is left out
abbrev pub longer : ℕ → List (List ℕ) → List (List ℕ)
longer b [] = []
longer b (p ∷ ps) = (b ∷ p) ∷ ps

unfoldable pub parted : ℕ → List ℕ → List (List ℕ)
parted c [] = []
parted c (b ∷ bs) = pick (eqb b c) ([] ∷ parted c bs) (longer b (parted c bs))

-- the lines are ended by line feeds; the words of a line are parted by blanks
unfoldable pub lines_of : List ℕ → List (List ℕ)
lines_of w = parted 10 w

unfoldable pub words_of : List ℕ → List (List ℕ)
words_of l = parted 32 (l ++ (32 ∷ []))

-- is it one byte, c
unfoldable pub is_byte : ℕ → List ℕ → Bool
is_byte c [] = false
is_byte c (b ∷ []) = eqb b c
is_byte c (b ∷ (d ∷ ds)) = false

unfoldable pub all_digits : List ℕ → Bool
all_digits [] = true
all_digits (b ∷ bs) = (leb 48 b && leb b 57) && all_digits bs

-- a decimal number: digits, at least one
unfoldable pub is_decimal : List ℕ → Bool
is_decimal ds = leb 1 (length ds) && all_digits ds

-- its value, after digits of the value v
unfoldable pub value_from : ℕ → List ℕ → ℕ
value_from v [] = v
value_from v (d ∷ ds) = value_from (v * 10 + (d - 48)) ds

unfoldable pub value : List ℕ → ℕ
value ds = value_from 0 ds

-- of the words of a line: the kW, where they are `Q first last kW` and first and last enclose the half-hour h
unfoldable pub enclosing : ℕ → List (List ℕ) → List ℕ
enclosing h [] = []
enclosing h (l ∷ []) = []
enclosing h (l ∷ (f ∷ [])) = []
enclosing h (l ∷ (f ∷ (t ∷ []))) = []
enclosing h (l ∷ (f ∷ (t ∷ (k ∷ [])))) =
    pick (is_byte 81 l && (is_decimal f && (is_decimal t && (is_decimal k && (leb (value f) h && leb h (value t)))))) (value k ∷ []) []
enclosing h (l ∷ (f ∷ (t ∷ (k ∷ (x ∷ xs))))) = []

-- the kW of every Q line among the lines whose first and last enclose the half-hour h
unfoldable pub in_lines : ℕ → List (List ℕ) → List ℕ
in_lines h [] = []
in_lines h (l ∷ ls) = enclosing h (words_of l) ++ in_lines h ls

-- the same of the bytes w
unfoldable pub printed_at : List ℕ → ℕ → List ℕ
printed_at w h = in_lines h (lines_of w)

-- the quantity that the bytes w print for the half-hour h: that of the first such line, 0 where there is none
abbrev pub first_of : List ℕ → ℕ
first_of [] = 0
first_of (k ∷ ks) = k

unfoldable pub printed_kw : List ℕ → ℕ → ℕ
printed_kw w h = first_of (printed_at w h)
