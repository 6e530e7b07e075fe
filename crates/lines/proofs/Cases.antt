-- Lines as document 01 prints them, and numbers at the ends of their range, evaluated by the definitions.
use mathlib.Core.Path.{◌≡◌, refl}
use mathlib.Core.List.{[], ◌∷◌}
use Rattle.lines.specs.Lines.{f_line, s_line, q_line, e_line, x_line}
use Rattle.lines.specs.Text.{digits, decimal, field, fields, line, laid}

-- 0
nought : decimal 0 ≡ 48 ∷ []
unfolding decimal digits
nought = refl

-- 10
ten : decimal 10 ≡ 49 ∷ 48 ∷ []
unfolding decimal digits
ten = refl

-- 18446744073709551615, the largest of 64 bits
largest : decimal 18446744073709551615 ≡ 49 ∷ 56 ∷ 52 ∷ 52 ∷ 54 ∷ 55 ∷ 52 ∷ 52 ∷ 48 ∷ 55 ∷ 51 ∷ 55 ∷ 48 ∷ 57 ∷ 53 ∷ 53 ∷ 49 ∷ 54 ∷ 49 ∷ 53 ∷ []
unfolding decimal digits
largest = refl

-- F 1 0
f_one : f_line 1 0 ≡ 70 ∷ 32 ∷ 49 ∷ 32 ∷ 48 ∷ 10 ∷ []
unfolding f_line line fields field decimal digits
f_one = refl

-- S 120 300 6000000 6180000
s_two : s_line 120 300 6000000 6180000 ≡ 83 ∷ 32 ∷ 49 ∷ 50 ∷ 48 ∷ 32 ∷ 51 ∷ 48 ∷ 48 ∷ 32 ∷ 54 ∷ 48 ∷ 48 ∷ 48 ∷ 48 ∷ 48 ∷ 48 ∷ 32 ∷ 54 ∷ 49 ∷ 56 ∷ 48 ∷
    48 ∷ 48 ∷ 48 ∷ 10 ∷ []
unfolding s_line line fields field decimal digits
s_two = refl

-- Q 2 48 103000
q_two : q_line 2 48 103000 ≡ 81 ∷ 32 ∷ 50 ∷ 32 ∷ 52 ∷ 56 ∷ 32 ∷ 49 ∷ 48 ∷ 51 ∷ 48 ∷ 48 ∷ 48 ∷ 10 ∷ []
unfolding q_line line fields field decimal digits
q_two = refl

-- E 6180000 103000 1 0
e_last : e_line 6180000 103000 1 0 ≡ 69 ∷ 32 ∷ 54 ∷ 49 ∷ 56 ∷ 48 ∷ 48 ∷ 48 ∷ 48 ∷ 32 ∷ 49 ∷ 48 ∷ 51 ∷ 48 ∷ 48 ∷ 48 ∷ 32 ∷ 49 ∷ 32 ∷ 48 ∷ 10 ∷ []
unfolding e_line line fields field decimal digits
e_last = refl

-- X 7
x_seven : x_line 7 ≡ 88 ∷ 32 ∷ 55 ∷ 10 ∷ []
unfolding x_line line fields field decimal digits
x_seven = refl

-- bytes laid at the front leave the others
over_three : laid (65 ∷ 66 ∷ []) (1 ∷ 2 ∷ 3 ∷ 4 ∷ 5 ∷ []) ≡ 65 ∷ 66 ∷ 3 ∷ 4 ∷ 5 ∷ []
over_three = refl
