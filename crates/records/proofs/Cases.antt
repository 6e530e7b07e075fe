-- Cases of the definitions, computed.
use Prim.Native.Nat.{ℕ}
use mathlib.Core.Path.{◌≡◌, refl}
use mathlib.Core.Bool.{true, false}
use mathlib.Core.List.{List, [], ◌∷◌, ◌++◌, map}
use lib.ListN.{set}
use Rattle.level.specs.Lists.{some}
use Rattle.level.specs.Bounds.{most_seconds}
use Rattle.records.specs.Answers.{number_of}
use Rattle.records.specs.Codes.{meaning_of, meaning_in, is_unknown}
use Rattle.records.specs.Records.{size_of, trigger_of, column_of, unit_of, opening_of, issue_of, instruction_of}
use Rattle.records.specs.Fields.{in_range, a_level, a_maximum, a_rate, a_hold, a_boundary, column_ranges, ramp_ranges, unit_ranges, fit_from, falls_below, falls, disagrees, unit_answer, opening_fits, opening_answer, figures_fit, instruction_answer}

-- ---- the seven codes: lag and rank; the bytes beside them mean nothing
abbrev codes : List ℕ
codes = 1 ∷ 2 ∷ 3 ∷ 4 ∷ 5 ∷ 6 ∷ 7 ∷ []

lags : map (λ (n : ℕ). (meaning_in (meaning_of n)).lag) codes ≡ 0 ∷ 120 ∷ 120 ∷ 0 ∷ 120 ∷ 120 ∷ 0 ∷ []
unfolding meaning_of
lags = refl

ranks : map (λ (n : ℕ). (meaning_in (meaning_of n)).rank) codes ≡ codes
unfolding meaning_of
ranks = refl

unknown : map (λ (n : ℕ). is_unknown (meaning_of n)) (0 ∷ 1 ∷ 7 ∷ 8 ∷ 255 ∷ []) ≡ true ∷ false ∷ false ∷ true ∷ true ∷ []
unfolding meaning_of
unknown = refl

-- ---- bytes of a record of each kind
sizes : map size_of (1 ∷ 2 ∷ 3 ∷ 4 ∷ []) ≡ 249 ∷ 17 ∷ 22 ∷ 1 ∷ []
unfolding size_of
sizes = refl

-- ---- the answer's number to an instruction of these bytes, in a day of 86,400 seconds
abbrev none : List ℕ
none = 0 ∷ 0 ∷ 0 ∷ 0 ∷ []

abbrev answered : List ℕ → List ℕ → ℕ → List ℕ → List ℕ → List ℕ → ℕ
answered effective issue code level up down =
    number_of (instruction_answer most_seconds (effective ++ (issue ++ ((code ∷ []) ++ (level ++ (up ++ down))))))

-- effective at 86,399 and at 86,400
effective_times :
    map (λ (t : List ℕ). answered t none 2 none none none) ((0 ∷ 1 ∷ 81 ∷ 127 ∷ []) ∷ (0 ∷ 1 ∷ 81 ∷ 128 ∷ []) ∷ [])
    ≡ 0 ∷ 7 ∷ []
unfolding instruction_answer instruction_of meaning_of issue_of figures_fit
effective_times = refl

-- issued at -604,800 and -604,801, at 604,800 and 604,801, and at the lowest and the highest of four bytes
issue_times :
    map (λ (t : List ℕ). answered none t 2 none none none)
    ((255 ∷ 246 ∷ 197 ∷ 128 ∷ []) ∷ (255 ∷ 246 ∷ 197 ∷ 127 ∷ [])
    ∷ (0 ∷ 9 ∷ 58 ∷ 128 ∷ []) ∷ (0 ∷ 9 ∷ 58 ∷ 129 ∷ [])
    ∷ (128 ∷ 0 ∷ 0 ∷ 0 ∷ []) ∷ (127 ∷ 255 ∷ 255 ∷ 255 ∷ []) ∷ [])
    ≡ 0 ∷ 8 ∷ 0 ∷ 8 ∷ 8 ∷ 8 ∷ []
unfolding instruction_answer instruction_of meaning_of issue_of figures_fit
issue_times = refl

-- MWOF: level 2,000,000 and one more, up rate 200,000 and one more, down rate likewise
mwof_figures :
    answered none none 2 (0 ∷ 30 ∷ 132 ∷ 128 ∷ []) none none ∷ answered none none 2 (0 ∷ 30 ∷ 132 ∷ 129 ∷ []) none none
    ∷ answered none none 2 none (0 ∷ 3 ∷ 13 ∷ 64 ∷ []) none ∷ answered none none 2 none (0 ∷ 3 ∷ 13 ∷ 65 ∷ []) none
    ∷ answered none none 2 none none (0 ∷ 3 ∷ 13 ∷ 64 ∷ []) ∷ answered none none 2 none none (0 ∷ 3 ∷ 13 ∷ 65 ∷ []) ∷ []
    ≡ 0 ∷ 9 ∷ 0 ∷ 9 ∷ 0 ∷ 9 ∷ []
unfolding instruction_answer instruction_of meaning_of issue_of figures_fit
mwof_figures = refl

-- a level of 1, an up rate of 1, a down rate of 1: by the codes in order, only MWOF may carry them
others_figures :
    map (λ (n : ℕ). answered none none n (0 ∷ 0 ∷ 0 ∷ 1 ∷ []) none none) codes ++
    (map (λ (n : ℕ). answered none none n none (0 ∷ 0 ∷ 0 ∷ 1 ∷ []) none) codes ++ map
    (λ (n : ℕ). answered none none n none none (0 ∷ 0 ∷ 0 ∷ 1 ∷ [])) codes)
    ≡ 9 ∷ 0 ∷ 9 ∷ 9 ∷ 9 ∷ 9 ∷ 9 ∷ 9 ∷ 0 ∷ 9 ∷ 9 ∷ 9 ∷ 9 ∷ 9 ∷ 9 ∷ 0 ∷ 9 ∷ 9 ∷ 9 ∷ 9 ∷ 9 ∷ []
unfolding instruction_answer instruction_of meaning_of issue_of figures_fit
others_figures = refl

-- several fields wrong: by number, not by place
in_order :
    answered (255 ∷ 0 ∷ 0 ∷ 0 ∷ []) (128 ∷ 0 ∷ 0 ∷ 0 ∷ []) 8 (0 ∷ 0 ∷ 0 ∷ 1 ∷ []) none none
    ∷ answered (255 ∷ 0 ∷ 0 ∷ 0 ∷ []) (128 ∷ 0 ∷ 0 ∷ 0 ∷ []) 1 (0 ∷ 0 ∷ 0 ∷ 1 ∷ []) none none
    ∷ answered none (128 ∷ 0 ∷ 0 ∷ 0 ∷ []) 1 (0 ∷ 0 ∷ 0 ∷ 1 ∷ []) none none ∷ []
    ≡ 6 ∷ 7 ∷ 8 ∷ []
unfolding instruction_answer instruction_of meaning_of issue_of figures_fit
in_order = refl

-- ---- an opening: 120,000,000 grains and one more; 2,000,000 kW and one more; heat 0, 1, 3, 4; 10,000,000 seconds off and one more
abbrev opened : List ℕ → List ℕ → ℕ → List ℕ → ℕ
opened level target heat off = number_of (opening_answer (level ++ (target ++ ((0 ∷ 0 ∷ 0 ∷ heat ∷ []) ++ off))))

openings :
    opened (7 ∷ 39 ∷ 14 ∷ 0 ∷ []) none 1 none ∷ opened (7 ∷ 39 ∷ 14 ∷ 1 ∷ []) none 1 none
    ∷ opened none (0 ∷ 30 ∷ 132 ∷ 128 ∷ []) 1 none ∷ opened none (0 ∷ 30 ∷ 132 ∷ 129 ∷ []) 1 none
    ∷ opened none none 0 none ∷ opened none none 1 none ∷ opened none none 3 none ∷ opened none none 4 none
    ∷ opened none none 1 (0 ∷ 152 ∷ 150 ∷ 128 ∷ []) ∷ opened none none 1 (0 ∷ 152 ∷ 150 ∷ 129 ∷ []) ∷ []
    ≡ 0 ∷ 5 ∷ 0 ∷ 5 ∷ 5 ∷ 0 ∷ 0 ∷ 5 ∷ 0 ∷ 5 ∷ []
unfolding opening_answer opening_fits opening_of
openings = refl

-- ---- the unit of document 01's listing, and that unit with some numbers changed
abbrev a_column : List ℕ
a_column = 0 ∷ 1 ∷ 1 ∷ 1 ∷ 0 ∷ 0 ∷ 0 ∷ 0 ∷ 0 ∷ 0 ∷ []

abbrev listed : List ℕ
listed =
    (400000 ∷ 400000 ∷ 100000 ∷ 0 ∷ 0 ∷ []) ++ (a_column ++ (a_column ++ (a_column
    ++ ((1000 ∷ 1 ∷ 1 ∷ 1 ∷ 1 ∷ 400000 ∷ 400000 ∷ 400000 ∷ 400000 ∷ [])
    ++ ((0 ∷ 0 ∷ 0 ∷ 0 ∷ 0 ∷ 0 ∷ [])
    ++ (1 ∷ 1 ∷ 1 ∷ 1 ∷ 1 ∷ 0 ∷ 0 ∷ 0 ∷ 0 ∷ 1 ∷ 1 ∷ 0 ∷ []))))))

-- with v at the place i
abbrev changed : ℕ → ℕ → ℕ
changed i v = number_of (unit_answer (set listed i v))

unit_as_listed : number_of (unit_answer listed) ≡ 0
unfolding unit_answer unit_of column_of trigger_of disagrees some falls falls_below fit_from in_range unit_ranges column_ranges ramp_ranges a_level a_maximum
    a_rate a_hold a_boundary
unit_as_listed = refl

-- MSG 0; hot boundary 100,001, warm 100,000; hot block load 2,000,001; rate 0, 200,001, 200,000, 0; soak and dwell minutes 1,441 and 1,440
unit_ranges_lem :
    changed 2 0 ∷ changed 3 100001 ∷ changed 4 100000 ∷ changed 5 2000001
    ∷ changed 6 0 ∷ changed 6 200001 ∷ changed 6 200000 ∷ changed 60 0
    ∷ changed 13 1441 ∷ changed 13 1440 ∷ changed 49 1441 ∷ changed 49 1440 ∷ []
    ≡ 3 ∷ 3 ∷ 0 ∷ 3 ∷ 3 ∷ 3 ∷ 0 ∷ 3 ∷ 3 ∷ 0 ∷ 3 ∷ 0 ∷ []
unfolding unit_answer unit_of column_of trigger_of disagrees some falls falls_below fit_from in_range unit_ranges column_ranges ramp_ranges a_level a_maximum
    a_rate a_hold a_boundary
unit_ranges_lem = refl

-- maximum below capacity; MSG above capacity, and at it; hot and cold block load above MSG, and at it; hot boundary above warm;
-- breaks falling in the warm column, ramp-up, ramp-down; triggers in any order
unit_figures :
    changed 1 399999 ∷ changed 2 400001 ∷ changed 2 400000
    ∷ changed 5 100001 ∷ changed 25 100001 ∷ changed 25 100000 ∷ changed 3 1
    ∷ changed 19 1 ∷ changed 43 399999 ∷ changed 55 1 ∷ changed 11 1 ∷ changed 44 1 ∷ []
    ≡ 4 ∷ 4 ∷ 0 ∷ 4 ∷ 4 ∷ 0 ∷ 4 ∷ 4 ∷ 4 ∷ 4 ∷ 0 ∷ 0 ∷ []
unfolding unit_answer unit_of column_of trigger_of disagrees some falls falls_below fit_from in_range unit_ranges column_ranges ramp_ranges a_level a_maximum
    a_rate a_hold a_boundary
unit_figures = refl
