-- Believed: document 01, Refusals. The conditions of the refusals, of the records rs let in so far and of what is sent or lent now.
use Rattle.std.specs.Prelude.{ℕ, List, [], ◌∷◌, Bool, ◌&&◌, ◌||◌, not, leb, ltb, eqb, length, get_or}
use Rattle.level.specs.Choice.{pick}
use Rattle.level.specs.Lists.{some}
use Rattle.records.specs.Codes.{meaning_of, is_unknown}
use Rattle.records.specs.Records.{numbers, unit_of, opening_of, instruction_of}
use Rattle.records.specs.Fields.{unit_ranges, fit_from, disagrees, opening_fits, figures_fit}
use Rattle.day.specs.Day.{day_seconds}
use Rattle.day.specs.Step.{kind_of, body_of, no_bytes, unknown_kind, too_few, too_high}
use Rattle.claims.specs.LetIn.{has_kind, of_kind, unit_in, found_from, listing_from}

-- a refusal's number in the paper, and whether its condition holds
pub record Ruling : Type 0 where
  pub number : ℕ
  pub holds : Bool

-- "one numbered refusal": the number of the first whose condition holds, in the order given; 0, an acceptance, where none does
unfoldable pub first_number : List Ruling → ℕ
first_number [] = 0
first_number (r ∷ rs) = pick r.holds r.number (first_number rs)

-- the bytes s are of the kind k
unfoldable pub is_kind : ℕ → List ℕ → Bool
is_kind k s = eqb (kind_of s) k

-- ---- from the input

-- "3 unit field out of range"
unfoldable pub unit_out_of_range : List ℕ → Bool
unit_out_of_range s = is_kind 1 s && not (fit_from unit_ranges (numbers (body_of s) 62) 0)

-- "4 unit figures disagree"
unfoldable pub unit_disagreeing : List ℕ → Bool
unit_disagreeing s = is_kind 1 s && disagrees (unit_of (numbers (body_of s) 62))

-- "5 opening field out of range"
unfoldable pub opening_out_of_range : List ℕ → Bool
opening_out_of_range s = is_kind 2 s && not (opening_fits (opening_of (body_of s)))

-- "Outside what kind 3 allows: 6 code; 7 effective time; 8 issue time; 9 level or rates"
unfoldable pub code_outside : List ℕ → Bool
code_outside s = is_kind 3 s && is_unknown (meaning_of (get_or (body_of s) 8 0))

unfoldable pub effective_time_outside : List ℕ → Bool
effective_time_outside s = is_kind 3 s && leb day_seconds (instruction_of (body_of s)).effective

unfoldable pub issue_time_outside : List ℕ → Bool
issue_time_outside s = is_kind 3 s && ltb 1209600 (instruction_of (body_of s)).issue

unfoldable pub level_or_rates_outside : List ℕ → Bool
level_or_rates_outside s = is_kind 3 s && not (figures_fit (instruction_of (body_of s)))

-- ---- from the state

-- "20 second unit or opening"
unfoldable pub second_unit_or_opening : List (List ℕ) → List ℕ → Bool
second_unit_or_opening rs s = (is_kind 1 s && has_kind 1 rs) || (is_kind 2 s && has_kind 2 rs)

-- "21 opening or instruction before a unit"
unfoldable pub before_a_unit : List (List ℕ) → List ℕ → Bool
before_a_unit rs s = (is_kind 2 s || is_kind 3 s) && not (has_kind 1 rs)

-- "22 opening level or target above the short-term maximum, or seconds off with a level above 0"
unfoldable pub opening_too_high : List (List ℕ) → List ℕ → Bool
opening_too_high rs s = is_kind 2 s && too_high (unit_in rs) (opening_of (body_of s))

-- "23 forty-first instruction"
unfoldable pub forty_first_instruction : List (List ℕ) → List ℕ → Bool
forty_first_instruction rs s = is_kind 3 s && leb 40 (length (of_kind 3 rs))

-- "24 any record after close"
unfoldable pub after_close : List (List ℕ) → Bool
after_close rs = has_kind 4 rs

-- "25 close without an opening, or a listing before close"
unfoldable pub close_without_opening : List (List ℕ) → List ℕ → Bool
close_without_opening rs s = is_kind 4 s && not (has_kind 2 rs)

unfoldable pub listing_before_close : List (List ℕ) → Bool
listing_before_close rs = not (has_kind 4 rs)

-- "26 listing longer than the lent slice"
unfoldable pub longer_than_lent : List (List ℕ) → List ℕ → Bool
longer_than_lent rs o = ltb (length o) (length (listing_from rs))

-- "27 at close, a quantity above the short-term maximum"
unfoldable pub quantity_above_maximum : List (List ℕ) → List ℕ → Bool
quantity_above_maximum rs s = is_kind 4 s && some (λ q. ltb (unit_in rs).maximum q) (found_from rs).quantities

-- ---- "Order: 2 if empty, 1, 2, 24, 20, 21, 23, 25, fields as numbered, 22, 27"
unfoldable pub record_rulings : List (List ℕ) → List ℕ → List Ruling
record_rulings rs s =
    record { number = 2; holds = no_bytes s }
    ∷ record { number = 1; holds = unknown_kind s }
    ∷ record { number = 2; holds = too_few s }
    ∷ record { number = 24; holds = after_close rs }
    ∷ record { number = 20; holds = second_unit_or_opening rs s }
    ∷ record { number = 21; holds = before_a_unit rs s }
    ∷ record { number = 23; holds = forty_first_instruction rs s }
    ∷ record { number = 25; holds = close_without_opening rs s }
    ∷ record { number = 3; holds = unit_out_of_range s }
    ∷ record { number = 4; holds = unit_disagreeing s }
    ∷ record { number = 5; holds = opening_out_of_range s }
    ∷ record { number = 6; holds = code_outside s }
    ∷ record { number = 7; holds = effective_time_outside s }
    ∷ record { number = 8; holds = issue_time_outside s }
    ∷ record { number = 9; holds = level_or_rates_outside s }
    ∷ record { number = 22; holds = opening_too_high rs s }
    ∷ record { number = 27; holds = quantity_above_maximum rs s }
    ∷ []

-- "for a listing 25, 26"
unfoldable pub listing_rulings : List (List ℕ) → List ℕ → List Ruling
listing_rulings rs o =
    record { number = 25; holds = listing_before_close rs }
    ∷ record { number = 26; holds = longer_than_lent rs o }
    ∷ []
