-- Believed: document 01, Units and records, Refusals. Refusals from the input, of the fields of a record: 3 to 9.
use Rattle.std.specs.Prelude.{ℕ, suc, List, [], ◌∷◌, ◌++◌, Bool, true, false, ◌&&◌, ◌||◌, not, leb, ltb, eqb, get_or}
use Rattle.level.specs.Choice.{pick}
use Rattle.level.specs.Lists.{some}
use Rattle.records.specs.declared.Column.{Column}
use Rattle.records.specs.declared.UnitData.{UnitData}
use Rattle.records.specs.declared.Opening.{Opening}
use Rattle.records.specs.declared.Instruction.{Instruction}
use Rattle.records.specs.declared.Effect.TheVariants.{Mwof}
use Rattle.records.specs.declared.Refusal.TheVariants.{UnitField, UnitDisagrees, OpeningField, CodeField, EffectiveTime, IssueTime, LevelOrRates}
use Rattle.records.specs.Answers.{Answer, refusing, first_refusal}
use Rattle.records.specs.Codes.{meaning_of, is_unknown, same}
use Rattle.records.specs.Records.{unit_of, opening_of, instruction_of}

-- from the lowest to the highest allowed
pub record Range : Type 0 where
  pub low : ℕ
  pub high : ℕ

unfoldable pub in_range : Range → ℕ → Bool
in_range r v = leb r.low v && leb v r.high

-- "Levels are kW, 0 to 2,000,000, but capacity, short-term maximum and MSG at least 1; rates 1 to 200,000;
-- soak and dwell minutes 0 to 1,440; boundaries 0 to 100,000"
unfoldable pub a_level : Range
a_level = record { low = 0; high = 2000000 }

unfoldable pub a_maximum : Range
a_maximum = record { low = 1; high = 2000000 }

unfoldable pub a_rate : Range
a_rate = record { low = 1; high = 200000 }

unfoldable pub a_hold : Range
a_hold = record { low = 0; high = 1440 }

unfoldable pub a_boundary : Range
a_boundary = record { low = 0; high = 100000 }

-- the ranges of a column's ten numbers, and of the unit's 62, in the order of the record
unfoldable pub column_ranges : List Range
column_ranges = a_level ∷ a_rate ∷ a_rate ∷ a_rate ∷ a_level ∷ a_level ∷ a_level ∷ a_level ∷ a_hold ∷ a_hold ∷ []

unfoldable pub ramp_ranges : List Range
ramp_ranges = a_rate ∷ a_rate ∷ a_rate ∷ a_rate ∷ a_rate ∷ a_level ∷ a_level ∷ a_level ∷ a_level ∷ []

unfoldable pub unit_ranges : List Range
unit_ranges =
    (a_maximum ∷ a_maximum ∷ a_maximum ∷ a_boundary ∷ a_boundary ∷ [])
    ++ (column_ranges ++ (column_ranges ++ (column_ranges
    ++ (ramp_ranges
    ++ ((a_level ∷ a_level ∷ a_level ∷ a_hold ∷ a_hold ∷ a_hold ∷ [])
    ++ (ramp_ranges
    ++ (a_rate ∷ a_rate ∷ a_level ∷ [])))))))

-- the numbers from the place i on lie in these ranges
unfoldable pub fit_from : List Range → List ℕ → ℕ → Bool
fit_from [] ns i = true
fit_from (r ∷ rs) ns i = in_range r (get_or ns i 0) && fit_from rs ns (suc i)

-- a break below the one before it
unfoldable pub falls_below : ℕ → List ℕ → Bool
falls_below b [] = false
falls_below b (c ∷ cs) = ltb c b || falls_below c cs

unfoldable pub falls : List ℕ → Bool
falls breaks = falls_below 0 breaks

-- "breaks falling, short-term maximum below capacity, MSG above capacity, a block load above MSG, hot boundary above warm"
unfoldable pub disagrees : UnitData → Bool
disagrees u =
    (some (λ (c : Column). falls c.breaks) u.columns || (falls u.up.breaks || (falls u.down.breaks || falls u.deload.breaks)))
    || (ltb u.maximum u.capacity
    || (ltb u.capacity u.msg
    || (some (λ (c : Column). ltb u.msg c.block) u.columns
    || ltb u.warm u.hot)))

-- 3 and 4, of a unit's 62 numbers
unfoldable pub unit_answer : List ℕ → Answer
unit_answer ns = first_refusal (refusing (not (fit_from unit_ranges ns 0)) UnitField ∷ refusing (disagrees (unit_of ns)) UnitDisagrees ∷ [])

-- 5: "level in grains (0 to 120,000,000), target kW (0 to 2,000,000), heat (1 hot, 2 warm, 3 cold), seconds off (0 to 10,000,000)"
unfoldable pub opening_fits : Opening → Bool
opening_fits o = leb o.level 120000000 && (leb o.target 2000000 && ((leb 1 o.heat && leb o.heat 3) && leb o.off 10000000))

unfoldable pub opening_answer : List ℕ → Answer
opening_answer b = refusing (not (opening_fits (opening_of b))) OpeningField

-- "level kW 0 to 2,000,000; up rate and down rate, 0 to 200,000 .. Codes other than MWOF carry 0 in all three"
unfoldable pub figures_fit : Instruction → Bool
figures_fit i =
    pick (same i.meaning.effect Mwof) (leb i.level 2000000 && (leb i.up 200000 && leb i.down 200000))
    (eqb i.level 0 && (eqb i.up 0 && eqb i.down 0))

-- 6 to 9 by number, of an instruction's body, in a day of so many seconds
unfoldable pub instruction_answer : ℕ → List ℕ → Answer
instruction_answer end b =
    first_refusal
    (refusing (is_unknown (meaning_of (get_or b 8 0))) CodeField
    ∷ refusing (leb end (instruction_of b).effective) EffectiveTime
    ∷ refusing (ltb 1209600 (instruction_of b).issue) IssueTime
    ∷ refusing (not (figures_fit (instruction_of b))) LevelOrRates
    ∷ [])
