-- Believed: document 01, A course, second by second. The unit data that a course goes by, in grains, with the rates that its instruction replaced.
use Rattle.std.specs.Prelude.{ℕ, List, [], ◌∷◌, map, eqb, get_or}
use Rattle.level.specs.Choice.{pick}
use Rattle.level.specs.Level.{grains}
use Rattle.records.specs.declared.Trigger.{Trigger}
use Rattle.records.specs.declared.Column.{Column}
use Rattle.records.specs.declared.UnitData.{UnitData}

-- a list of rates (grains a second), and the breaks (grains) at which one gives way to the next
pub record Rates : Type 0 where
  pub rates : List ℕ
  pub breaks : List ℕ

pub record Lists : Type 0 where
  pub msg : ℕ
  pub column : Rates
  pub soaks : List Trigger
  pub up : Rates
  pub dwells : List Trigger
  pub down : Rates
  pub deload : Rates

-- "a rate of r kW/min is r grains a second": rates stay as they are, breaks and triggers come in grains
unfoldable pub rates_of : List ℕ → List ℕ → Rates
rates_of rates breaks = record { rates = rates; breaks = map grains breaks }

unfoldable pub in_grains : Trigger → Trigger
in_grains g = record { level = grains g.level; minutes = g.minutes }

-- 1 hot, 2 warm, 3 cold: the place of a heat's column. A heat that no record can have reads like cold
unfoldable pub place_of : ℕ → ℕ
place_of heat = pick (eqb heat 1) 0 (pick (eqb heat 2) 1 2)

-- what lies past the array's end
abbrev pub no_column : Column
no_column = record { block = 0; rates = []; breaks = []; soaks = [] }

unfoldable pub column_for : UnitData → ℕ → Column
column_for u heat = get_or u.columns (place_of heat) no_column

-- "A dispatch up or down rate replaces all five of its kind in that course": r for all five, or the list's own where r is 0
unfoldable pub replaced : ℕ → List ℕ → List ℕ
replaced r rates = pick (eqb r 0) rates (r ∷ r ∷ r ∷ r ∷ r ∷ [])

unfoldable pub lists_of : UnitData → ℕ → ℕ → ℕ → Lists
lists_of u heat up down = record {
  msg = grains u.msg;
  column = rates_of (column_for u heat).rates (column_for u heat).breaks;
  soaks = map in_grains (column_for u heat).soaks;
  up = rates_of (replaced up u.up.rates) u.up.breaks;
  dwells = map in_grains u.dwells;
  down = rates_of (replaced down u.down.rates) u.down.breaks;
  deload = rates_of u.deload.rates u.deload.breaks;
}
