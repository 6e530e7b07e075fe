-- Believed: document 01, Units and records. What was let in, and what a day starts from.
use Rattle.std.specs.Prelude.{ℕ, ◌+◌, List, [], Bool, false, eqb, take, set, replicate, None, Some}
use Rattle.std.specs.Option.{is_some, unwrap_or}
use Rattle.level.specs.Choice.{pick}
use Rattle.level.specs.Numbers.{instruction_places}
use Rattle.records.specs.declared.UnitData.{UnitData}
use Rattle.records.specs.declared.Opening.{Opening}
use Rattle.records.specs.declared.Instruction.{Instruction}
use Rattle.records.specs.Records.{numbers, unit_of, opening_of, instruction_of, no_instruction}
use Rattle.profile.specs.declared.Start.{Start}
use Rattle.profile.specs.declared.Taken.{Taken}

-- "The opening starts a course at 0 to its target": no rate replaced, not maximised, and MXOF goes back to "the opening target"
unfoldable pub start_of : Opening → Start
start_of o = record { level = o.level; target = o.target; heat = o.heat; up = 0; down = 0; maximised = false; ordered = o.target; off = o.off }

unfoldable pub no_taken : Taken
no_taken = record {
  unit = None;
  start = None;
  count = 0;
  instructions = replicate instruction_places no_instruction;
}

-- with a record of the kind k and the body b: each field by the kind that sets it
unfoldable pub taken_with : Taken → ℕ → List ℕ → Taken
taken_with t k b = record {
  unit = pick (eqb k 1) (Some (unit_of (numbers b 62))) t.unit;
  start = pick (eqb k 2) (Some (start_of (opening_of b))) t.start;
  count = pick (eqb k 3) (t.count + 1) t.count;
  instructions = pick (eqb k 3) (set t.instructions t.count (instruction_of b)) t.instructions;
}

-- whether a unit, and an opening, were let in
abbrev pub has_unit : Taken → Bool
has_unit t = is_some t.unit

abbrev pub has_start : Taken → Bool
has_start t = is_some t.start

-- the unit, and what its opening starts; zeros while there is none
abbrev pub unit_or_zeros : Taken → UnitData
unit_or_zeros t = unwrap_or t.unit (unit_of [])

abbrev pub start_or_zeros : Taken → Start
start_or_zeros t = unwrap_or t.start (start_of (opening_of []))

-- the instructions let in, in order
unfoldable pub entered : Taken → List Instruction
entered t = take t.count t.instructions
