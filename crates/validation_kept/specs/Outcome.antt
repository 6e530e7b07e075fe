-- Working. What steps 1 to 4 come to, in forty places.
use Rattle.std.specs.Prelude.{ℕ, List, take}
use Rattle.level.specs.Numbers.{instruction_places}
use Rattle.level.specs.Lists.{filled}
use Rattle.records.specs.declared.Instruction.{Instruction}
use Rattle.validation.specs.declared.Numbered.{Numbered}
use Rattle.validation.specs.Kept.{numbered, validated, fates_of}
use Rattle.validation_groups.specs.Working.{sequence_of}
use Rattle.validation_kept.specs.declared.Validation.{Validation}

-- of the numbered ones: the fates by number, and those that act in time order
unfoldable pub outcome_of : List Numbered → ℕ → Validation
outcome_of os end = record {
  fates = filled instruction_places 0 (fates_of os (validated end os).marks os);
  acts = sequence_of (validated end os).acts;
}

-- of the first n of the instructions entered, in a day of so many seconds; an n above forty reads like forty
unfoldable pub validation_of : List Instruction → ℕ → ℕ → Validation
validation_of is n end = outcome_of (numbered 1 (take n is)) end
