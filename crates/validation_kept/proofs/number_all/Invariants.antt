use Rattle.std.proofs.Common.{◌≡◌, ℕ, ◌≤◌, List, length, take}
use Rattle.level.specs.Few.{Few}
use Rattle.records.specs.declared.Instruction.{Instruction}
use Rattle.validation.specs.declared.Numbered.{Numbered}
use Rattle.validation.specs.Kept.{numbered}
use Rattle.validation_groups.specs.Working.{sequence_of}
use Rattle.validation_kept.proofs.number_all.Given as goal

-- the first i are in
pub record NumberProgress (is : List Instruction) (i : ℕ) (out : Few Numbered) : Type 0 where
  pub few : length out.these ≤ i
  pub out_is : out ≡ sequence_of (numbered 1 (take i is))

abbrev pub invariant-loop-i : goal.invariant-loop-i
invariant-loop-i l = NumberProgress l.instructions l.i l.out
