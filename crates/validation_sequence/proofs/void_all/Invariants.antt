use Rattle.std.proofs.Common.{◌≡◌, ℕ, List, [], map, length, take}
use Rattle.level.specs.Numbers.{instruction_places}
use Rattle.validation.specs.declared.Numbered.{Numbered}
use Rattle.validation.specs.Kept.{mark, turned}
use Rattle.validation_sequence.specs.Working.{marked}
use Rattle.validation_sequence.proofs.void_all.Given as goal

-- the first i have their fate
pub record VoidProgress (kept : List Numbered) (before : List ℕ) (i : ℕ) (fates : List ℕ) : Type 0 where
  pub long : length fates ≡ instruction_places
  pub voided : fates ≡ marked before (map (mark 4) (turned (take i kept) []))

abbrev pub invariant-loop-k : goal.invariant-loop-k
invariant-loop-k l = VoidProgress l.kept l.initial.fates l.k-index l.fates
