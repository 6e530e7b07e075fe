use Rattle.std.proofs.Common.{◌≡◌, ℕ, ◌<◌, ◌-◌, List}
use Rattle.level.specs.Numbers.{instruction_places}
use Rattle.level.specs.Lists.{filled}
use Rattle.validation.specs.declared.Numbered.{Numbered}
use Rattle.validation_groups.specs.Working.{time_at, latest_at}
use Rattle.validation_kept.specs.Late.{fates_to}
use Rattle.validation_kept.proofs.fates_of.Given as goal

-- the first i fates are in, and the latest issue time is that for the place before
pub record FatesProgress (all : List Numbered) (later : List ℕ) (i : ℕ) (out : List ℕ) (latest : ℕ) : Type 0 where
  pub fates_are : out ≡ filled instruction_places 0 (fates_to all later i)
  pub latest_is : 0 < i → latest ≡ latest_at all (time_at all (i - 1))

abbrev pub invariant-loop-i : goal.invariant-loop-i
invariant-loop-i l = FatesProgress l.all l.later l.i l.out l.latest
