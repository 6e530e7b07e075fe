use Rattle.std.proofs.Common.{ℕ, ◌≤◌, ◌-◌, List, length}
use Rattle.level.specs.Few.{Few}
use Rattle.validation.specs.declared.Numbered.{Numbered}
use Rattle.validation.specs.Kept.{used, used_from}
use Rattle.validation_groups.proofs.Laws.{Begun}
use Rattle.validation_groups.proofs.used_any.Given as goal

-- the groups of i times are in; those of the others follow, from the time t on
pub record AnyProgress (end : ℕ) (os : List Numbered) (t i : ℕ) (out : Few Numbered) : Type 0 where
  pub few : length out.these ≤ i
  pub begun : Begun out (used_from end os (length os - i) t) (used end os)

abbrev pub invariant-loop : goal.invariant-loop
invariant-loop l = AnyProgress l.fn.end l.os l.t l.counter l.out
