use Rattle.std.proofs.Common.{drop}
use Rattle.level.specs.Lists.{those}
use Rattle.validation_groups.proofs.Laws.{Walked, in_group}
use Rattle.validation_groups.proofs.used_at.Given as goal

-- the group at the time t is walked up to the place
abbrev pub invariant-loop-o : goal.invariant-loop-o
invariant-loop-o l = Walked l.best l.sync l.desy (those (in_group l.os l.t) (drop l.o-index l.os)) (those (in_group l.os l.t) l.os)
