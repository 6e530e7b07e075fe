use Rattle.day_close.specs.Laying.{over_all, marks_of}
use Rattle.day_close.proofs.Laying.{LeftToLay}
use Rattle.day_close.proofs.lay_fates.Given as goal

abbrev pub invariant-loop-o : goal.invariant-loop-o
invariant-loop-o l = LeftToLay l.o-iterator.a.iter.rest.now l.o-iterator.b.iter.rest.now l.fates (over_all l.initial.fates (marks_of l.acts l.own))
