use Rattle.validation_sequence.proofs.Steps.{Checks}
use Rattle.validation_sequence.proofs.check_all.Given as goal

abbrev pub invariant-loop-o : goal.invariant-loop-o
invariant-loop-o l = Checks l.used l.o-index l.kept.these l.syncs.these l.fates
