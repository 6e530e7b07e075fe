use Rattle.validation_kept.proofs.Late.{LateBack}
use Rattle.validation_kept.proofs.late_fates.Given as goal

abbrev pub invariant-loop-i : goal.invariant-loop-i
invariant-loop-i l = LateBack l.end l.kept.these l.i-iterator.iter.iter.rest.now l.i-iterator.iter.count l.out l.earliest
