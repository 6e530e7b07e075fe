use Rattle.std.proofs.Common.{refl, arith}
use Rattle.validation.specs.Kept.{turned}
use Rattle.validation_sequence.specs.Working.{marked}
use Rattle.validation_sequence.proofs.Steps.{voided_more}
use Rattle.validation_sequence.proofs.void_all.Goals as goal

pub loop-k-init : goal.loop-k-init
unfolding marked turned
loop-k-init c = record { long = omega arith; voided = refl }

pub loop-k-preserved : goal.loop-k-preserved
loop-k-preserved c =
    let l = c.loop-k in
    record {
      long = c.put_fate.ensures.long;
      voided = voided_more c.args.kept.now l.k-index c.args.fates.now l.fates _ (omega arith) c.put_fate.ensures.value l.invariant.voided;
    }
