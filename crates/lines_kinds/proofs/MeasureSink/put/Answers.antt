use Rattle.std.proofs.Common.{arith}
use Rattle.lines.specs.Text.{field, line}
use Rattle.lines.proofs.Laying.{next_length, number_next, feed_next}
use Rattle.lines_kinds.proofs.MeasureSink.put.Goals as goal

pub loop-v-preserved : goal.loop-v-preserved
unfolding field
loop-v-preserved c =
    let w = c.loop-v.invariant in
    let d = c.decimal_width.ensures in
    record {
      within = omega arith;
      counted = omega (arith, w.counted, d.count_is, next_length (number_next c.args.numbers.now c.loop-v.v-index c.loop-v-test.true));
      few = omega (arith, w.few, d.few);
    }

pub returns : goal.returns
unfolding line
returns c =
    let w = c.loop-v.invariant in
    record {
      count_is = omega (arith, w.counted, next_length (feed_next c.args.numbers.now c.loop-v.v-index (omega arith)));
      few = omega (arith, w.few, w.within);
    }
