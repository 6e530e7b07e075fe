use Rattle.std.proofs.Common.{arith}
use Rattle.course_stops.proofs.Holds.{held_more, held_all}
use Rattle.course_stops.proofs.held.Goals as goal

pub loop-g-preserved : goal.loop-g-preserved
loop-g-preserved g c =
    let inv = c.loop-g.invariant in
    let one = c.held_by-seconds.ensures in (
      held_more c.args.w c.args.gs c.loop-g.g-index c.loop-g.seconds _ _ (omega arith) one.0 inv.0,
      omega (arith, inv.1, one.1),
    )

pub returns : goal.returns
returns g c =
    let inv = c.loop-g.invariant in (
      held_all c.args.w c.args.gs c.loop-g.g-index c.loop-g.seconds (omega arith) inv.0,
      omega (arith, inv.1, c.requires, c.loop-g.auto.g-index-end),
    )
