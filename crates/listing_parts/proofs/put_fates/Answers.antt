use Rattle.std.proofs.Common.{arith}
use Rattle.lines.proofs.Sinks.{put_next, put_more, put_all}
use Rattle.listing_parts.proofs.Laws.{fates_next, fates_none}
use Rattle.listing_parts.proofs.put_fates.Goals as goal

pub put_f-requires : goal.put_f-requires
put_f-requires g c =
    let next = fates_next _ c.loop-i.i c.loop-i-test.true in
    put_next g.met.S.Sink.laws next c.loop-i.invariant.lines (omega arith)

pub loop-i-preserved : goal.loop-i-preserved
loop-i-preserved g c =
    let next = fates_next _ c.loop-i.i c.loop-i-test.true in
    record { within = omega arith; lines = put_more g.met.S.Sink.laws next c.loop-i.invariant.lines (omega arith) c.put_f.ensures }

pub returns : goal.returns
returns g c = put_all g.met.S.Sink.laws (fates_none _ c.loop-i.i (omega arith)) c.loop-i.invariant.lines
