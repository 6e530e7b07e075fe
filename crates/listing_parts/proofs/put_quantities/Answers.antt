use Rattle.std.proofs.Common.{arith}
use Rattle.profile.specs.Finding.{quantity_at}
use Rattle.lines.proofs.Sinks.{put_none, put_next, put_more, put_all}
use Rattle.listing_parts.proofs.Laws.{quantities_next, quantities_none, quantities_all}
use Rattle.listing_parts.proofs.put_quantities.Goals as goal

pub loop-i-init : goal.loop-i-init
loop-i-init g c =
    record {
      within = omega arith;
      lines = rw (quantities_all (quantity_at c.args.sums.now) c.args.halves) (put_none g.met.S.Sink.laws (omega arith) c.requires.room);
    }

pub put_q-requires : goal.put_q-requires
put_q-requires g c =
    let next = quantities_next c.args.sums.now c.loop-i.i c.args.halves c.loop-i-test.true c.twice_at-twice.ensures c.quantity_of-kw.ensures
    c.run_end-last.ensures in
    put_next g.met.S.Sink.laws next c.loop-i.invariant.lines (omega arith)

pub loop-i-preserved : goal.loop-i-preserved
loop-i-preserved g c =
    let next = quantities_next c.args.sums.now c.loop-i.i c.args.halves c.loop-i-test.true c.twice_at-twice.ensures c.quantity_of-kw.ensures
    c.run_end-last.ensures in
    let r = c.run_end-last.ensures in
    record {
      within = r.within;
      lines = put_more g.met.S.Sink.laws next c.loop-i.invariant.lines (omega (arith, r.later, r.within)) c.put_q.ensures;
    }

pub returns : goal.returns
returns g c =
    put_all g.met.S.Sink.laws (quantities_none (quantity_at c.args.sums.now) c.args.halves c.loop-i.i (omega arith)) c.loop-i.invariant.lines
