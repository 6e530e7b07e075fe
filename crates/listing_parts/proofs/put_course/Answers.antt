use Rattle.std.proofs.Common.{arith}
use Rattle.course_walk.specs.Walk.{beginning, reached_at}
use Rattle.lines.proofs.Sinks.{put_none, put_next, put_more, put_all}
use Rattle.listing_parts.proofs.Laws.{along_begins, piece_on, pieces_none}
use Rattle.listing_parts.proofs.put_course.Goals as goal

pub loop-from-init : goal.loop-from-init
unfolding beginning reached_at
loop-from-init g c =
    rw c.begin_at-from.ensures
    (record {
      along = along_begins c.args.r.now c.requires.short;
      lines = put_none g.met.S.Sink.laws (omega arith) c.requires.room;
    })

pub put_piece-requires : goal.put_piece-requires
put_piece-requires g c =
    let p = piece_on c.args.r.now c.args.n c.loop-from-test.true c.loop-from.invariant.along c.walk_on-to.ensures.onward c.walk_on-to.ensures.known in
    put_next g.met.S.Sink.laws p.line c.loop-from.invariant.lines (omega (arith, p.later, p.within))

pub loop-from-smaller : goal.loop-from-smaller
loop-from-smaller g c =
    let p = piece_on c.args.r.now c.args.n c.loop-from-test.true c.loop-from.invariant.along c.walk_on-to.ensures.onward c.walk_on-to.ensures.known in
    omega arith

pub loop-from-preserved : goal.loop-from-preserved
loop-from-preserved g c =
    let p = piece_on c.args.r.now c.args.n c.loop-from-test.true c.loop-from.invariant.along c.walk_on-to.ensures.onward c.walk_on-to.ensures.known in
    record {
      along = p.along;
      lines = put_more g.met.S.Sink.laws p.line c.loop-from.invariant.lines (omega (arith, p.later, p.within)) c.put_piece.ensures;
    }

pub returns : goal.returns
returns g c =
    put_all g.met.S.Sink.laws (pieces_none c.args.r.now c.args.n c.loop-from.from.place (omega arith)) c.loop-from.invariant.lines
