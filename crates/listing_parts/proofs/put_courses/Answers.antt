use Rattle.std.proofs.Common.{arith, length-take}
use Rattle.lines.proofs.Sinks.{put_next, put_more, put_all}
use Rattle.listing_parts.proofs.Laws.{courses_none, course_next}
use Rattle.listing_parts.proofs.put_courses.Goals as goal

pub put_course-requires : goal.put_course-requires
put_course-requires g c =
    let next = course_next c.args.u c.args.end _ _ c.loop-i-test.true c.new-route.ensures c.end_of.ensures in
    record {
      short = next.short;
      room = put_next g.met.S.Sink.laws next.lines c.loop-i.invariant.lines (omega (arith, length-take c.min.result c.args.cs.now));
    }

pub loop-i-preserved : goal.loop-i-preserved
loop-i-preserved g c =
    let next = course_next c.args.u c.args.end _ _ c.loop-i-test.true c.new-route.ensures c.end_of.ensures in
    record {
      within = omega arith;
      lines =
          put_more g.met.S.Sink.laws next.lines c.loop-i.invariant.lines (omega (arith, length-take c.min.result c.args.cs.now)) c.put_course.ensures;
    }

pub returns : goal.returns
returns g c = put_all g.met.S.Sink.laws (courses_none c.args.u c.args.end _ c.loop-i.i (omega arith)) c.loop-i.invariant.lines
