use Rattle.std.proofs.Common.{◌*◌, ◌-◌, length, take}
use Rattle.level.specs.Numbers.{course_places}
use Rattle.lines.proofs.Laying.{UpTo}
use Rattle.lines.proofs.Sinks.{Putting}
use Rattle.listing_parts.specs.Rest.{courses_lines}
use Rattle.listing_parts.proofs.Laws.{courses_left}
use Rattle.listing_parts.proofs.put_courses.Given as goal

-- the lines of the first i courses are put
abbrev pub invariant-loop-i : goal.invariant-loop-i
invariant-loop-i g l =
    UpTo l.i (length l.began)
    (Putting g.S.Sink.has_room g.S.Sink.takes l.initial.sink (courses_lines l.u l.end (take l.started l.cs)) (courses_left l.u l.end l.began l.i)
    (369367187370 * course_places) (369367187370 * (course_places - l.i)) l.sink)
