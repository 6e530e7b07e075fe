use Rattle.profile_areas.specs.Passing.{summed}
use Rattle.profile_areas.proofs.Lines.{AlongLine}
use Rattle.profile_areas.proofs.Sums.note_line.Given as goal

abbrev pub invariant-loop-half : goal.invariant-loop-half
invariant-loop-half l =
    AlongLine l.heading l.level l.rate l.from l.to (summed l.from l.fn.self) l.self l.half l.at l.v
