use Rattle.std.proofs.Common.{◌*◌, ◌-◌}
use Rattle.level.specs.Numbers.{most_half_hours}
use Rattle.profile.specs.Finding.{quantity_at}
use Rattle.lines.proofs.Laying.{UpTo}
use Rattle.lines.proofs.Sinks.{Putting}
use Rattle.listing_parts.specs.Rest.{quantity_lines}
use Rattle.listing_parts.proofs.Laws.{quantities_left}
use Rattle.listing_parts.proofs.put_quantities.Given as goal

-- the lines of the runs up to the boundary i are put
abbrev pub invariant-loop-i : goal.invariant-loop-i
invariant-loop-i g l =
    UpTo l.i l.halves
    (Putting g.S.Sink.has_room g.S.Sink.takes l.initial.sink (quantity_lines l.halves l.sums) (quantities_left (quantity_at l.sums) l.halves l.i)
    (65 * most_half_hours) (65 * (most_half_hours - l.i)) l.sink)

abbrev pub decreases-loop-i : goal.decreases-loop-i
decreases-loop-i g l = l.halves - l.i
