use Rattle.std.proofs.Common.{◌+◌, ◌*◌, ◌-◌, length, drop}
use Rattle.level.specs.Numbers.{instruction_places}
use Rattle.lines.proofs.Laying.{UpTo}
use Rattle.lines.proofs.Sinks.{Putting}
use Rattle.listing.specs.Listing.{f_lines}
use Rattle.listing_parts.specs.Rest.{fate_lines}
use Rattle.listing_parts.proofs.put_fates.Given as goal

-- the lines of the first i fates are put
abbrev pub invariant-loop-i : goal.invariant-loop-i
invariant-loop-i g l =
    UpTo l.i (length l.fate-items)
    (Putting g.S.Sink.has_room g.S.Sink.takes l.initial.sink (fate_lines l.count l.fates) (f_lines (l.i + 1) (drop l.i l.fate-items))
    (44 * instruction_places) (44 * (instruction_places - l.i)) l.sink)
