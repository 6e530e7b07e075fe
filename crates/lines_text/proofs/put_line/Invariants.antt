use Rattle.std.proofs.Common.{length}
use Rattle.lines.specs.Text.{line}
use Rattle.lines.proofs.Laying.{UpTo, line_left}
use Rattle.lines.proofs.Sinks.{Putting, slice, fits, fills}
use Rattle.lines_text.proofs.put_line.Given as goal

-- the letter and the first numbers are written
abbrev pub invariant-loop-v : goal.invariant-loop-v
invariant-loop-v l =
    UpTo l.v-index (length l.vs) (Putting fits fills (slice l.fn.out 0) (line l.letter l.vs) (line_left l.vs l.v-index) 0 0 (slice l.out l.at))
