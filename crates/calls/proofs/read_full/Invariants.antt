use Rattle.std.proofs.Common.{◌-◌, ◌≤◌, length}
use Rattle.calls.proofs.read_full.Given as goal

abbrev pub invariant-loop-to : goal.invariant-loop-to
invariant-loop-to l = l.at ≤ length l.buf

abbrev pub decreases-loop-to : goal.decreases-loop-to
decreases-loop-to l = length l.buf - l.at
