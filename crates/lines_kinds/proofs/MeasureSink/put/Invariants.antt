use Rattle.std.proofs.Common.{◌≡◌, ℕ, ◌+◌, ◌*◌, ◌≤◌, List, length}
use Rattle.lines.proofs.Laying.{line_left}
use Rattle.lines_kinds.proofs.MeasureSink.put.Given as goal

-- beside the `before` bytes the letter, the line feed and the first i numbers are counted
pub record Progress (vs : List ℕ) (before i width : ℕ) : Type 0 where
  pub within : i ≤ length vs
  pub counted : width + length (line_left vs i) ≡ before + 2 + length (line_left vs 0)
  pub few : width ≤ before + (21 * i + 2)

abbrev pub invariant-loop-v : goal.invariant-loop-v
invariant-loop-v l = Progress l.numbers l.fn.self.width l.v-index l.self.width
