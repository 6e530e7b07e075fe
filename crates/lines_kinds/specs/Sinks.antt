-- Working. What a place for lines has room for, and what it has taken: one that counts, and one that keeps.
use Rattle.std.specs.Prelude.{ℕ, ◌+◌, ◌^◌, ◌<◌, ◌≤◌, ◌≡◌, List, length}
use Rattle.lines.specs.Writing.{Filled, Counted}
use Rattle.lines_kinds.specs.declared.Measure.{Measure}
use Rattle.lines_kinds.specs.declared.Writer.{Writer}

abbrev pub can_count : Measure → List ℕ → ℕ → Type 0
can_count s xs most = s.width + most < 2 ^ 64

abbrev pub counts : Measure → List ℕ → ℕ → Measure → Type 0
counts s xs most t = Counted xs most s.width t.width

abbrev pub can_keep : Writer → List ℕ → ℕ → Type 0
can_keep s xs most = s.at + length xs ≤ length s.out.now

-- into the same slice
pub record Keeps (xs : List ℕ) (s t : Writer) : Type 0 where
  pub same : t.out.ghost_name ≡ s.out.ghost_name
  pub filled : Filled xs s.at t.at s.out.now t.out.now

abbrev pub keeps : Writer → List ℕ → ℕ → Writer → Type 0
keeps s xs most t = Keeps xs s t
