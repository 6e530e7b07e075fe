-- Working. The kinds of records, as the code has them.
use Rattle.std.specs.Prelude.{ℕ, eqb, Result, Ok, Err}
use Rattle.level.specs.Choice.{pick}
use Rattle.records.specs.declared.Kind.{Kind}
use Rattle.records.specs.declared.Kind.TheVariants.{Unit, Opening, Instruction, Close}
use Rattle.records.specs.declared.Refusal.{Refusal}
use Rattle.records.specs.declared.Refusal.TheVariants.{UnknownKind}

-- of a byte of kind: "1 kind not 1 to 4"
abbrev pub kind_by : ℕ → Result Kind Refusal
kind_by k = pick (eqb k 1) (Ok Unit) (pick (eqb k 2) (Ok Opening) (pick (eqb k 3) (Ok Instruction) (pick (eqb k 4) (Ok Close) (Err UnknownKind))))
