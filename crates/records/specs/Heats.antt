-- Working. The heats of a start, as the code has them.
use Rattle.std.specs.Prelude.{ℕ, eqb, Result, Ok, Err}
use Rattle.level.specs.Choice.{pick}
use Rattle.records.specs.declared.Heat.{Heat}
use Rattle.records.specs.declared.Heat.TheVariants.{Hot, Warm, Cold}
use Rattle.records.specs.declared.Refusal.{Refusal}
use Rattle.records.specs.declared.Refusal.TheVariants.{OpeningField}

-- of a number: "heat (1 hot, 2 warm, 3 cold)"; any other is the refusal of an opening's field
abbrev pub heat_of : ℕ → Result Heat Refusal
heat_of n = pick (eqb n 1) (Ok Hot) (pick (eqb n 2) (Ok Warm) (pick (eqb n 3) (Ok Cold) (Err OpeningField)))

-- the paper's number of each heat
abbrev pub heat_number : Heat → ℕ
heat_number Hot = 1
heat_number Warm = 2
heat_number Cold = 3
