-- Working. What is left of an input after a step.
use Rattle.std.specs.Prelude.{ℕ, ◌-◌, List, length, drop, leb}
use Rattle.level.specs.Choice.{pick}
use Rattle.day.specs.declared.Stepped.{Stepped}

-- all but what was used; the whole where that is more than there is, which no step does
abbrev pub rest_after : Stepped → List ℕ → List ℕ
rest_after r s = pick (leb r.used (length s)) (drop r.used s) s

-- the step, with the bytes used as a rest of the input shows them
abbrev pub counted_by : Stepped → List ℕ → List ℕ → Stepped
counted_by r rest s = record { answer = r.answer; day = r.day; used = length s - length rest }
