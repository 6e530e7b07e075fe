-- Working. A unit's body, decoded: the unit, or the refusal of its 62 numbers.
use Rattle.std.specs.Prelude.{ℕ, ◌+◌, ◌≡◌, List, [], ◌∷◌, get_or, Result}
use Rattle.records.specs.declared.Ramp.{Ramp}
use Rattle.records.specs.declared.UnitData.{UnitData}
use Rattle.records.specs.declared.Refusal.{Refusal}
use Rattle.records.specs.Answers.{answered}
use Rattle.records.specs.Records.{numbers, unit_of}
use Rattle.records.specs.Fields.{unit_answer}

abbrev pub unit_read : List ℕ → Result UnitData Refusal
unit_read b = answered (unit_answer (numbers b 62)) (unit_of (numbers b 62))

-- the five rates and the four breaks of a ramp, from a place on
pub record RampAt (ns : List ℕ) (at : ℕ) (r : Ramp) : Type 0 where
  pub rates : r.rates ≡ get_or ns at 0 ∷ get_or ns (at + 1) 0 ∷ get_or ns (at + 2) 0 ∷ get_or ns (at + 3) 0 ∷ get_or ns (at + 4) 0 ∷ []
  pub breaks : r.breaks ≡ get_or ns (at + 5) 0 ∷ get_or ns (at + 6) 0 ∷ get_or ns (at + 7) 0 ∷ get_or ns (at + 8) 0 ∷ []
