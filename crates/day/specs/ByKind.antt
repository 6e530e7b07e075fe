-- Working. The refusals kind by kind, after 2, 1, 2 and 24: in the paper's order, those that can meet the kind.
-- `by_kind`, proofs/ByKind: they are the paper's one order, `answer_by`.
use Rattle.std.specs.Prelude.{ℕ, List, [], ◌∷◌, not, leb, eqb}
use Rattle.level.specs.Choice.{pick}
use Rattle.level.specs.Numbers.{instruction_places}
use Rattle.records.specs.declared.Refusal.TheVariants.{SecondOne, BeforeUnit, OpeningTooHigh, TooManyInstructions, NotReady, QuantityTooHigh}
use Rattle.records.specs.Answers.{Answer, refusing}
use Rattle.records.specs.Records.{numbers, opening_of}
use Rattle.records.specs.Fields.{unit_answer, opening_answer, instruction_answer}
use Rattle.profile.specs.declared.Taken.{Taken}
use Rattle.profile.specs.Profile.{Found, paper}
use Rattle.profile.specs.Taken.{has_unit, has_start, unit_or_zeros}
use Rattle.day.specs.declared.Day.{Day}
use Rattle.day.specs.Day.{day_seconds, found_in}
use Rattle.day.specs.Step.{too_high, quantity_too_high, answer_by}

-- the answer to a record, as the paper says it
abbrev pub answer_of : Day → List ℕ → Answer
answer_of d s = answer_by (found_in paper) d s

-- kind 1, unit: 20; 3 and 4
abbrev pub unit_refusals : Taken → List ℕ → List Answer
unit_refusals t b = refusing (has_unit t) SecondOne ∷ unit_answer (numbers b 62) ∷ []

-- kind 2, opening: 20, 21; 5; 22
abbrev pub opening_refusals : Taken → List ℕ → List Answer
opening_refusals t b =
    refusing (has_start t) SecondOne
    ∷ refusing (not (has_unit t)) BeforeUnit
    ∷ opening_answer b
    ∷ refusing (too_high (unit_or_zeros t) (opening_of b)) OpeningTooHigh
    ∷ []

-- kind 3, instruction: 21, 23; 6 to 9
abbrev pub instruction_refusals : Taken → List ℕ → List Answer
instruction_refusals t b =
    refusing (not (has_unit t)) BeforeUnit
    ∷ refusing (leb instruction_places t.count) TooManyInstructions
    ∷ instruction_answer day_seconds b
    ∷ []

-- kind 4, close: 25; 27
abbrev pub close_refusals : Taken → Found → List Answer
close_refusals t f = refusing (not (has_start t)) NotReady ∷ refusing (quantity_too_high (unit_or_zeros t) f) QuantityTooHigh ∷ []

-- of the kind k
unfoldable pub kind_refusals : (Taken → Found) → Taken → ℕ → List ℕ → List Answer
kind_refusals find t k b =
    pick (eqb k 1) (unit_refusals t b)
    (pick (eqb k 2) (opening_refusals t b)
    (pick (eqb k 3) (instruction_refusals t b)
    (pick (eqb k 4) (close_refusals t (find t))
    [])))
