-- Working. A unit, an opening, an instruction at the front of bytes, as a day in this state answers it: the refusals by the state, then those by the
-- fields, in the paper's order, and what the record says. (proofs/Laws: they are the definition's answer.)
use Rattle.std.specs.Prelude.{ℕ, ◌-◌, List, [], ◌∷◌, Bool, not, leb, ltb, length, take, drop, Option, Result}
use Rattle.std.specs.Option.{is_some, unwrap_or}
use Rattle.level.specs.Numbers.{instruction_places}
use Rattle.records.specs.declared.UnitData.{UnitData}
use Rattle.records.specs.declared.Opening.{Opening}
use Rattle.records.specs.declared.Instruction.{Instruction}
use Rattle.records.specs.declared.Refusal.{Refusal}
use Rattle.records.specs.declared.Refusal.TheVariants.{TooFewBytes, SecondOne, BeforeUnit, OpeningTooHigh, TooManyInstructions, AfterClose, NotReady}
use Rattle.records.specs.Answers.{Answer, refusing, before, answered, first_refusal}
use Rattle.records.specs.Records.{unit_size, opening_size, instruction_size, size_of, unit_of, opening_of}
use Rattle.records.specs.Fields.{opening_answer}
use Rattle.records_unit.specs.Decoded.{unit_read}
use Rattle.records_fields.specs.Decoded.{instruction_read}
use Rattle.profile.specs.declared.Taken.{Taken}
use Rattle.profile.specs.Profile.{paper}
use Rattle.day.specs.Day.{day_seconds, found_in}
use Rattle.day.specs.Step.{too_high}
use Rattle.day.specs.ByKind.{kind_refusals}

-- a record of so many bytes, too few; after close; then by the state
abbrev pub early : ℕ → Bool → List ℕ → List Answer → Answer
early size closed s state = first_refusal (refusing (ltb (length s) size) TooFewBytes ∷ refusing closed AfterClose ∷ state)

abbrev pub body : ℕ → List ℕ → List ℕ
body size s = take (size - 1) (drop 1 s)

-- ---- at the front of s
unfoldable pub unit_front : Bool → Bool → List ℕ → Result UnitData Refusal
unit_front has_unit closed s = before (early unit_size closed s (refusing has_unit SecondOne ∷ [])) (unit_read (body unit_size s))

-- its fields, then 22
abbrev pub opening_read_below : UnitData → List ℕ → Result Opening Refusal
opening_read_below u b = answered (before (opening_answer b) (refusing (too_high u (opening_of b)) OpeningTooHigh)) (opening_of b)

unfoldable pub opening_front : Option UnitData → Bool → Bool → List ℕ → Result Opening Refusal
opening_front unit has_start closed s =
    before (early opening_size closed s (refusing has_start SecondOne ∷ refusing (not (is_some unit)) BeforeUnit ∷ []))
    (opening_read_below (unwrap_or unit (unit_of [])) (body opening_size s))

unfoldable pub instruction_front : Bool → Bool → ℕ → List ℕ → Result Instruction Refusal
instruction_front has_unit closed count s =
    before
    (early instruction_size closed s (refusing (not has_unit) BeforeUnit ∷ refusing (leb instruction_places count) TooManyInstructions ∷ []))
    (instruction_read day_seconds (body instruction_size s))

-- a close, before anything is found
unfoldable pub close_front : Bool → Bool → Answer
close_front has_start closed = first_refusal (refusing closed AfterClose ∷ refusing (not has_start) NotReady ∷ [])

-- ---- the answer to a record of the kind k at the front of s: the refusals of the kind, after 2 and 24
abbrev pub front_answer : ℕ → Taken → Bool → List ℕ → Answer
front_answer k t closed s = early (size_of k) closed s (kind_refusals (found_in paper) t k (body (size_of k) s))
