-- Believed: document 01, Refusals. Taking a record: the refusals in the paper's order, and what an acceptance and a refusal return.
use Rattle.std.specs.Prelude.{ℕ, ◌-◌, List, [], ◌∷◌, Bool, false, ◌&&◌, ◌||◌, not, leb, ltb, eqb, length, get_or, take, drop, Ok}
use Rattle.level.specs.Choice.{pick}
use Rattle.level.specs.Level.{grains}
use Rattle.level.specs.Lists.{some}
use Rattle.level.specs.Numbers.{instruction_places}
use Rattle.records.specs.declared.UnitData.{UnitData}
use Rattle.records.specs.declared.Opening.{Opening}
use Rattle.records.specs.declared.Refusal.TheVariants.{UnknownKind, TooFewBytes, SecondOne, BeforeUnit, OpeningTooHigh, TooManyInstructions, AfterClose, NotReady, QuantityTooHigh}
use Rattle.records.specs.Answers.{Answer, accepted, refusing, first_refusal}
use Rattle.records.specs.Records.{size_of, numbers, opening_of}
use Rattle.records.specs.Fields.{unit_answer, opening_answer, instruction_answer}
use Rattle.profile.specs.declared.Taken.{Taken}
use Rattle.profile.specs.Profile.{Found, paper}
use Rattle.profile.specs.Taken.{has_unit, has_start, unit_or_zeros}
use Rattle.day.specs.declared.Day.{Day}
use Rattle.day.specs.declared.Stepped.{Stepped}
use Rattle.day.specs.Day.{day_seconds, found_in, day_with, is_closed}

-- "A record is one byte of kind, then a body whose length the kind fixes"
unfoldable pub kind_of : List ℕ → ℕ
kind_of s = get_or s 0 0

unfoldable pub body_of : List ℕ → List ℕ
body_of s = take (size_of (kind_of s) - 1) (drop 1 s)

-- ---- the conditions of the refusals, of what was taken and of bytes s of the kind k with the body b

-- "2 too few bytes for the kind, or none"
unfoldable pub no_bytes : List ℕ → Bool
no_bytes s = eqb (length s) 0

-- "1 kind not 1 to 4"
abbrev pub kinds : List ℕ
kinds = 1 ∷ 2 ∷ 3 ∷ 4 ∷ []

unfoldable pub a_kind : ℕ → Bool
a_kind k = some (eqb k) kinds

unfoldable pub unknown_kind : List ℕ → Bool
unknown_kind s = not (a_kind (kind_of s))

unfoldable pub too_few : List ℕ → Bool
too_few s = ltb (length s) (size_of (kind_of s))

-- "20 second unit or opening"
unfoldable pub second_one : Taken → ℕ → Bool
second_one t k = pick (eqb k 1) (has_unit t) (pick (eqb k 2) (has_start t) false)

-- "21 opening or instruction before a unit"
unfoldable pub before_unit : Taken → ℕ → Bool
before_unit t k = (eqb k 2 || eqb k 3) && not (has_unit t)

-- "23 forty-first instruction"
unfoldable pub too_many : Taken → ℕ → Bool
too_many t k = eqb k 3 && leb instruction_places t.count

-- "25 close without an opening"
unfoldable pub not_ready : Taken → ℕ → Bool
not_ready t k = eqb k 4 && not (has_start t)

-- 3 to 9: the fields, as the kind has them
unfoldable pub field_answer : ℕ → List ℕ → Answer
field_answer k b =
    pick (eqb k 1) (unit_answer (numbers b 62))
    (pick (eqb k 2) (opening_answer b)
    (pick (eqb k 3) (instruction_answer day_seconds b)
    (Ok tt)))

-- "22 opening level or target above the short-term maximum, or seconds off with a level above 0"
unfoldable pub too_high : UnitData → Opening → Bool
too_high u o = ltb (grains u.maximum) o.level || (ltb u.maximum o.target || (ltb 0 o.level && ltb 0 o.off))

-- "27 at close, a quantity above the short-term maximum"
unfoldable pub quantity_too_high : UnitData → Found → Bool
quantity_too_high u f = some (λ q. ltb u.maximum q) f.quantities

-- an acceptance: the day after it, and the bytes used; else "A refusal returns its number, the same day, the whole input slice"
abbrev pub accept : Day → ℕ → Stepped
accept d n = record { answer = Ok tt; day = d; used = n }

abbrev pub settle : Answer → Day → Stepped → Stepped
settle a d x = pick (accepted a) x (record { answer = a; day = d; used = 0 })

-- find gives what close finds from what was taken
module _ (find : Taken → Found) where
  -- "Order: 2 if empty, 1, 2, 24, 20, 21, 23, 25, fields as numbered, 22, 27"
  unfoldable pub answer_by : Day → List ℕ → Answer
  answer_by d s =
      let t : Taken = d.taken in
      let k : ℕ = kind_of s in
      let b : List ℕ = body_of s in
      first_refusal
      (refusing (no_bytes s) TooFewBytes
      ∷ refusing (unknown_kind s) UnknownKind
      ∷ refusing (too_few s) TooFewBytes
      ∷ refusing (is_closed d) AfterClose
      ∷ refusing (second_one t k) SecondOne
      ∷ refusing (before_unit t k) BeforeUnit
      ∷ refusing (too_many t k) TooManyInstructions
      ∷ refusing (not_ready t k) NotReady
      ∷ field_answer k b
      ∷ refusing (eqb k 2 && too_high (unit_or_zeros t) (opening_of b)) OpeningTooHigh
      ∷ refusing (eqb k 4 && quantity_too_high (unit_or_zeros t) (find t)) QuantityTooHigh
      ∷ [])

  unfoldable pub step_by : Day → List ℕ → Stepped
  step_by d s = settle (answer_by d s) d (accept (day_with find d (kind_of s) (body_of s)) (size_of (kind_of s)))

-- as the paper says it
abbrev pub step_of : Day → List ℕ → Stepped
step_of d s = step_by (found_in paper) d s
