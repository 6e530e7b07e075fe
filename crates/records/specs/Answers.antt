-- Believed: document 01, Refusals. The numbers of the answers, and the first refusal of several conditions.
use Rattle.std.specs.Prelude.{ℕ, List, [], ◌∷◌, Bool, true, false, Result, Ok, Err}
use Rattle.records.specs.declared.Refusal.{Refusal}
use Rattle.records.specs.declared.Refusal.TheVariants.{UnknownKind, TooFewBytes, UnitField, UnitDisagrees, OpeningField, CodeField, EffectiveTime, IssueTime, LevelOrRates, SecondOne, BeforeUnit, OpeningTooHigh, TooManyInstructions, AfterClose, NotReady, SliceTooShort, QuantityTooHigh}

-- the paper's number of each refusal
abbrev pub refusal_number : Refusal → ℕ
refusal_number UnknownKind = 1
refusal_number TooFewBytes = 2
refusal_number UnitField = 3
refusal_number UnitDisagrees = 4
refusal_number OpeningField = 5
refusal_number CodeField = 6
refusal_number EffectiveTime = 7
refusal_number IssueTime = 8
refusal_number LevelOrRates = 9
refusal_number SecondOne = 20
refusal_number BeforeUnit = 21
refusal_number OpeningTooHigh = 22
refusal_number TooManyInstructions = 23
refusal_number AfterClose = 24
refusal_number NotReady = 25
refusal_number SliceTooShort = 26
refusal_number QuantityTooHigh = 27

-- the answer to a call: an acceptance, `Ok`, or a refusal
abbrev pub Answer : Type 0
Answer = Result Unit Refusal

-- ---- of an answer, or of a result that has a value where it is accepted
module _ {A : Type 0} where
  -- the paper's number of it: 0 for an acceptance
  abbrev pub number_of : Result A Refusal → ℕ
  number_of (Ok x) = 0
  number_of (Err r) = refusal_number r

  abbrev pub accepted : Result A Refusal → Bool
  accepted (Ok x) = true
  accepted (Err r) = false

  -- the first of two answers that is a refusal
  abbrev pub before : Answer → Result A Refusal → Result A Refusal
  before (Ok x) b = b
  before (Err r) b = Err r

  -- an answer with the value x where it is an acceptance
  abbrev pub answered : Answer → A → Result A Refusal
  answered a x = before a (Ok x)

-- a refusal where its condition holds
abbrev pub refusing : Bool → Refusal → Answer
refusing true r = Err r
refusing false r = Ok tt

-- the first refusal, in the order given
abbrev pub first_refusal : List Answer → Answer
first_refusal [] = Ok tt
first_refusal (a ∷ rest) = before a (first_refusal rest)
