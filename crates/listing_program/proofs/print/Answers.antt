use Rattle.std.proofs.Common.{◌≡◌, Err, eqb, refl, sym, ap, ◌∙◌, rules}
use denote.Enum.Bare.{sameb, same_true, same_false}
use Rattle.records.specs.declared.Refusal.{Refusal}
use Rattle.records.specs.declared.Refusal.TheVariants.{UnknownKind, TooFewBytes, UnitField, UnitDisagrees, OpeningField, CodeField, EffectiveTime, IssueTime, LevelOrRates, SecondOne, BeforeUnit, OpeningTooHigh, TooManyInstructions, AfterClose, NotReady, SliceTooShort, QuantityTooHigh}
use Rattle.records.specs.contracts.Refusal.{the_type}
use Rattle.records.specs.Answers.{refusal_number}
use Rattle.listing_program.proofs.Laws.{says, prints, prints_line}
use Rattle.listing_program.proofs.print.Goals as goal

-- too few bytes, by its number
few_by : (r : Refusal) → sameb the_type r TooFewBytes ≡ eqb (refusal_number r) 2
few_by UnknownKind = refl
few_by TooFewBytes = refl
few_by UnitField = refl
few_by UnitDisagrees = refl
few_by OpeningField = refl
few_by CodeField = refl
few_by EffectiveTime = refl
few_by IssueTime = refl
few_by LevelOrRates = refl
few_by SecondOne = refl
few_by BeforeUnit = refl
few_by OpeningTooHigh = refl
few_by TooManyInstructions = refl
few_by AfterClose = refl
few_by NotReady = refl
few_by SliceTooShort = refl
few_by QuantityTooHigh = refl

pub returns-in-Ok : goal.returns-in-Ok
returns-in-Ok c = prints c.args.input.now c.args.out.now ((says c.args.input.now c.args.out.now c.in-Ok.ensures.0 c.in-Ok.ensures.1).listed _ refl)

pub returns-then-eq : goal.returns-then-eq
returns-then-eq c =
    let s = says c.args.input.now c.args.out.now c.in-Err.ensures.0 c.in-Err.ensures.1 in
    let short : c.in-Err.refusal ≡ SliceTooShort = same_true the_type (search rules) _ _ (sym c.eq.ensures ∙ c.if-eq.true) in
    prints c.args.input.now c.args.out.now (s.long (ap (λ (x : Refusal). Err x) short))

pub returns-else-eq : goal.returns-else-eq
returns-else-eq c =
    let s = says c.args.input.now c.args.out.now c.in-Err.ensures.0 c.in-Err.ensures.1 in
    let other = same_false the_type c.in-Err.refusal SliceTooShort (sym c.eq.ensures ∙ c.if-eq.false) in
    prints_line c.args.input.now c.args.out.now c.in-Err.refusal s other c.put_refusal.ensures
    (c.eq-in-Err.ensures ∙ few_by c.in-Err.refusal)
