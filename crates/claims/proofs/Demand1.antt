-- Demand 1, proved: the paper's order of conditions, from the records let in.
use mathlib.Core.Path.{◌≡◌, refl, ap, sym, ◌∙◌}
use mathlib.Core.List.{List, [], ◌∷◌}
use mathlib.Core.Bool.{Bool, true, false, ◌&&◌, ◌||◌, not}
use Prim.Native.Nat.{ℕ, ◌≤◌}
use native.Mathlib.Decide.{ℕ_discrete}
use native.Mathlib.Omega.{arith}
use lib.Dec.{leb, ltb, eqb}
use lib.ListN.{length, get_or}
use borrow.Author.Tests.{ne_eqb}
use Rattle.level.specs.Choice.{pick}
use Rattle.level.specs.Numbers.{instruction_places}
use Rattle.level.proofs.Lists.{by_bool, map_length}
use Rattle.std.specs.Prelude.{Result, Ok, Err}
use Rattle.records.specs.declared.Refusal.{Refusal}
use Rattle.records.specs.declared.Refusal.TheVariants.{UnknownKind, TooFewBytes, UnitField, UnitDisagrees, OpeningField, CodeField, EffectiveTime, IssueTime, LevelOrRates, SecondOne, BeforeUnit, OpeningTooHigh, TooManyInstructions, AfterClose, NotReady, SliceTooShort, QuantityTooHigh}
use Rattle.records.specs.declared.UnitData.{UnitData}
use Rattle.records.specs.Answers.{Answer, refusal_number, number_of, accepted, refusing, before, first_refusal}
use Rattle.records.specs.Codes.{meaning_of, is_unknown}
use Rattle.records.specs.Records.{size_of, numbers, unit_of, opening_of, instruction_of}
use Rattle.records.specs.Fields.{unit_ranges, fit_from, disagrees, opening_fits, figures_fit, unit_answer, opening_answer, instruction_answer}
use Rattle.profile.specs.declared.Taken.{Taken}
use Rattle.profile.specs.Profile.{paper}
use Rattle.profile.specs.Taken.{unit_or_zeros, has_unit, has_start}
use Rattle.day.specs.declared.Day.{Day}
use Rattle.day.specs.declared.Stepped.{Stepped}
use Rattle.day.specs.Day.{day_seconds, empty, found_in, day_with, is_closed}
use Rattle.day.specs.Step.{kind_of, body_of, no_bytes, unknown_kind, too_few, second_one, before_unit, too_many, not_ready, field_answer, too_high, quantity_too_high, accept, settle, answer_by, step_by, step_of}
use Rattle.day.specs.ByKind.{answer_of}
use Rattle.day.proofs.Answers.{number_same, settle_refused}
use Rattle.listing.specs.Listing.{printed_day, list_answer, list_of, count_of, lent_after}
use Rattle.claims.specs.Calls.{day_after, records_of}
use Rattle.claims.specs.LetIn.{of_kind, has_kind, instructions_in, taken_in, found_from, listing_from, unit_in}
use Rattle.claims.specs.Conditions.{Ruling, first_number, is_kind, unit_out_of_range, unit_disagreeing, opening_out_of_range, code_outside, effective_time_outside, issue_time_outside, level_or_rates_outside, second_unit_or_opening, before_a_unit, opening_too_high, forty_first_instruction, after_close, close_without_opening, listing_before_close, longer_than_lent, quantity_above_maximum, record_rulings, listing_rulings}
use Rattle.claims.specs.Demand1.{Demand1Claim}
use Rattle.claims.proofs.Made.{Made, made_empty, had_unit, had_start, taken_unit}
use Rattle.claims.proofs.Run.{made_after}
use Rattle.claims.proofs.Demand2.{printed_from}

abbrev ruling : ℕ → Bool → Ruling
ruling n b = record { number = n; holds = b }

-- ---- one condition after another: refusals with their conditions, then an answer that the other rulings give
record Row : Type 0 where
  refusal : Refusal
  holds : Bool

abbrev row : Refusal → Bool → Row
row r b = record { refusal = r; holds = b }

abbrev answers_then : List Row → Answer → Answer
answers_then [] a = a
answers_then (x ∷ xs) a = before (refusing x.holds x.refusal) (answers_then xs a)

abbrev rulings_then : List Row → List Ruling → List Ruling
rulings_then [] ns = ns
rulings_then (x ∷ xs) ns = ruling (refusal_number x.refusal) x.holds ∷ rulings_then xs ns

rows_ruled : (xs : List Row) (a : Answer) (ns : List Ruling) → number_of a ≡ first_number ns → number_of (answers_then xs a) ≡ first_number (rulings_then xs ns)
unfolding first_number
rows_ruled [] a ns h = h
rows_ruled (x ∷ xs) a ns h = go x.holds (rows_ruled xs a ns h)
  where
    go : (b : Bool) → number_of (answers_then xs a) ≡ first_number (rulings_then xs ns) →
        number_of (before (refusing b x.refusal) (answers_then xs a)) ≡ pick b (refusal_number x.refusal) (first_number (rulings_then xs ns))
    go true e = refl
    go false e = e

-- the fields of a record of the kind k with the body b: those of one kind only
abbrev field_rulings : ℕ → List ℕ → List Ruling → List Ruling
field_rulings k b ns =
    ruling 3 (eqb k 1 && not (fit_from unit_ranges (numbers b 62) 0))
    ∷ ruling 4 (eqb k 1 && disagrees (unit_of (numbers b 62)))
    ∷ ruling 5 (eqb k 2 && not (opening_fits (opening_of b)))
    ∷ ruling 6 (eqb k 3 && is_unknown (meaning_of (get_or b 8 0)))
    ∷ ruling 7 (eqb k 3 && leb day_seconds (instruction_of b).effective)
    ∷ ruling 8 (eqb k 3 && ltb 1209600 (instruction_of b).issue)
    ∷ ruling 9 (eqb k 3 && not (figures_fit (instruction_of b)))
    ∷ ns

module _ (b : List ℕ) (a : Answer) (ns : List Ruling) (h : number_of a ≡ first_number ns) where
  fields : (k : ℕ) → number_of (before (field_answer k b) a) ≡ first_number (field_rulings k b ns)
  unfolding field_answer unit_answer opening_answer instruction_answer first_number
  fields k = elim (ℕ_discrete k 1) [
    | yes e ↦ rw e (two (not (fit_from unit_ranges (numbers b 62) 0)) (disagrees (unit_of (numbers b 62))))
    | no n1 ↦ elim (ℕ_discrete k 2) [
      | yes e ↦ rw e (rows_ruled (row OpeningField (not (opening_fits (opening_of b))) ∷ []) a ns h)
      | no n2 ↦ elim (ℕ_discrete k 3) [
        | yes e ↦ rw e (four (is_unknown (meaning_of (get_or b 8 0))) (leb day_seconds (instruction_of b).effective)
            (ltb 1209600 (instruction_of b).issue) (not (figures_fit (instruction_of b))))
        | no n3 ↦ simp (ne_eqb k 1 n1, ne_eqb k 2 n2, ne_eqb k 3 n3) h
      ]
    ]
  ]
    where
      two : (x y : Bool) → number_of (before (first_refusal (refusing x UnitField ∷ refusing y UnitDisagrees ∷ [])) a)
          ≡ pick x 3 (pick y 4 (first_number ns))
      two true y = refl
      two false true = refl
      two false false = h

      four : (x y z w : Bool) →
          number_of (before (first_refusal (refusing x CodeField ∷ refusing y EffectiveTime ∷ refusing z IssueTime ∷ refusing w LevelOrRates ∷ [])) a)
          ≡ pick x 6 (pick y 7 (pick z 8 (pick w 9 (first_number ns))))
      four true y z w = refl
      four false true z w = refl
      four false false true w = refl
      four false false false true = refl
      four false false false false = h

-- ---- the conditions of a state are those of the records let in
second_same : (k : ℕ) (x y : Bool) → pick (eqb k 1) x (pick (eqb k 2) y false) ≡ ((eqb k 1 && x) || (eqb k 2 && y))
second_same k x y = elim (ℕ_discrete k 1) [
  | yes e ↦ rw e (or_none x)
  | no n ↦ simp (ne_eqb k 1 n) (choose (eqb k 2))
]
  where
    or_none : (b : Bool) → b ≡ (b || false)
    or_none true = refl
    or_none false = refl

    choose : (b : Bool) → pick b y false ≡ (b && y)
    choose true = refl
    choose false = refl

count_is : (rs : List (List ℕ)) → length (instructions_in rs) ≡ length (of_kind 3 rs)
unfolding instructions_in
count_is rs = map_length (λ r. instruction_of (body_of r)) (of_kind 3 rs)

module _ (rs : List (List ℕ)) (s : List ℕ) where
  -- the paper's order: whether there is a unit and an opening, of the unit and what was taken, whether it is closed, a second one, and one too many
  abbrev answers : Bool → Bool → UnitData → Taken → Bool → Bool → Bool → List Answer
  answers unit started u t closed second many =
      refusing (no_bytes s) TooFewBytes
      ∷ refusing (unknown_kind s) UnknownKind
      ∷ refusing (too_few s) TooFewBytes
      ∷ refusing closed AfterClose
      ∷ refusing second SecondOne
      ∷ refusing ((eqb (kind_of s) 2 || eqb (kind_of s) 3) && not unit) BeforeUnit
      ∷ refusing many TooManyInstructions
      ∷ refusing (eqb (kind_of s) 4 && not started) NotReady
      ∷ field_answer (kind_of s) (body_of s)
      ∷ refusing (eqb (kind_of s) 2 && too_high u (opening_of (body_of s))) OpeningTooHigh
      ∷ refusing (eqb (kind_of s) 4 && quantity_too_high u (found_in paper t)) QuantityTooHigh
      ∷ []

  second_is : second_one (taken_in rs) (kind_of s) ≡ second_unit_or_opening rs s
  unfolding second_one second_unit_or_opening is_kind
  second_is =
      (λ i. pick (eqb (kind_of s) 1) (had_unit rs i) (pick (eqb (kind_of s) 2) (had_start rs i) false))
      ∙ second_same (kind_of s) (has_kind 1 rs) (has_kind 2 rs)

  many_is : too_many (taken_in rs) (kind_of s) ≡ forty_first_instruction rs s
  unfolding taken_in too_many forty_first_instruction is_kind
  many_is = ap (λ (n : ℕ). eqb (kind_of s) 3 && leb instruction_places n) (count_is rs)

  number_is :
      number_of (first_refusal (answers (has_kind 1 rs) (has_kind 2 rs) (unit_in rs) (taken_in rs) (has_kind 4 rs) (second_unit_or_opening rs s)
      (forty_first_instruction rs s)))
      ≡ first_number (record_rulings rs s)
  unfolding record_rulings is_kind unit_out_of_range unit_disagreeing opening_out_of_range code_outside effective_time_outside issue_time_outside
      level_or_rates_outside before_a_unit opening_too_high after_close close_without_opening quantity_above_maximum found_from quantity_too_high first_number
  number_is =
      let last : List Row = row OpeningTooHigh (opening_too_high rs s) ∷ row QuantityTooHigh (quantity_above_maximum rs s) ∷ [] in
      rows_ruled
      (row TooFewBytes (no_bytes s) ∷ row UnknownKind (unknown_kind s) ∷ row TooFewBytes (too_few s) ∷ row AfterClose (after_close rs)
      ∷ row SecondOne (second_unit_or_opening rs s) ∷ row BeforeUnit (before_a_unit rs s) ∷ row TooManyInstructions (forty_first_instruction rs s)
      ∷ row NotReady (close_without_opening rs s) ∷ [])
      (before (field_answer (kind_of s) (body_of s)) (answers_then last (Ok tt))) (field_rulings (kind_of s) (body_of s) (rulings_then last []))
      (fields (body_of s) (answers_then last (Ok tt)) (rulings_then last []) (rows_ruled last (Ok tt) [] refl) (kind_of s))

-- ---- a refusal leaves all as it was
refused_not : {A : Type 0} (a : Result A Refusal) → 1 ≤ number_of a → accepted a ≡ false
refused_not (Ok x) h = absurd (omega arith)
refused_not (Err r) h = refl

not_counted : (a : Result ℕ Refusal) → 1 ≤ number_of a → count_of a ≡ 0
not_counted (Ok n) h = absurd (omega arith)
not_counted (Err r) h = refl

settled : (a : Answer) (d e : Day) (n : ℕ) → (settle a d (accept e n)).answer ≡ a
settled (Ok _) d e n = refl
settled (Err r) d e n = refl

module _ (d : Day) where
  answer_is : (s : List ℕ) → (step_of d s).answer ≡ answer_of d s
  unfolding step_by
  answer_is s = settled (answer_of d s) d (day_with (found_in paper) d (kind_of s) (body_of s)) (size_of (kind_of s))

  step_refused : (s : List ℕ) → 1 ≤ number_of (step_of d s).answer → record { answer = answer_of d s; day = d; used = 0 } ≡ step_of d s
  unfolding step_by
  step_refused s h =
      settle_refused (answer_of d s) d (accept (day_with (found_in paper) d (kind_of s) (body_of s)) (size_of (kind_of s)))
      (refused_not (answer_of d s) (rw (answer_is s) at h))

  lent_kept : (o : List ℕ) → 1 ≤ number_of (list_of d o) → lent_after d o ≡ o
  unfolding list_of lent_after
  lent_kept o h = simp (refused_not (list_answer d o) (rw (number_same (length (printed_day d)) (list_answer d o)) at h))

  none_counted : (o : List ℕ) → 1 ≤ number_of (list_of d o) → count_of (list_of d o) ≡ 0
  none_counted o h = not_counted (list_of d o) h

-- ---- the day d that the records rs, let in, made
module _ (d : Day) (rs : List (List ℕ)) (m : Made d rs) where
  sent : (s : List ℕ) → number_of (step_of d s).answer ≡ first_number (record_rulings rs s)
  unfolding answer_by before_unit not_ready
  sent s =
      ap number_of (answer_is d s)
      ∙ (ap (λ (x : Taken). number_of (first_refusal (answers rs s (has_unit x) (has_start x) (unit_or_zeros x) x (is_closed d) (second_one x (kind_of s))
      (too_many x (kind_of s))))) m.taken
      ∙ ((λ i. number_of (first_refusal (answers rs s (had_unit rs i) (had_start rs i) (taken_unit rs i) (taken_in rs) (m.closed i) (second_is rs s i)
      (many_is rs s i)))) ∙ number_is rs s))

  asked : (o : List ℕ) → number_of (list_of d o) ≡ first_number (listing_rulings rs o)
  unfolding list_of list_answer listing_rulings listing_before_close longer_than_lent first_number
  asked o = number_same (length (printed_day d)) (list_answer d o) ∙ by_bool (is_closed d)
      (λ c. ap (λ (x : List ℕ). number_of (first_refusal (refusing (not (is_closed d)) NotReady ∷ refusing (ltb (length o) (length x)) SliceTooShort ∷ [])))
      (printed_from d rs m c) ∙ rw (sym m.closed, c) (go (ltb (length o) (length (listing_from rs)))))
      (λ c. rw (sym m.closed, c) refl)
    where
      go : (b : Bool) → number_of (first_refusal (refusing b SliceTooShort ∷ [])) ≡ pick b 26 0
      go true = refl
      go false = refl

-- after every list of calls, of every further call
pub demand1 : Demand1Claim
demand1 calls =
    let d : Day = day_after calls in
    let m : Made d (records_of calls) = made_after calls empty [] made_empty in
    record {
      sent = sent d (records_of calls) m;
      asked = asked d (records_of calls) m;
      day_kept = λ s h. ap (λ (x : Stepped). x.day) (sym (step_refused d s h));
      none_used = λ s h. ap (λ (x : Stepped). x.used) (sym (step_refused d s h));
      lent_kept = lent_kept d;
      none_counted = none_counted d;
    }
