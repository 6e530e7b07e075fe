-- The numbers with which records are refused: never 26, a lent slice too short, which is the listing's own; and 2, too few bytes,
-- only where fewer are left than a record may have.
use Prim.Native.Nat.{ℕ, zero, suc, ◌≤◌, ◌<◌}
use mathlib.Core.Path.{◌≡◌, refl, sym, ◌∙◌, subst}
use mathlib.Core.List.{List, [], ◌∷◌}
use mathlib.Core.Bool.{Bool, true, false, ◌&&◌, not}
use native.Mathlib.Omega.{arith}
use lib.Dec.{leb, ltb, eqb}
use lib.ListN.{length, get_or, drop}
use borrow.Author.Tests.{eqb-true, ltb-true, not-false}
use Rattle.level.specs.Choice.{pick}
use Rattle.level.specs.Lists.{All}
use Rattle.level.proofs.Lists.{by_bool}
use Rattle.std.specs.Prelude.{Ok, Err}
use Rattle.records.specs.declared.Refusal.{Refusal}
use Rattle.records.specs.declared.Refusal.TheVariants.{UnknownKind, TooFewBytes, UnitField, UnitDisagrees, OpeningField, CodeField, EffectiveTime, IssueTime, LevelOrRates, SecondOne, BeforeUnit, OpeningTooHigh, TooManyInstructions, AfterClose, NotReady, QuantityTooHigh}
use Rattle.records.specs.Answers.{Answer, refusal_number, refusing, before, first_refusal}
use Rattle.records.specs.Codes.{meaning_of, is_unknown}
use Rattle.records.specs.Records.{unit_size, size_of, unit_of, opening_of, instruction_of, numbers}
use Rattle.records.specs.Fields.{fit_from, unit_ranges, disagrees, opening_fits, figures_fit, unit_answer, opening_answer, instruction_answer}
use Rattle.profile.specs.declared.Taken.{Taken}
use Rattle.profile.specs.Profile.{Found}
use Rattle.profile.specs.Taken.{unit_or_zeros}
use Rattle.day.specs.declared.Day.{Day}
use Rattle.day.specs.declared.Stepped.{Stepped}
use Rattle.day.specs.Day.{empty, day_seconds, day_with, is_closed}
use Rattle.day.specs.Step.{kind_of, body_of, a_kind, no_bytes, unknown_kind, too_few, second_one, before_unit, too_many, not_ready, field_answer, too_high, quantity_too_high, accept, settle, answer_by, step_by}
use Rattle.day.specs.ByKind.{kind_refusals}
use Rattle.day.proofs.Answers.{all_accepted, not_met}
use Rattle.day.proofs.ByKind.{by_kind}
use Rattle.listing.specs.Program.{Ran, run_by, ran_by}
use Rattle.listing.proofs.Onward.{onward, run_onward}

-- the most bytes that a record has
abbrev pub longest : ℕ
longest = unit_size

-- of m bytes: accepted, or refused with a number from 1 to 27 that is not 26, and is 2 only where a record may have more
abbrev pub Own : ℕ → Answer → Type 0
Own m (Ok _) = Unit {0}
Own m (Err r) =
    (1 ≤ refusal_number r) × (refusal_number r ≤ 27) × (refusal_number r ≡ 26 → ⊥) × (refusal_number r ≡ 2 → m < longest)

own_none : (m : ℕ) (a : Answer) → Own m a → Own 0 a
own_none m (Ok _) h = tt
own_none m (Err r) h = (h.0, h.1, h.2, λ e. omega arith)

module _ (m : ℕ) where
  own_refusing : (c : Bool) (r : Refusal) → (c ≡ true → Own m (Err r)) → Own m (refusing c r)
  own_refusing true r h = h refl
  own_refusing false r h = tt

  own_pick : (c : Bool) (a b : Answer) → Own m a → Own m b → Own m (pick c a b)
  own_pick true a b h g = h
  own_pick false a b h g = g

  own_before : (a b : Answer) → Own m a → Own m b → Own m (before a b)
  own_before (Ok _) b h g = g
  own_before (Err r) b h g = h

-- the first refusal of several conditions, each with its refusal, and then of other answers
abbrev Condition : Type 0
Condition = Bool × Refusal

abbrev answers : List Condition → List Answer → List Answer
answers [] rest = rest
answers (c ∷ cs) rest = refusing c.0 c.1 ∷ answers cs rest

own_first : (m : ℕ) (cs : List Condition) (rest : List Answer) → All (λ (c : Condition). c.0 ≡ true → Own m (Err c.1)) cs →
    Own m (first_refusal rest) → Own m (first_refusal (answers cs rest))
own_first m [] rest h g = g
own_first m (c ∷ cs) rest h g =
    own_before m (refusing c.0 c.1) _ (own_refusing m c.0 c.1 h.0) (own_first m cs rest h.1 g)

-- ---- of the fields
unit_own : (m : ℕ) (ns : List ℕ) → Own m (unit_answer ns)
unfolding unit_answer
unit_own m ns = own_first m ((not (fit_from unit_ranges ns 0), UnitField) ∷ (disagrees (unit_of ns), UnitDisagrees) ∷ []) [] (omega arith) tt

opening_own : (m : ℕ) (b : List ℕ) → Own m (opening_answer b)
unfolding opening_answer
opening_own m b = own_refusing m (not (opening_fits (opening_of b))) OpeningField (omega arith)

instruction_own : (m end : ℕ) (b : List ℕ) → Own m (instruction_answer end b)
unfolding instruction_answer
instruction_own m end b =
    own_first m
    ((is_unknown (meaning_of (get_or b 8 0)), CodeField)
    ∷ (leb end (instruction_of b).effective, EffectiveTime)
    ∷ (ltb 1209600 (instruction_of b).issue, IssueTime)
    ∷ (not (figures_fit (instruction_of b)), LevelOrRates)
    ∷ [])
    [] (omega arith) tt

field_own : (m k : ℕ) (b : List ℕ) → Own m (field_answer k b)
unfolding field_answer
field_own m k b =
    own_pick m (eqb k 1) (unit_answer (numbers b 62)) _ (unit_own m (numbers b 62))
    (own_pick m (eqb k 2) (opening_answer b) _ (opening_own m b)
    (own_pick m (eqb k 3) (instruction_answer day_seconds b) (Ok tt) (instruction_own m day_seconds b) tt))

-- ---- of a record, and of a run
none_short : (s : List ℕ) → no_bytes s ≡ true → length s < longest
unfolding no_bytes
none_short s e = omega (arith, eqb-true (length s) 0 e)

size_most : (k : ℕ) → size_of k ≤ longest
unfolding size_of
size_most k =
    by_bool (eqb k 1) (λ e. simp e (omega arith)) (λ e. by_bool (eqb k 2) (λ t. simp (e, t) (omega arith))
    (λ t. by_bool (eqb k 3) (λ v. simp (e, t, v) (omega arith)) (λ v. simp (e, t, v) (omega arith))))

few_short : (s : List ℕ) → too_few s ≡ true → length s < longest
unfolding too_few
few_short s e = omega (arith, ltb-true (length s) (size_of (kind_of s)) e, size_most (kind_of s))

module _ (find : Taken → Found) where
  answer_own : (d : Day) (s : List ℕ) → Own (length s) (answer_by find d s)
  unfolding answer_by
  answer_own d s =
      let m : ℕ = length s in
      let t : Taken = d.taken in
      let k : ℕ = kind_of s in
      let b : List ℕ = body_of s in
      let last : List Condition =
      (eqb k 2 && too_high (unit_or_zeros t) (opening_of b), OpeningTooHigh) ∷ (eqb k 4 && quantity_too_high (unit_or_zeros t) (find t), QuantityTooHigh) ∷ [] in
      let early : List Condition =
      (is_closed d, AfterClose)
      ∷ (second_one t k, SecondOne)
      ∷ (before_unit t k, BeforeUnit)
      ∷ (too_many t k, TooManyInstructions)
      ∷ (not_ready t k, NotReady)
      ∷ [] in
      own_first m
      ((no_bytes s, TooFewBytes) ∷ (unknown_kind s, UnknownKind) ∷ (too_few s, TooFewBytes) ∷ [])
      (answers early (field_answer k b ∷ answers last []))
      ((λ e. omega (arith, none_short s e)), (omega arith, ((λ e. omega (arith, few_short s e)), tt)))
      (own_first m early (field_answer k b ∷ answers last []) (omega arith)
      (own_before m (field_answer k b) _ (field_own m k b) (own_first m last [] (omega arith) tt)))

  pub step_own : (d : Day) (s : List ℕ) → Own (length s) (step_by find d s).answer
  unfolding step_by
  step_own d s = go (answer_by find d s) (day_with find d (kind_of s) (body_of s)) (answer_own d s)
    where
      go : (a : Answer) (e : Day) → Own (length s) a → Own (length s) (settle a d (accept e (size_of (kind_of s)))).answer
      go (Ok _) e h = tt
      go (Err r) e h = h

  run_own : (n : ℕ) (d : Day) (s : List ℕ) → Own 0 (run_by find n d s).answer
  unfolding run_by onward
  run_own zero d s = omega arith
  run_own (suc n) d s =
      let t : Stepped = step_by find d s in
      subst (λ (r : Ran). Own 0 r.answer) (sym (run_onward find n d s))
      (go t.answer t.day (is_closed t.day) (drop t.used s) (own_none (length s) t.answer (step_own d s)) (λ e v. run_own n e v))
    where
      go : (a : Answer) (e : Day) (b : Bool) (v : List ℕ) → Own 0 a → ((k : Day) (w : List ℕ) → Own 0 (run_by find n k w).answer) →
          Own 0 (onward find n a e b v).answer
      go (Err r) e b v h f = h
      go (Ok _) e true v h f = tt
      go (Ok _) e false v h f = f e v

  pub ran_own : (s : List ℕ) → Own 0 (ran_by find s).answer
  unfolding ran_by
  ran_own s = run_own (length s) empty s

  -- a record that is accepted is of a kind that there is
  pub known_kind : (d : Day) (s : List ℕ) → answer_by find d s ≡ Ok tt → a_kind (kind_of s) ≡ true
  unfolding unknown_kind
  known_kind d s e =
      let a =
      all_accepted (refusing (no_bytes s) TooFewBytes ∷ refusing (unknown_kind s) UnknownKind ∷ refusing (too_few s) TooFewBytes ∷ refusing (is_closed d)
      AfterClose ∷ kind_refusals find d.taken (kind_of s) (body_of s)) (sym (by_kind find d s) ∙ e) in
      not-false (a_kind (kind_of s)) (not_met (unknown_kind s) UnknownKind a.1.0)
