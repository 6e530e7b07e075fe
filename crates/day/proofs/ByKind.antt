-- The refusals kind by kind are the paper's one order; what an acceptance says of each kind.
use mathlib.Core.Path.{◌≡◌, refl, ap, sym, ◌∙◌}
use mathlib.Core.List.{List, [], ◌∷◌}
use mathlib.Core.Bool.{true, false, ◌&&◌, not}
use Prim.Native.Nat.{ℕ, zero, suc, ◌-◌, ◌≤◌, ◌<◌}
use native.Mathlib.Decide.{ℕ_discrete}
use native.Mathlib.Omega.{arith}
use lib.Dec.{leb, ltb, eqb}
use lib.ListN.{length, get_or, take, drop}
use borrow.Author.Tests.{eqb-false, leb-false, ltb-false, eq-eqb, ne_eqb}
use Rattle.level.specs.Lists.{some}
use Rattle.level.specs.Numbers.{instruction_places}
use Rattle.level.proofs.Lists.{by_bool}
use Rattle.std.specs.Prelude.{Ok, Err}
use Rattle.records.specs.declared.Refusal.TheVariants.{UnknownKind, TooFewBytes, SecondOne, BeforeUnit, OpeningTooHigh, TooManyInstructions, AfterClose, NotReady, QuantityTooHigh}
use Rattle.records.specs.Answers.{Answer, accepted, refusing, before, first_refusal}
use Rattle.records.specs.Records.{size_of, numbers, opening_of}
use Rattle.records.specs.Fields.{unit_answer, opening_answer, instruction_answer}
use Rattle.profile.specs.declared.Taken.{Taken}
use Rattle.profile.specs.Profile.{Found}
use Rattle.profile.specs.Taken.{has_unit, has_start, unit_or_zeros}
use Rattle.day.specs.declared.Day.{Day}
use Rattle.day.specs.Day.{day_seconds, day_with, is_closed}
use Rattle.day.specs.Step.{kind_of, body_of, a_kind, no_bytes, unknown_kind, too_few, second_one, before_unit, too_many, not_ready, field_answer, too_high, quantity_too_high, accept, settle, answer_by, step_by}
use Rattle.day.specs.ByKind.{unit_refusals, opening_refusals, instruction_refusals, close_refusals, kind_refusals}
use Rattle.day.proofs.Answers.{is_accepted, all_accepted, not_met, met_not}

-- ---- the paper's order, from 20 on
module _ (find : Taken → Found) (t : Taken) (b : List ℕ) where
  abbrev order : ℕ → Answer
  order k =
      first_refusal
      (refusing (second_one t k) SecondOne
      ∷ refusing (before_unit t k) BeforeUnit
      ∷ refusing (too_many t k) TooManyInstructions
      ∷ refusing (not_ready t k) NotReady
      ∷ field_answer k b
      ∷ refusing (eqb k 2 && too_high (unit_or_zeros t) (opening_of b)) OpeningTooHigh
      ∷ refusing (eqb k 4 && quantity_too_high (unit_or_zeros t) (find t)) QuantityTooHigh
      ∷ [])

  -- that of the kind k, and of no other
  order_kind : (k : ℕ) → order k ≡ first_refusal (kind_refusals find t k b)
  unfolding second_one before_unit too_many not_ready field_answer kind_refusals
  order_kind k = elim (ℕ_discrete k 1) [
    | yes e ↦ rw e refl
    | no n1 ↦ elim (ℕ_discrete k 2) [
      | yes e ↦ rw e refl
      | no n2 ↦ elim (ℕ_discrete k 3) [
        | yes e ↦ rw e refl
        | no n3 ↦ elim (ℕ_discrete k 4) [
          | yes e ↦ rw e refl
          | no n4 ↦ simp (ne_eqb k 1 n1, ne_eqb k 2 n2, ne_eqb k 3 n3, ne_eqb k 4 n4)
        ]
      ]
    ]
  ]

-- "2 if empty, 1, 2, 24", then those of the kind
pub by_kind : (find : Taken → Found) (d : Day) (s : List ℕ) → answer_by find d s
    ≡ first_refusal
    (refusing (no_bytes s) TooFewBytes
    ∷ refusing (unknown_kind s) UnknownKind
    ∷ refusing (too_few s) TooFewBytes
    ∷ refusing (is_closed d) AfterClose
    ∷ kind_refusals find d.taken (kind_of s) (body_of s))
unfolding answer_by
by_kind find d s =
    ap (λ (a : Answer). before (refusing (no_bytes s) TooFewBytes)
    (before (refusing (unknown_kind s) UnknownKind) (before (refusing (too_few s) TooFewBytes) (before (refusing (is_closed d) AfterClose) a))))
    (order_kind find d.taken (body_of s) (kind_of s))

-- ---- what an acceptance says, kind by kind
module _ (t : Taken) (b : List ℕ) where
  pub record UnitPasses : Type 0 where
    pub first : has_unit t ≡ false
    pub fields : unit_answer (numbers b 62) ≡ Ok tt

  pub record OpeningPasses : Type 0 where
    pub first : has_start t ≡ false
    pub unit : has_unit t ≡ true
    pub fields : opening_answer b ≡ Ok tt
    pub low : too_high (unit_or_zeros t) (opening_of b) ≡ false

  pub record InstructionPasses : Type 0 where
    pub unit : has_unit t ≡ true
    pub room : t.count < instruction_places
    pub fields : instruction_answer day_seconds b ≡ Ok tt

  pub unit_passes : first_refusal (unit_refusals t b) ≡ Ok tt → UnitPasses
  unit_passes e = let a = all_accepted (unit_refusals t b) e in record { first = not_met (has_unit t) SecondOne a.0; fields = a.1.0 }

  pub opening_passes : first_refusal (opening_refusals t b) ≡ Ok tt → OpeningPasses
  opening_passes e = let a = all_accepted (opening_refusals t b) e in record {
    first = not_met (has_start t) SecondOne a.0;
    unit = met_not (has_unit t) BeforeUnit a.1.0;
    fields = a.1.1.0;
    low = not_met (too_high (unit_or_zeros t) (opening_of b)) OpeningTooHigh a.1.1.1.0;
  }

  pub instruction_passes : first_refusal (instruction_refusals t b) ≡ Ok tt → InstructionPasses
  instruction_passes e = let a = all_accepted (instruction_refusals t b) e in record {
    unit = met_not (has_unit t) BeforeUnit a.0;
    room = leb-false instruction_places t.count (not_met (leb instruction_places t.count) TooManyInstructions a.1.0);
    fields = a.1.1.0;
  }

module _ (t : Taken) (f : Found) where
  pub record ClosePasses : Type 0 where
    pub started : has_start t ≡ true
    pub low : quantity_too_high (unit_or_zeros t) f ≡ false

  pub close_passes : first_refusal (close_refusals t f) ≡ Ok tt → ClosePasses
  close_passes e = let a = all_accepted (close_refusals t f) e in record {
    started = met_not (has_start t) NotReady a.0;
    low = not_met (quantity_too_high (unit_or_zeros t) f) QuantityTooHigh a.1.0;
  }

-- ---- a record that no refusal meets
not_zero : (n : ℕ) → eqb n 0 ≡ false → 1 ≤ n
not_zero zero e = absurd (eqb-false 0 0 e refl)
not_zero (suc n) e = omega arith

-- none of the kinds
pub no_kinds : (k : ℕ) → (k ≡ 1 → ⊥) → (k ≡ 2 → ⊥) → (k ≡ 3 → ⊥) → (k ≡ 4 → ⊥) → a_kind k ≡ false
unfolding a_kind some
no_kinds k n1 n2 n3 n4 = simp (ne_eqb k 1 n1, ne_eqb k 2 n2, ne_eqb k 3 n3, ne_eqb k 4 n4)

-- a record has a byte of kind
pub some_size : (k : ℕ) → 1 ≤ size_of k
unfolding size_of
some_size k =
    by_bool (eqb k 1) (λ e. simp e (omega arith)) (λ e. by_bool (eqb k 2) (λ t. simp (e, t) (omega arith))
    (λ t. by_bool (eqb k 3) (λ v. simp (e, t, v) (omega arith)) (λ v. simp (e, t, v) (omega arith))))

module _ (find : Taken → Found) (d : Day) (s : List ℕ) where
  pub record RecordPasses : Type 0 where
    pub some : 1 ≤ length s
    pub long : size_of (kind_of s) ≤ length s
    pub not_closed : is_closed d ≡ false
    pub unit : kind_of s ≡ 1 → UnitPasses d.taken (body_of s)
    pub opening : kind_of s ≡ 2 → OpeningPasses d.taken (body_of s)
    pub instruction : kind_of s ≡ 3 → InstructionPasses d.taken (body_of s)
    pub close : kind_of s ≡ 4 → ClosePasses d.taken (find d.taken)

  pub passed : answer_by find d s ≡ Ok tt → RecordPasses
  unfolding no_bytes too_few kind_refusals
  passed e =
      let k : ℕ = kind_of s in
      let a =
      all_accepted (refusing (no_bytes s) TooFewBytes ∷ refusing (unknown_kind s) UnknownKind ∷ refusing (too_few s) TooFewBytes ∷ refusing (is_closed d)
      AfterClose ∷ first_refusal (kind_refusals find d.taken k (body_of s)) ∷ [])
      (last ∙ (sym (by_kind find d s) ∙ e)) in
      let own : first_refusal (kind_refusals find d.taken k (body_of s)) ≡ Ok tt = a.1.1.1.1.0 in
      record {
        some = not_zero (length s) (not_met (no_bytes s) TooFewBytes a.0);
        long = ltb-false (length s) (size_of k) (not_met (too_few s) TooFewBytes a.1.1.0);
        not_closed = not_met (is_closed d) AfterClose a.1.1.1.0;
        unit = λ h. unit_passes d.taken (body_of s) (kind_is k 1 h own);
        opening = λ h. opening_passes d.taken (body_of s) (kind_is k 2 h own);
        instruction = λ h. instruction_passes d.taken (body_of s) (kind_is k 3 h own);
        close = λ h. close_passes d.taken (find d.taken) (kind_is k 4 h own);
      }
    where
      last : first_refusal (refusing (no_bytes s) TooFewBytes ∷ refusing (unknown_kind s) UnknownKind ∷ refusing (too_few s) TooFewBytes ∷ refusing
          (is_closed d) AfterClose ∷ first_refusal (kind_refusals find d.taken (kind_of s) (body_of s)) ∷ [])
          ≡ first_refusal (refusing (no_bytes s) TooFewBytes ∷ refusing (unknown_kind s) UnknownKind ∷ refusing (too_few s) TooFewBytes ∷ refusing
          (is_closed d) AfterClose ∷ kind_refusals find d.taken (kind_of s) (body_of s))
      last =
          ap (λ (x : Answer). before (refusing (no_bytes s) TooFewBytes)
          (before (refusing (unknown_kind s) UnknownKind) (before (refusing (too_few s) TooFewBytes) (before (refusing (is_closed d) AfterClose) x))))
          (end (first_refusal (kind_refusals find d.taken (kind_of s) (body_of s))))
        where
          end : (x : Answer) → before x (Ok tt) ≡ x
          end (Ok _) = refl
          end (Err r) = refl

      kind_is : (k m : ℕ) → k ≡ m → first_refusal (kind_refusals find d.taken k (body_of s)) ≡ Ok tt →
          first_refusal (kind_refusals find d.taken m (body_of s)) ≡ Ok tt
      kind_is k m h e = ap (λ (n : ℕ). first_refusal (kind_refusals find d.taken n (body_of s))) (sym h) ∙ e

-- ---- a step, by its kind
module _ (find : Taken → Found) (d : Day) (s : List ℕ) where
  pub step_empty : length s ≡ 0 → record { answer = Err TooFewBytes; day = d; used = 0 } ≡ step_by find d s
  unfolding step_by answer_by no_bytes
  step_empty h = simp (eq-eqb (length s) 0 h)

  module _ (some : 1 ≤ length s) where
    has : no_bytes s ≡ false
    unfolding no_bytes
    has = ne_eqb (length s) 0 (λ e. omega arith)

    strange : unknown_kind s ≡ true → record { answer = Err UnknownKind; day = d; used = 0 } ≡ step_by find d s
    unfolding step_by answer_by
    strange u = simp (has, u)

    pub no_kind : a_kind (get_or s 0 0) ≡ false → record { answer = Err UnknownKind; day = d; used = 0 } ≡ step_by find d s
    unfolding kind_of unknown_kind
    no_kind out = strange (ap not out)

    known : (k : ℕ) → get_or s 0 0 ≡ k → a_kind k ≡ true → unknown_kind s ≡ false
    unfolding unknown_kind kind_of
    known k e is = ap (λ (n : ℕ). not (a_kind n)) e ∙ ap not is

    -- of the kind k: 2, 24, then those of the kind
    pub kind_step : (k : ℕ) → get_or s 0 0 ≡ k → a_kind k ≡ true →
        let b : List ℕ = take (size_of k - 1) (drop 1 s) in
        settle (first_refusal (refusing (ltb (length s) (size_of k)) TooFewBytes ∷ refusing (is_closed d) AfterClose ∷ kind_refusals find d.taken k b))
        d (accept (day_with find d k b) (size_of k))
        ≡ step_by find d s
    unfolding step_by too_few body_of kind_of
    kind_step k e is = rw (sym e, by_kind find d s, has, known k e is) refl

-- a step uses no more than there is
pub step_used : (find : Taken → Found) (d : Day) (s : List ℕ) → (step_by find d s).used ≤ length s
unfolding step_by
step_used find d s =
    by_bool (accepted (answer_by find d s)) (λ e. simp e (passed find d s (is_accepted (answer_by find d s) e)).long) (λ e. simp e (omega arith))
