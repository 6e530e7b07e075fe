-- A record taken where it is, by its front: what is returned and left is the definition's step.
use Prim.Native.Nat.{ℕ, ◌+◌, ◌≤◌, ◌<◌}
use native.Mathlib.Omega.{arith}
use mathlib.Core.Path.{◌≡◌, refl, ap, sym, ◌∙◌, subst}
use mathlib.Core.List.{List, [], ◌∷◌}
use mathlib.Core.Bool.{Bool, true, false, not}
use lib.Dec.{eqb}
use lib.ListN.{length, get_or, set}
use borrow.Author.Tests.{le-ltb}
use Rattle.std.specs.Prelude.{Some, Result, Ok, Err}
use Rattle.level.specs.Choice.{pick}
use Rattle.level.specs.Lists.{some}
use Rattle.level.specs.Numbers.{instruction_places}
use Rattle.records.specs.declared.UnitData.{UnitData}
use Rattle.records.specs.declared.Opening.{Opening}
use Rattle.records.specs.declared.Instruction.{Instruction}
use Rattle.records.specs.declared.Refusal.{Refusal}
use Rattle.records.specs.declared.Refusal.TheVariants.{TooFewBytes, AfterClose, NotReady, QuantityTooHigh}
use Rattle.records.specs.declared.Kind.{Kind}
use Rattle.records.proofs.ByKind.{kind_number, kind_is, kind_none}
use Rattle.records.specs.Answers.{Answer, accepted, refusing, before, answered, first_refusal}
use Rattle.records.specs.Records.{unit_size, opening_size, instruction_size, close_size, size_of, numbers, unit_of, opening_of, instruction_of}
use Rattle.profile.specs.declared.Start.{Start}
use Rattle.profile.specs.declared.Taken.{Taken}
use Rattle.profile.specs.declared.Finding.{Finding}
use Rattle.profile.specs.Taken.{start_of, taken_with, has_unit, has_start, unit_or_zeros}
use Rattle.profile.specs.Profile.{paper}
use Rattle.profile.specs.Finding.{arrays_of}
use Rattle.day.specs.declared.Day.{Day}
use Rattle.day.specs.declared.Stepped.{Stepped}
use Rattle.day.specs.Day.{found_in, day_with, is_closed}
use Rattle.day.specs.Step.{a_kind, quantity_too_high, accept, settle, step_of}
use Rattle.day.specs.ByKind.{close_refusals, kind_refusals}
use Rattle.day.proofs.ByKind.{no_kinds, step_empty, no_kind, kind_step}
use Rattle.day_enter.specs.Fronts.{body, unit_front, opening_front, instruction_front, close_front, front_answer}
use Rattle.day_enter.proofs.Laws.{first_append, last_is, unit_front_is, opening_front_is, instruction_front_is, instruction_room}
use Rattle.day_close.specs.Closed.{close_read}
use Rattle.day_step.specs.Taking.{kind_at, stepped, TakenBy, close_taken}

-- ---- what a result says that is an answer with a value
module _ {A : Type 0} (x : A) where
  of_err : (a : Answer) (r : Refusal) → Err r ≡ answered a x → a ≡ Err r
  of_err (Ok _) r e = cc
  of_err (Err q) r e = cc

  of_ok : (a : Answer) (y : A) → Ok y ≡ answered a x → (a ≡ Ok tt) × (y ≡ x)
  of_ok (Ok _) y e = (refl, cc)
  of_ok (Err q) y e = cc

-- ---- a record of the kind k, refused or let in
module _ (k : ℕ) (t : Taken) (closed : Bool) (s : List ℕ) where
  refused : (r : Refusal) → front_answer k t closed s ≡ Err r → TakenBy k t closed s (Err r) t
  refused r e = record {
    used = ap (λ (a : Answer). answered a (size_of k)) (sym e);
    taken = ap (λ (a : Answer). pick (accepted a) (taken_with t k (body (size_of k) s)) t) (sym e);
  }

  let_in : (u : Taken) → front_answer k t closed s ≡ Ok tt → u ≡ taken_with t k (body (size_of k) s) → TakenBy k t closed s (Ok (size_of k)) u
  let_in u e f = record {
    used = ap (λ (a : Answer). answered a (size_of k)) (sym e);
    taken = f ∙ ap (λ (a : Answer). pick (accepted a) (taken_with t k (body (size_of k) s)) t) (sym e);
  }

module _ (t : Taken) (closed : Bool) (s : List ℕ) where
  pub unit_refused : (r : Refusal) → Err r ≡ unit_front (has_unit t) closed s → TakenBy 1 t closed s (Err r) t
  unit_refused r e = refused 1 t closed s r (of_err _ _ r (e ∙ unit_front_is t closed s))

  pub unit_taken : (u : UnitData) → Ok u ≡ unit_front (has_unit t) closed s →
      TakenBy 1 t closed s (Ok unit_size)
      (record { unit = Some u; start = t.start; count = t.count; instructions = t.instructions })
  unfolding taken_with size_of
  unit_taken u e =
      let o = of_ok (unit_of (numbers (body unit_size s) 62)) (front_answer 1 t closed s) u (e ∙ unit_front_is t closed s) in
      let_in 1 t closed s _ o.0 (λ i. record {
        unit = Some (o.1 i);
        start = t.start;
        count = t.count;
        instructions = t.instructions;
      })

  pub opening_refused : (r : Refusal) → Err r ≡ opening_front t.unit (has_start t) closed s → TakenBy 2 t closed s (Err r) t
  opening_refused r e = refused 2 t closed s r (of_err _ _ r (e ∙ opening_front_is t closed s))

  pub opening_taken : (o : Opening) (start : Start) → start ≡ start_of o → Ok o ≡ opening_front t.unit (has_start t) closed s →
      TakenBy 2 t closed s (Ok opening_size)
      (record { unit = t.unit; start = Some start; count = t.count; instructions = t.instructions })
  unfolding taken_with size_of
  opening_taken o start is e =
      let q = of_ok (opening_of (body opening_size s)) (front_answer 2 t closed s) o (e ∙ opening_front_is t closed s) in
      let_in 2 t closed s _ q.0 (λ i. record {
        unit = t.unit;
        start = Some ((is ∙ ap start_of q.1) i);
        count = t.count;
        instructions = t.instructions;
      })

  pub instruction_refused : (r : Refusal) → Err r ≡ instruction_front (has_unit t) closed t.count s → TakenBy 3 t closed s (Err r) t
  instruction_refused r e = refused 3 t closed s r (of_err _ _ r (e ∙ instruction_front_is t closed s))

  module _ (i : Instruction) (e : Ok i ≡ instruction_front (has_unit t) closed t.count s) where
    pub instruction_fits : t.count < instruction_places
    instruction_fits = instruction_room t closed s
        (of_ok (instruction_of (body instruction_size s)) (front_answer 3 t closed s) i (e ∙ instruction_front_is t closed s)).0

    pub instruction_taken : TakenBy 3 t closed s (Ok instruction_size)
        (record {
          unit = t.unit;
          start = t.start;
          count = t.count + 1;
          instructions = set t.instructions t.count i;
        })
    unfolding taken_with size_of
    instruction_taken =
        let q = of_ok (instruction_of (body instruction_size s)) (front_answer 3 t closed s) i (e ∙ instruction_front_is t closed s) in
        let_in 3 t closed s _ q.0 (λ j. record {
          unit = t.unit;
          start = t.start;
          count = t.count + 1;
          instructions = set t.instructions t.count (q.1 j);
        })

-- ---- a close
module _ (d : Day) where
  abbrev high : Answer
  high = refusing (quantity_too_high (unit_or_zeros d.taken) (found_in paper d.taken)) QuantityTooHigh

  abbrev closed : Stepped
  closed = accept (day_with (found_in paper) d 4 []) close_size

  in_two : settle (before (close_front (has_start d.taken) (is_closed d)) high) d closed ≡ close_taken (found_in paper) d
  unfolding close_front
  in_two =
      ap (λ (a : Answer). settle a d closed)
      (ap (before (close_front (has_start d.taken) (is_closed d))) (sym (last_is high))
      ∙ first_append (refusing (is_closed d) AfterClose ∷ refusing (not (has_start d.taken)) NotReady ∷ []) (high ∷ []))

  pub close_early : (r : Refusal) → Err r ≡ close_front (has_start d.taken) (is_closed d) → stepped (Err r) d ≡ close_taken (found_in paper) d
  close_early r e = ap (λ (a : Answer). settle (before a high) d closed) e ∙ in_two

  module _ (e : Ok tt ≡ close_front (has_start d.taken) (is_closed d)) where
    pub close_refused : (r : Refusal) → Err r ≡ close_read d.taken → stepped (Err r) d ≡ close_taken (found_in paper) d
    unfolding close_read
    close_refused r f =
        ap (λ (a : Answer). settle a d closed) (sym (of_err _ high r f)) ∙ (ap (λ (a : Answer). settle (before a high) d closed) e ∙ in_two)

    pub close_is : (f : Finding) → Ok f ≡ close_read d.taken →
        accept (record { taken = d.taken; found = Some f }) close_size ≡ close_taken (found_in paper) d
    unfolding close_read day_with taken_with
    close_is f h =
        let q = of_ok (arrays_of (found_in paper d.taken)) high f h in
        (λ i. accept (record { taken = d.taken; found = Some (q.1 i) }) close_size)
        ∙ (ap (λ (a : Answer). settle a d closed) (sym q.0) ∙ (ap (λ (a : Answer). settle (before a high) d closed) e ∙ in_two))

-- ---- the step
module _ (d : Day) (s : List ℕ) (some_byte : 1 ≤ length s) where
  -- of a record of the kind k, no close
  pub taken_step : (k : ℕ) → get_or s 0 0 ≡ k → a_kind k ≡ true → eqb k 4 ≡ false → (r : Result ℕ Refusal) (u : Taken) →
      TakenBy k d.taken (is_closed d) s r u → stepped r (record { taken = u; found = d.found }) ≡ step_of d s
  unfolding day_with
  taken_step k e is other r u t =
      (λ i. stepped (t.used i) (record { taken = t.taken i; found = d.found }))
      ∙ (go (front_answer k d.taken (is_closed d) s) ∙ kind_step (found_in paper) d s some_byte k e is)
    where
      go : (a : Answer) →
          stepped (answered a (size_of k))
          (record { taken = pick (accepted a) (taken_with d.taken k (body (size_of k) s)) d.taken; found = d.found })
          ≡ settle a d (accept (day_with (found_in paper) d k (body (size_of k) s)) (size_of k))
      go (Ok _) = rw other refl
      go (Err r) = refl

  pub unit_step : get_or s 0 0 ≡ 1 → {closed : Bool} → closed ≡ is_closed d → (r : Result ℕ Refusal) (u : Taken) →
      TakenBy 1 d.taken closed s r u → stepped r (record { taken = u; found = d.found }) ≡ step_of d s
  unfolding a_kind some
  unit_step e is r u t = taken_step 1 e refl refl r u (subst (λ (b : Bool). TakenBy 1 d.taken b s r u) is t)

  pub opening_step : get_or s 0 0 ≡ 2 → {closed : Bool} → closed ≡ is_closed d → (r : Result ℕ Refusal) (u : Taken) →
      TakenBy 2 d.taken closed s r u → stepped r (record { taken = u; found = d.found }) ≡ step_of d s
  unfolding a_kind some
  opening_step e is r u t = taken_step 2 e refl refl r u (subst (λ (b : Bool). TakenBy 2 d.taken b s r u) is t)

  pub instruction_step : get_or s 0 0 ≡ 3 → {closed : Bool} → closed ≡ is_closed d → (r : Result ℕ Refusal) (u : Taken) →
      TakenBy 3 d.taken closed s r u → stepped r (record { taken = u; found = d.found }) ≡ step_of d s
  unfolding a_kind some
  instruction_step e is r u t = taken_step 3 e refl refl r u (subst (λ (b : Bool). TakenBy 3 d.taken b s r u) is t)

  pub close_step : get_or s 0 0 ≡ 4 → close_taken (found_in paper) d ≡ step_of d s
  unfolding kind_refusals size_of a_kind some day_with
  close_step e =
      ap (λ (b : Bool). settle (before (refusing b TooFewBytes) (first_refusal (refusing (is_closed d) AfterClose ∷ close_refusals d.taken (found_in paper
      d.taken)))) d (accept (day_with (found_in paper) d 4 (body close_size s)) close_size)) (sym (le-ltb (length s) close_size some_byte))
      ∙ kind_step (found_in paper) d s some_byte 4 e refl

-- ---- by the first byte
module _ (d : Day) where
  pub of_kind : (s : List ℕ) (v : Kind) → Ok v ≡ kind_at s → (1 ≤ length s) × (get_or s 0 0 ≡ kind_number v)
  of_kind [] v e = cc
  of_kind (x ∷ s) v e = (omega arith, kind_is x v (sym e))

  pub no_kind_step : (s : List ℕ) (r : Refusal) → Err r ≡ kind_at s → stepped (Err r) d ≡ step_of d s
  no_kind_step [] r e = refused_by r (step_empty (found_in paper) d [] refl) cc
    where
      refused_by : (r : Refusal) → stepped (Err TooFewBytes) d ≡ step_of d [] → r ≡ TooFewBytes → stepped (Err r) d ≡ step_of d []
      refused_by r f q = ap (λ (x : Refusal). stepped (Err x) d) q ∙ f
  no_kind_step (x ∷ s) r e =
      let n = kind_none x r (sym e) in
      ap (λ (y : Refusal). stepped (Err y) d) n.0 ∙ no_kind (found_in paper) d (x ∷ s) (omega arith) (no_kinds x n.1 n.2 n.3 n.4)
