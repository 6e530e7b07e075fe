-- Before close the records of a day have at most 1,146 bytes, and no record has more than 249: 1,395 bytes are answered, whatever they are.
use Prim.Native.Nat.{ℕ, zero, suc, ◌+◌, ◌-◌, ◌*◌, ◌≤◌, ◌<◌}
use mathlib.Core.Path.{◌≡◌, refl, ap, sym, ◌∙◌, subst}
use mathlib.Core.List.{List}
use mathlib.Core.Bool.{Bool, true, false}
use native.Mathlib.Decide.{ℕ_discrete}
use native.Mathlib.Omega.{arith}
use lib.Dec.{eqb}
use lib.ListN.{length, drop, length-drop}
use borrow.Author.Tests.{eq-eqb, ne_eqb}
use Rattle.level.specs.Choice.{pick}
use Rattle.level.specs.Numbers.{instruction_places}
use Rattle.level.proofs.Lists.{or_false}
use Rattle.std.specs.Prelude.{Ok, Err}
use Rattle.records.specs.Answers.{Answer, accepted, number_of}
use Rattle.records.specs.Records.{unit_size, opening_size, instruction_size, size_of}
use Rattle.profile.specs.declared.Taken.{Taken}
use Rattle.profile.specs.Profile.{Found, paper}
use Rattle.profile.specs.Taken.{no_taken, taken_with, has_unit, has_start}
use Rattle.profile.specs.Finding.{arrays_of}
use Rattle.day.specs.declared.Day.{Day}
use Rattle.day.specs.declared.Stepped.{Stepped}
use Rattle.day.specs.Day.{empty, found_in, day_with, is_closed}
use Rattle.day.specs.Step.{kind_of, body_of, accept, settle, answer_by, step_by}
use Rattle.day.proofs.Answers.{never, some_or}
use Rattle.day.proofs.ByKind.{RecordPasses, passed, no_kinds, some_size}
use Rattle.listing.specs.Program.{Ran, run_by, ran_by, ends_early}
use Rattle.listing.proofs.Onward.{onward, run_onward}
use Rattle.listing_program.proofs.Records.{longest, Own, step_own, known_kind}

-- the bytes of the records that may still come before close
unfoldable left : Taken → ℕ
left t = pick (has_unit t) 0 unit_size + pick (has_start t) 0 opening_size + (instruction_places - t.count) * instruction_size

-- a record that comes takes its bytes of them
module _ (t : Taken) (b : List ℕ) where
  unit_left : has_unit t ≡ false → left (taken_with t 1 b) + size_of 1 ≤ left t
  unfolding left taken_with size_of
  unit_left h = simp h (omega arith)

  opening_left : has_start t ≡ false → left (taken_with t 2 b) + size_of 2 ≤ left t
  unfolding left taken_with size_of
  opening_left h = simp h (omega arith)

  instruction_left : t.count < instruction_places → left (taken_with t 3 b) + size_of 3 ≤ left t
  unfolding left taken_with size_of
  instruction_left h = omega arith

module _ (find : Taken → Found) (d : Day) (s : List ℕ) where
  abbrev next : Day
  next = day_with find d (kind_of s) (body_of s)

  not_close : is_closed next ≡ false → kind_of s ≡ 4 → ⊥
  unfolding day_with
  not_close c e =
      let o = some_or (eqb (kind_of s) 4) (arrays_of (find d.taken)) d.found in
      never (sym (or_false (eqb (kind_of s) 4) (is_closed d) (sym o ∙ c)).0 ∙ eq-eqb (kind_of s) 4 e)

  step_left : answer_by find d s ≡ Ok tt → is_closed next ≡ false → left next.taken + size_of (kind_of s) ≤ left d.taken
  unfolding day_with
  step_left a c =
      let t : Taken = d.taken in
      let p : RecordPasses find d s = passed find d s a in
      elim (ℕ_discrete (kind_of s) 1) [
        | yes e ↦ rw e (unit_left t (body_of s) (p.unit e).first)
        | no n1 ↦ elim (ℕ_discrete (kind_of s) 2) [
          | yes e ↦ rw e (opening_left t (body_of s) (p.opening e).first)
          | no n2 ↦ elim (ℕ_discrete (kind_of s) 3) [
            | yes e ↦ rw e (instruction_left t (body_of s) (p.instruction e).room)
            | no n3 ↦ never (sym (no_kinds (kind_of s) n1 n2 n3 (not_close c)) ∙ known_kind find d s a)
          ]
        ]
      ]

  step_taken : (step_by find d s).answer ≡ Ok tt → (answer_by find d s ≡ Ok tt) × (accept next (size_of (kind_of s)) ≡ step_by find d s)
  unfolding step_by
  step_taken = go (answer_by find d s) (accept next (size_of (kind_of s)))
    where
      go : (a : Answer) (x : Stepped) → (settle a d x).answer ≡ Ok tt → (a ≡ Ok tt) × (x ≡ settle a d x)
      go (Ok _) x e = (refl, refl)
      go (Err r) x e = never (ap accepted e)

  step_room : (step_by find d s).answer ≡ Ok tt → is_closed (step_by find d s).day ≡ false →
      (left (step_by find d s).day.taken + (step_by find d s).used ≤ left d.taken) × (1 ≤ (step_by find d s).used)
  step_room a =
      let q = step_taken a in
      subst (λ (x : Stepped). is_closed x.day ≡ false → (left x.day.taken + x.used ≤ left d.taken) × (1 ≤ x.used)) q.1
      (λ c. (step_left q.0 c, some_size (kind_of s)))

  -- no record has too few bytes where the longest has enough
  step_some : longest ≤ length s → number_of (step_by find d s).answer ≡ 2 → ⊥
  step_some h = go (step_by find d s).answer (step_own find d s)
    where
      go : (a : Answer) → Own (length s) a → number_of a ≡ 2 → ⊥
      go (Ok _) own e = omega arith
      go (Err r) own e = omega (arith, own.3 e)

-- nor has a run, where they are more than the records that may come
module _ (find : Taken → Found) where
  run_some : (n : ℕ) (d : Day) (s : List ℕ) → length s ≤ n → left d.taken + longest ≤ length s → number_of (run_by find n d s).answer ≡ 2 → ⊥
  unfolding run_by onward
  run_some zero d s few h e = omega arith
  run_some (suc n) d s few h e =
      let t : Stepped = step_by find d s in
      go t.answer t.day (is_closed t.day) (drop t.used s) (step_some find d s (omega arith))
      (λ a c. let r = step_room find d s a c in
      (omega (arith, r.1, length-drop t.used s), omega (arith, r.0, length-drop t.used s)))
      (λ k v f g. run_some n k v f g)
      (sym (ap (λ (r : Ran). number_of r.answer) (run_onward find n d s)) ∙ e)
    where
      go : (a : Answer) (x : Day) (b : Bool) (v : List ℕ) → (number_of a ≡ 2 → ⊥) →
          (a ≡ Ok tt → b ≡ false → (length v ≤ n) × (left x.taken + longest ≤ length v)) →
          ((k : Day) (w : List ℕ) → length w ≤ n → left k.taken + longest ≤ length w → number_of (run_by find n k w).answer ≡ 2 → ⊥) →
          number_of (onward find n a x b v).answer ≡ 2 → ⊥
      go (Err r) x b v q f g e = q e
      go (Ok _) x true v q f g e = q e
      go (Ok _) x false v q f g e = let h = f refl refl in g x v h.0 h.1 e

pub full_answered : (s : List ℕ) → 1395 ≤ length s → ends_early s ≡ false
unfolding ends_early ran_by empty no_taken left
full_answered s h = ne_eqb (number_of (ran_by (found_in paper) s).answer) 2 (run_some (found_in paper) (length s) empty s (omega arith) (omega arith))
