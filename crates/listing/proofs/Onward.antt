-- A run of records: what its next step makes of it, and how many steps are enough.
use Prim.Native.Nat.{ℕ, zero, suc, ◌≤◌}
use mathlib.Core.Path.{◌≡◌, refl, sym, ◌∙◌}
use mathlib.Core.List.{List, [], ◌∷◌}
use mathlib.Core.Bool.{Bool, true, false}
use native.Mathlib.Omega.{arith}
use lib.ListN.{length, drop, length-drop}
use Rattle.std.specs.Prelude.{Ok, Err}
use Rattle.records.specs.Answers.{Answer, accepted}
use Rattle.records.specs.Records.{size_of}
use Rattle.profile.specs.declared.Taken.{Taken}
use Rattle.profile.specs.Profile.{Found}
use Rattle.day.specs.declared.Day.{Day}
use Rattle.day.specs.declared.Stepped.{Stepped}
use Rattle.day.specs.Day.{day_with, is_closed}
use Rattle.day.specs.Step.{kind_of, body_of, no_bytes, accept, settle, answer_by, step_by}
use Rattle.day.proofs.Answers.{never}
use Rattle.day.proofs.ByKind.{some_size}
use Rattle.listing.specs.Program.{Ran, run_by}

module _ (find : Taken → Found) where
  -- what a run comes to after a step, by its answer, its day, whether that is closed, and the bytes left
  unfoldable pub onward : ℕ → Answer → Day → Bool → List ℕ → Ran
  onward n (Err r) d b s = record { answer = Err r; day = d }
  onward n (Ok _) d true s = record { answer = Ok tt; day = d }
  onward n (Ok _) d false s = run_by find n d s

  pub run_onward : (n : ℕ) (d : Day) (s : List ℕ) →
      let t : Stepped = step_by find d s in
      run_by find (suc n) d s ≡ onward n t.answer t.day (is_closed t.day) (drop t.used s)
  unfolding run_by onward
  run_onward n d s = let t : Stepped = step_by find d s in go t.answer t.day (is_closed t.day) (drop t.used s)
    where
      go : (a : Answer) (e : Day) (b : Bool) (r : List ℕ) → elim a [
        | Err x ↦ record { answer = Err x; day = e }
        | Ok _ ↦ elim b [ true ↦ record { answer = Ok tt; day = e } | false ↦ run_by find n e r ]
      ] ≡ onward n a e b r
      go (Err x) e b r = refl
      go (Ok _) e true r = refl
      go (Ok _) e false r = refl

  -- as many records as bytes are enough: each has at least one
  pub used_some : (d : Day) (s : List ℕ) → accepted (step_by find d s).answer ≡ true → 1 ≤ (step_by find d s).used
  unfolding step_by
  used_some d s = go (answer_by find d s) (day_with find d (kind_of s) (body_of s))
    where
      go : (a : Answer) (x : Day) →
          let t : Stepped = settle a d (accept x (size_of (kind_of s))) in
          accepted t.answer ≡ true → 1 ≤ t.used
      go (Ok _) x h = some_size (kind_of s)
      go (Err r) x h = never h

  pub enough : (n m : ℕ) (d : Day) (s : List ℕ) → length s ≤ n → length s ≤ m → run_by find n d s ≡ run_by find m d s
  unfolding run_by step_by answer_by no_bytes onward
  enough zero zero d s p q = refl
  enough zero (suc m) d [] p q = refl
  enough zero (suc m) d (x ∷ xs) p q = absurd (omega arith)
  enough (suc n) zero d [] p q = refl
  enough (suc n) zero d (x ∷ xs) p q = absurd (omega arith)
  enough (suc n) (suc m) d s p q =
      let t : Stepped = step_by find d s in
      run_onward n d s
      ∙ (go t.answer t.day (is_closed t.day) (drop t.used s)
      (λ a. let u = used_some d s a in (omega (arith, u, length-drop t.used s), omega (arith, u, length-drop t.used s)))
      (λ e r a b. enough n m e r a b)
      ∙ sym (run_onward m d s))
    where
      go : (a : Answer) (e : Day) (b : Bool) (r : List ℕ) → (accepted a ≡ true → (length r ≤ n) × (length r ≤ m)) →
          ((k : Day) (v : List ℕ) → length v ≤ n → length v ≤ m → run_by find n k v ≡ run_by find m k v) → onward n a e b r ≡ onward m a e b r
      go (Err x) e b r l f = refl
      go (Ok _) e true r l f = refl
      go (Ok _) e false r l f = f e r (l refl).0 (l refl).1
