-- A run by its next record, refused or taken.
use Prim.Native.Nat.{ℕ, ◌-◌, ◌<◌, ◌≤◌}
use native.Mathlib.Omega.{arith}
use mathlib.Core.Path.{◌≡◌, refl, sym, ap, ◌∙◌}
use mathlib.Core.List.{List, [], ◌∷◌}
use mathlib.Core.Bool.{Bool, true, false}
use lib.ListN.{length, take, drop, length-drop}
use Rattle.std.specs.Prelude.{Ok, Err}
use Rattle.level.proofs.Lists.{tail_is}
use Rattle.records.specs.declared.Refusal.{Refusal}
use Rattle.records.specs.Answers.{accepted}
use Rattle.profile.specs.Profile.{paper}
use Rattle.day.specs.declared.Day.{Day}
use Rattle.day.specs.declared.Stepped.{Stepped}
use Rattle.day.specs.Day.{empty, found_in, is_closed}
use Rattle.day.specs.Step.{accept, step_of}
use Rattle.day.proofs.ByKind.{step_empty, step_used}
use Rattle.day_step.specs.Taking.{stepped}
use Rattle.listing.specs.Program.{Ran, run_by, ran_by}
use Rattle.listing.specs.Result.{list_ran, lent_ran, listed, listed_lent}
use Rattle.listing.proofs.Onward.{onward, run_onward, used_some, enough}

-- what the bytes s come to from a day on, closed or not
abbrev pub from : Day → List ℕ → Ran
from d s = onward (found_in paper) (length s) (Ok tt) d (is_closed d) s

pub run_first : (s : List ℕ) → from empty s ≡ ran_by (found_in paper) s
unfolding empty ran_by onward
run_first s = refl

pub run_last : (d : Day) (s : List ℕ) → is_closed d ≡ true → from d s ≡ record { answer = Ok tt; day = d }
unfolding onward
run_last d s e = rw e

-- the day d is not closed: the next of its records
module _ (d : Day) (s : List ℕ) (not_closed : is_closed d ≡ false) where
  open_run : from d s ≡ run_by (found_in paper) (length s) d s
  unfolding onward
  open_run = rw not_closed

  -- is refused
  pub run_refused : (e : Day) (r : Refusal) → stepped (Err r) e ≡ step_of d s → from d s ≡ record { answer = Err r; day = e }
  unfolding onward run_by
  run_refused e r h = open_run ∙ go s h
    where
      go : (v : List ℕ) → stepped (Err r) e ≡ step_of d v → run_by (found_in paper) (length v) d v ≡ record { answer = Err r; day = e }
      go [] h = ap (λ (x : Stepped). record { answer = x.answer; day = x.day }) (step_empty (found_in paper) d [] refl ∙ sym h)
      go (x ∷ xs) h =
          run_onward (found_in paper) (length xs) d (x ∷ xs)
          ∙ ap (λ (t : Stepped). onward (found_in paper) (length xs) t.answer t.day (is_closed t.day) (drop t.used (x ∷ xs))) (sym h)

  -- or taken
  module _ (e : Day) (n : ℕ) (h : accept e n ≡ step_of d s) where
    pub used_one : 1 ≤ n
    used_one = omega (arith, ap (λ (t : Stepped). t.used) h, used_some (found_in paper) d s (ap (λ (t : Stepped). accepted t.answer) (sym h)))

    pub used_all : n ≤ length s
    used_all = omega (arith, ap (λ (t : Stepped). t.used) h, step_used (found_in paper) d s)

    pub run_smaller : length (take (length s - n) (drop n s)) < length s
    run_smaller = rw (tail_is n s) (omega (arith, length-drop n s, used_one, used_all))

    pub run_taken : from d s ≡ from e (take (length s - n) (drop n s))
    unfolding onward
    run_taken = open_run ∙ (go s h used_one used_all ∙ ap (from e) (sym (tail_is n s)))
      where
        same : (m : ℕ) (v : List ℕ) → length v ≤ m → (b : Bool) → onward (found_in paper) m (Ok tt) e b v ≡ onward (found_in paper) (length v) (Ok tt) e b v
        same m v l true = refl
        same m v l false = enough (found_in paper) m (length v) e v l (omega arith)

        go : (v : List ℕ) → accept e n ≡ step_of d v → 1 ≤ n → n ≤ length v → run_by (found_in paper) (length v) d v ≡ from e (drop n v)
        go [] q one all = absurd (omega arith)
        go (x ∷ xs) q one all =
            run_onward (found_in paper) (length xs) d (x ∷ xs)
            ∙ (ap (λ (t : Stepped). onward (found_in paper) (length xs) t.answer t.day (is_closed t.day) (drop t.used (x ∷ xs))) (sym q)
            ∙ same (length xs) (drop n (x ∷ xs)) (omega (arith, length-drop n (x ∷ xs))) (is_closed e))

-- ---- what a call gives with the lent slice o, of a run of the input s
module _ (s o : List ℕ) (r : Ran) (made : r ≡ ran_by (found_in paper) s) where
  pub gives : (list_ran r o ≡ listed s o) × (lent_ran r o ≡ listed_lent s o)
  unfolding listed listed_lent
  gives = (ap (λ (x : Ran). list_ran x o) made, ap (λ (x : Ran). lent_ran x o) made)
