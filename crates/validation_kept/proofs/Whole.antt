-- The arrays of fates read like the definition's marks; the steps together.
use mathlib.Core.Path.{◌≡◌, refl, sym, ap, ◌∙◌}
use mathlib.Core.List.{List, [], ◌∷◌, ◌++◌, append_assoc, append-nil}
use mathlib.Core.Bool.{Bool, true, false}
use Prim.Native.Nat.{ℕ, zero, suc, ◌+◌, ◌-◌, ◌≤◌, ◌<◌, min}
use native.Mathlib.Decide.{ℕ_discrete, dec_le}
use native.Mathlib.Omega.{arith}
use lib.Dec.{eqb}
use lib.ListN.{length, take, get_or, set, replicate, get_or-replicate, length-take}
use lib.Seq.{take-suc, take_all, get_or-set_same, get_or-set_other}
use borrow.Author.Tests.{eq-eqb, ne_eqb}
use Rattle.level.specs.Choice.{pick}
use Rattle.level.proofs.Lists.{by_bool}
use Rattle.level.specs.Numbers.{instruction_places}
use Rattle.level.specs.Lists.{filled}
use Rattle.records.specs.declared.Instruction.{Instruction}
use Rattle.validation.specs.declared.Numbered.{Numbered}
use Rattle.validation.specs.Kept.{numbered, Mark, superseded, Checked, check, used_from, used, actors, late_marks, turned, kept_of, validated, fate_among, fates_of}
use Rattle.validation.proofs.Few.{numbered_length, Fated, fated_append, checked_fated, late_fated}
use Rattle.validation_kept.specs.declared.Validation.{Validation}
use Rattle.validation_groups.specs.Working.{no_numbered, sequence_of}
use Rattle.validation_kept.specs.Outcome.{outcome_of, validation_of}
use Rattle.validation_kept.specs.Late.{settle_fate, settled, fates_to}
use Rattle.validation_sequence.specs.Working.{set_fate, marked, none_checked, Tracks}
use Rattle.validation_sequence.proofs.Stack.{turned_back}
use Rattle.validation_sequence.proofs.Steps.{set_length}

-- ---- one fate set
module _ (fates : List ℕ) (number fate : ℕ) where
  set_zero : number ≡ 0 → fates ≡ set_fate fates number fate
  unfolding set_fate
  set_zero e = simp (eq-eqb _ _ e)

  set_some : (number ≡ 0 → ⊥) → set fates (number - 1) fate ≡ set_fate fates number fate
  unfolding set_fate
  set_some n = simp (ne_eqb _ _ n)

-- the array has at each place the fate of the number one above
pub record Reads (fates : List ℕ) (ms : List Mark) : Type 0 where
  pub long : length fates ≡ instruction_places
  pub at : (i : ℕ) → i < instruction_places → get_or fates i 0 ≡ fate_among (i + 1) ms

reads_none : Reads (replicate instruction_places 2) []
unfolding fate_among
reads_none = record { long = refl; at = λ i h. get_or-replicate instruction_places i 2 0 h }

-- ---- one more mark in front sets one fate
module _ (fates : List ℕ) (long : length fates ≡ instruction_places) (m : Mark) (i : ℕ) (h : i < instruction_places) where
  set_at : get_or (set_fate fates m.number m.fate) i 0 ≡ pick (eqb m.number (i + 1)) m.fate (get_or fates i 0)
  set_at = elim (ℕ_discrete m.number (i + 1)) [
    | yes e ↦
        let z : m.number ≡ 0 → ⊥ = omega arith in
        let p : m.number - 1 ≡ i = omega arith in
        rw (eq-eqb m.number (i + 1) e, ← set_some fates m.number m.fate z, p) (get_or-set_same fates i m.fate 0 (omega arith))
    | no n ↦ rw (ne_eqb m.number (i + 1) n) (other n (ℕ_discrete m.number 0))
  ]
    where
      other : (m.number ≡ i + 1 → ⊥) → Dec (m.number ≡ 0) → get_or (set_fate fates m.number m.fate) i 0 ≡ get_or fates i 0
      other n (yes z) = rw (← set_zero fates m.number m.fate z)
      other n (no z) = rw (← set_some fates m.number m.fate z) (get_or-set_other fates (m.number - 1) i m.fate 0 (λ q. n (omega arith)))

reads_set : (fates : List ℕ) (ms : List Mark) → Reads fates ms → (m : Mark) → Reads (set_fate fates m.number m.fate) (m ∷ ms)
unfolding fate_among
reads_set fates ms r m = record {
  long = set_length fates m.number m.fate ∙ r.long;
  at = λ i h. set_at fates r.long m i h ∙ ap (pick (eqb m.number (i + 1)) m.fate) (r.at i h);
}

pub reads_marked : (ms : List Mark) → Reads (marked (replicate instruction_places 2) ms) ms
unfolding marked
reads_marked [] = reads_none
reads_marked (m ∷ ms) = reads_set (marked (replicate instruction_places 2) ms) ms (reads_marked ms) m

-- ---- one more mark at the end counts where none before it settles the number
abbrev NotTwo : ℕ → Type 0
NotTwo f = f ≡ 2 → ⊥

abbrev NoTwo : List Mark → Type 0
NoTwo ms = Fated NotTwo ms

among_last : (k : ℕ) (ms : List Mark) (m : Mark) → NoTwo ms →
    fate_among k (ms ++ (m ∷ [])) ≡ pick (eqb (fate_among k ms) 2) (pick (eqb m.number k) m.fate 2) (fate_among k ms)
unfolding fate_among
among_last k [] m n = refl
among_last k (x ∷ xs) m n =
    let ih = among_last k xs m n.1 in
    by_bool (eqb x.number k) (λ e. rw (e, ne_eqb x.fate 2 n.0)) (λ e. rw e ih)

two_stays : (k : ℕ) → k ≡ pick (eqb k 2) 2 k
two_stays k = elim (ℕ_discrete k 2) [ yes e ↦ rw (eq-eqb k 2 e) e | no n ↦ rw (ne_eqb k 2 n) ]

module _ (fates : List ℕ) (long : length fates ≡ instruction_places) (m : Mark) where
  -- a fate is set where none is settled
  settle_is : settle_fate fates m.number m.fate ≡ pick (eqb (get_or fates (m.number - 1) 0) 2) (set_fate fates m.number m.fate) fates
  unfolding settle_fate set_fate
  settle_is = go (eqb m.number 0) (eqb (get_or fates (m.number - 1) 0) 2)
    where
      new : List ℕ
      new = set fates (m.number - 1) m.fate

      go : (a b : Bool) → pick a fates (pick b new fates) ≡ pick b (pick a fates new) fates
      go true true = refl
      go true false = refl
      go false b = refl

  settle_long : length (settle_fate fates m.number m.fate) ≡ instruction_places
  settle_long =
      by_bool (eqb (get_or fates (m.number - 1) 0) 2) (λ e. rw (settle_is, e) (set_length fates m.number m.fate ∙ long))
      (λ e. rw (settle_is, e) long)

  settle_at : (i : ℕ) → i < instruction_places →
      get_or (settle_fate fates m.number m.fate) i 0 ≡ pick (eqb (get_or fates i 0) 2) (pick (eqb m.number (i + 1)) m.fate 2) (get_or fates i 0)
  settle_at i h = rw settle_is (go (eqb (get_or fates (m.number - 1) 0) 2) refl (ℕ_discrete m.number (i + 1)))
    where
      go : (b : Bool) → eqb (get_or fates (m.number - 1) 0) 2 ≡ b → Dec (m.number ≡ i + 1) →
          get_or (pick b (set_fate fates m.number m.fate) fates) i 0
          ≡ pick (eqb (get_or fates i 0) 2) (pick (eqb m.number (i + 1)) m.fate 2) (get_or fates i 0)
      go true q (yes e) =
          let p : m.number - 1 ≡ i = omega arith in
          rw (set_at fates long m i h, rw p at q, eq-eqb m.number (i + 1) e)
      go false q (yes e) = let p : m.number - 1 ≡ i = omega arith in rw (rw p at q)
      go true q (no n) = rw (set_at fates long m i h, ne_eqb m.number (i + 1) n) (two_stays (get_or fates i 0))
      go false q (no n) = rw (ne_eqb m.number (i + 1) n) (two_stays (get_or fates i 0))

reads_settle : (fates : List ℕ) (ms : List Mark) → Reads fates ms → NoTwo ms → (m : Mark) →
    Reads (settle_fate fates m.number m.fate) (ms ++ (m ∷ []))
reads_settle fates ms r none m = record {
  long = settle_long fates r.long m;
  at = λ i h.
      settle_at fates r.long m i h
      ∙ (ap (λ (k : ℕ). pick (eqb k 2) (pick (eqb m.number (i + 1)) m.fate 2) k) (r.at i h) ∙ sym (among_last (i + 1) ms m none));
}

pub reads_settled : (fates : List ℕ) (ms ls : List Mark) → Reads fates ms → NoTwo ms → NoTwo ls → Reads (settled fates ls) (ms ++ ls)
unfolding settled
reads_settled fates ms [] r n k = rw append-nil r
reads_settled fates ms (l ∷ ls) r n k =
    rw append_assoc at
    (reads_settled (settle_fate fates l.number l.fate) (ms ++ (l ∷ [])) ls (reads_settle fates ms r n l)
    (fated_append NotTwo ms (l ∷ []) n (k.0, tt)) k.1)

-- ---- the fates by number
number_at : (k : ℕ) (is : List Instruction) (i : ℕ) → i < length is → (get_or (numbered k is) i no_numbered).number ≡ k + i
unfolding numbered
number_at k [] i h = absurd (omega arith)
number_at k (x ∷ xs) zero h = omega arith
number_at k (x ∷ xs) (suc i) h = number_at (suc k) xs i (omega arith) ∙ omega arith

fates_last : (all : List Numbered) (ms : List Mark) (xs : List Numbered) (x : Numbered) →
    fates_of all ms (xs ++ (x ∷ [])) ≡ fates_of all ms xs ++ (pick (superseded all x) 1 (fate_among x.number ms) ∷ [])
unfolding fates_of
fates_last all ms [] x = refl
fates_last all ms (y ∷ ys) x = ap (λ (l : List ℕ). pick (superseded all y) 1 (fate_among y.number ms) ∷ l) (fates_last all ms ys x)

module _ (is : List Instruction) (few : length is ≤ instruction_places) (later : List ℕ) (ms : List Mark) (r : Reads later ms) where
  fates_upto : (i : ℕ) → i ≤ length is → fates_to (numbered 1 is) later i ≡ fates_of (numbered 1 is) ms (take i (numbered 1 is))
  unfolding fates_to fates_of
  fates_upto zero h = refl
  fates_upto (suc i) h =
      let os = numbered 1 is in
      let o = get_or os i no_numbered in
      let n : i + 1 ≡ o.number = omega (arith, number_at 1 is i h) in
      let e : get_or later i 0 ≡ fate_among o.number ms = r.at i (omega arith) ∙ ap (λ (k : ℕ). fate_among k ms) n in
      let ih : fates_to os later i ≡ fates_of os ms (take i os) = fates_upto i (omega arith) in
      (λ j. ih j ++ (pick (superseded os o) 1 (e j) ∷ []))
      ∙ (sym (fates_last os ms (take i os) o) ∙ ap (fates_of os ms) (sym (take-suc os i no_numbered (omega (arith, numbered_length 1 is)))))

  pub fates_all : fates_to (numbered 1 is) later (length (numbered 1 is)) ≡ fates_of (numbered 1 is) ms (numbered 1 is)
  fates_all =
      ap (fates_to (numbered 1 is) later) (numbered_length 1 is) ∙ (fates_upto (length is) (omega arith)
      ∙ ap (fates_of (numbered 1 is) ms) (take_all (length is) (numbered 1 is) (omega (arith, numbered_length 1 is))))

-- ---- the four steps together
module _ (end : ℕ) (os ks : List Numbered) (fates : List ℕ) (t : Tracks ks fates (check none_checked (used end os))) where
  in_time : ks ≡ turned (check none_checked (used end os)).kept []
  in_time = sym (turned_back ks) ∙ ap (λ (l : List Numbered). turned l []) t.stack

  pub acts_are : actors end ks ≡ (validated end os).acts
  unfolding validated kept_of
  acts_are = ap (actors end) in_time

  pub marks_are : Reads (settled fates (late_marks end ks)) (validated end os).marks
  unfolding validated kept_of
  marks_are =
      let m : Checked = check none_checked (used end os) in
      let ls = late_marks end (turned m.kept []) in
      rw (in_time, t.settled)
      (reads_settled (marked (replicate instruction_places 2) m.marks) m.marks ls (reads_marked m.marks)
      (checked_fated NotTwo (omega arith) (omega arith) (omega arith) none_checked (used end os) tt)
      (late_fated NotTwo (omega arith) (omega arith) (omega arith) end (turned m.kept [])))

-- what the code puts together
abbrev pub put_together : ℕ → List Numbered → List Numbered → List ℕ → Validation
put_together end os ks later =
    record { fates = filled instruction_places 0 (fates_to os later (length os)); acts = sequence_of (actors end ks) }

outcome_is : (end : ℕ) (is : List Instruction) → length is ≤ instruction_places → (ks : List Numbered) (fates : List ℕ) →
    Tracks ks fates (check none_checked (used end (numbered 1 is))) →
    put_together end (numbered 1 is) ks (settled fates (late_marks end ks)) ≡ outcome_of (numbered 1 is) end
unfolding outcome_of
outcome_is end is few ks fates t =
    let os = numbered 1 is in
    let later = settled fates (late_marks end ks) in
    let f : fates_to os later (length os) ≡ fates_of os (validated end os).marks os =
    fates_all is few later (validated end os).marks (marks_are end os ks fates t) in
    let a : actors end ks ≡ (validated end os).acts = acts_are end os ks fates t in
    λ j. record { fates = filled instruction_places 0 (f j); acts = sequence_of (a j) }

-- of the first n of the instructions
module _ (is : List Instruction) (count n : ℕ) (all : length is ≡ instruction_places) (m : n ≡ min count instruction_places) where
  entered : take n is ≡ take count is
  entered = elim (dec_le count instruction_places) [
    | yes h ↦ let e : n ≡ count = omega arith in rw e
    | no h ↦
        let e : n ≡ instruction_places = omega arith in
        rw e (take_all instruction_places is (omega arith) ∙ sym (take_all count is (omega arith)))
  ]

  pub validation_is : (end : ℕ) (ks : List Numbered) (fates : List ℕ) → Tracks ks fates (check none_checked (used end (numbered 1 (take n is)))) →
      put_together end (numbered 1 (take n is)) ks (settled fates (late_marks end ks)) ≡ validation_of is count end
  unfolding validation_of
  validation_is end ks fates t =
      outcome_is end (take n is) (omega (arith, length-take n is)) ks fates t ∙ ap (λ (l : List Instruction). outcome_of (numbered 1 l) end) entered

-- none entered
pub none_entered : (is : List Instruction) (count end : ℕ) → count ≡ 0 →
    record { fates = replicate instruction_places 0; acts = sequence_of [] } ≡ validation_of is count end
unfolding validation_of outcome_of numbered validated kept_of used used_from check turned actors late_marks fates_of filled
none_entered is count end e = rw e refl
