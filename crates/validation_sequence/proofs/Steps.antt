-- The cases of step 3, each with its conditions as plain facts.
use mathlib.Core.Path.{◌≡◌, refl, sym, ap, ◌∙◌}
use mathlib.Core.List.{List, [], ◌∷◌, ◌++◌, map}
use mathlib.Core.Bool.{true, false}
use Prim.Native.Nat.{ℕ, ◌+◌, ◌-◌, ◌≤◌, ◌<◌}
use native.Mathlib.Omega.{arith}
use lib.Dec.{eqb}
use lib.ListN.{length, take, drop, get_or, replicate, length-set, length-take}
use Rattle.std.specs.Prelude.{Option, Some, None, MatchOption}
use Rattle.std.proofs.lemmas.List.{take_more}
use Rattle.level.proofs.Lists.{by_bool}
use Rattle.level.specs.Numbers.{instruction_places}
use Rattle.records.specs.declared.Effect.TheVariants.{Fail}
use Rattle.records.specs.Codes.{same}
use Rattle.validation.specs.declared.Numbered.{Numbered}
use Rattle.validation.specs.Kept.{effect_of, Mark, mark, repeats, from_sync, before_sync, turned, Checked, failed, check_one, check}
use Rattle.validation_groups.specs.Working.{no_numbered}
use Rattle.validation_sequence.specs.Working.{set_fate, marked, none_checked, Tracks, sync_places, NoneWithinHour, LatestWithinHour, FailedOne}
use Rattle.validation_sequence.proofs.Stack.{turned_last, from_at, before_at}

-- what is matched is none
pub at_default : {A : Type 0} (r : Option A) (P : Type 0) (Q : A → Type 0) → ((x : A) → r ≡ Some x → ⊥) → MatchOption r P Q → P
at_default None P Q n m = m
at_default (Some x) P Q n m = absurd (n x refl)

-- ---- fates in an array
pub set_length : (fates : List ℕ) (number fate : ℕ) → length (set_fate fates number fate) ≡ length fates
unfolding set_fate
set_length fates number fate = by_bool (eqb number 0) (λ e. rw e) (λ e. rw e (length-set fates (number - 1) fate))

pub marked_append : (fates : List ℕ) (xs ys : List Mark) → marked fates (xs ++ ys) ≡ marked (marked fates ys) xs
unfolding marked
marked_append fates [] ys = refl
marked_append fates (x ∷ xs) ys = ap (λ (l : List ℕ). set_fate l x.number x.fate) (marked_append fates xs ys)

-- one more voided
pub voided_more : (ks : List Numbered) (i : ℕ) (before fates next : List ℕ) → i < length ks →
    next ≡ set_fate fates (get_or ks i no_numbered).number 4 →
    fates ≡ marked before (map (mark 4) (turned (take i ks) [])) → next ≡ marked before (map (mark 4) (turned (take (i + 1) ks) []))
unfolding marked
voided_more ks i before fates next h e f =
    let k = get_or ks i no_numbered in
    let more : turned (take (i + 1) ks) [] ≡ k ∷ turned (take i ks) [] =
    ap (λ (l : List Numbered). turned l []) (take_more ks i no_numbered h) ∙ turned_last (take i ks) k in
    rw more (e ∙ ap (λ (l : List ℕ). set_fate l k.number 4) f)

-- ---- step 3
module _ (kept : List Numbered) (fates : List ℕ) (o : Numbered) where
  tracks_fate : (fate : ℕ) (m : Checked) → Tracks kept fates m →
      Tracks kept (set_fate fates o.number fate) (record { kept = m.kept; marks = mark fate o ∷ m.marks })
  unfolding marked
  tracks_fate fate m t = record { stack = t.stack; settled = ap (λ (l : List ℕ). set_fate l o.number fate) t.settled }

  -- no kept SYNC is within the hour
  pub failed_off : length fates ≡ instruction_places → NoneWithinHour kept o → FailedOne kept fates o kept (set_fate fates o.number 5)
  unfolding failed
  failed_off l n = record {
    fewer = omega arith;
    long = set_length fates o.number 5 ∙ l;
    follows = λ m t.
        let q : failed m o ≡ record { kept = m.kept; marks = mark 5 o ∷ m.marks } = rw (rw t.stack at n) in
        rw q (tracks_fate 5 m t);
  }

  -- the latest is, and stands at this place
  pub failed_void : (at : ℕ) (next : List ℕ) → length next ≡ instruction_places → LatestWithinHour kept o at →
      next ≡ marked fates (map (mark 4) (turned (drop at kept) [])) → FailedOne kept fates o (take at kept) (set_fate next o.number 5)
  unfolding failed marked
  failed_void at next l w e = record {
    fewer = simp length-take (omega arith);
    long = set_length next o.number 5 ∙ l;
    follows = λ m t.
        let f : from_sync m.kept ≡ turned (drop at kept) [] = rw t.stack at (from_at kept at w.latest) in
        let b : turned (take at kept) [] ≡ before_sync m.kept = sym (rw t.stack at (before_at kept at w.latest)) in
        let g : next ≡ marked (replicate instruction_places 2) (map (mark 4) (from_sync m.kept) ++ m.marks) =
        rw (f, e, t.settled) (sym (marked_append (replicate instruction_places 2) (map (mark 4) (turned (drop at kept) [])) m.marks)) in
        let q : failed m o ≡ record { kept = before_sync m.kept; marks = mark 5 o ∷ (map (mark 4) (from_sync m.kept) ++ m.marks) } =
        rw (rw t.stack at w.near) in
        rw q (record { stack = b; settled = ap (λ (l : List ℕ). set_fate l o.number 5) g });
  }

  module _ (m : Checked) (t : Tracks kept fates m) where
    pub check_fail : (next_kept : List Numbered) (next : List ℕ) → same (effect_of o) Fail ≡ true → FailedOne kept fates o next_kept next →
        Tracks next_kept next (check_one m o)
    unfolding check_one
    check_fail next_kept next e f = let q : check_one m o ≡ failed m o = rw e in rw q (f.follows m t)

    pub check_repeat : same (effect_of o) Fail ≡ false → repeats o (turned kept []) ≡ true → Tracks kept (set_fate fates o.number 3) (check_one m o)
    unfolding check_one
    check_repeat n r =
        let q : check_one m o ≡ record { kept = m.kept; marks = mark 3 o ∷ m.marks } = rw (n, rw t.stack at r) in
        rw q (tracks_fate 3 m t)

    pub check_keep : same (effect_of o) Fail ≡ false → repeats o (turned kept []) ≡ false → Tracks (kept ++ (o ∷ [])) fates (check_one m o)
    unfolding check_one
    check_keep n r =
        let q : check_one m o ≡ record { kept = o ∷ m.kept; marks = m.marks } = rw (n, rw t.stack at r) in
        rw q (record { stack = turned_last kept o ∙ ap (λ (l : List Numbered). o ∷ l) t.stack; settled = t.settled })

check_last : (m : Checked) (xs : List Numbered) (x : Numbered) → check m (xs ++ (x ∷ [])) ≡ check_one (check m xs) x
unfolding check
check_last m [] x = refl
check_last m (y ∷ ys) x = check_last (check_one m y) ys x

-- step 3 over the first i of those used
pub record Checks (used : List Numbered) (i : ℕ) (kept : List Numbered) (syncs fates : List ℕ) : Type 0 where
  pub fewer : length kept ≤ i
  pub long : length fates ≡ instruction_places
  pub noted : syncs ≡ sync_places 0 kept
  pub tracks : Tracks kept fates (check none_checked (take i used))

pub checks_none : (used : List Numbered) → Checks used 0 [] [] (replicate instruction_places 2)
unfolding check turned marked sync_places
checks_none used = record { fewer = omega arith; long = refl; noted = refl; tracks = record { stack = refl; settled = refl } }

-- with the one at the place i
pub checks_more : {used next_kept : List Numbered} {syncs next : List ℕ} {i : ℕ} → i < length used → length next_kept ≤ i + 1 →
    length next ≡ instruction_places → syncs ≡ sync_places 0 next_kept →
    Tracks next_kept next (check_one (check none_checked (take i used)) (get_or used i no_numbered)) →
    Checks used (i + 1) next_kept syncs next
checks_more {used} {i = i} h few long noted t = record {
  fewer = few;
  long = long;
  noted = noted;
  tracks = rw (take_more used i no_numbered h, check_last none_checked (take i used) (get_or used i no_numbered)) t;
}
