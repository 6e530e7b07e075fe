-- No more act than were entered, and every fate is a digit.
use mathlib.Core.Path.{◌≡◌, refl, ap}
use mathlib.Core.List.{List, [], ◌∷◌, ◌++◌, map}
use Prim.Native.Nat.{ℕ, zero, suc, ◌+◌, ◌≤◌}
use native.Mathlib.Omega.{arith}
use lib.Dec.{leb, ltb, eqb}
use lib.ListN.{length, length-append}
use Rattle.level.specs.Lists.{All, those}
use Rattle.level.proofs.Lists.{by_bool, map_length, all_append}
use Rattle.records.specs.declared.Effect.{Effect}
use Rattle.records.specs.declared.Effect.TheVariants.{Mwof, Sync, Desy, Fail}
use Rattle.records.specs.declared.Instruction.{Instruction}
use Rattle.records.specs.Codes.{same}
use Rattle.validation.specs.declared.Numbered.{Numbered}
use Rattle.validation.specs.Kept.{effect_of, effective_of, numbered, Mark, mark, superseded, group, highest, first_one, or_else, present, carrying, merged, used_of, next_time, used_from, used, repeats, sync_within_hour, from_sync, before_sync, Checked, failed, check_one, check, acting, overtaken, late_fate, actors, late_marks, turned, kept_of, validated, fate_among, fates_of}

pub numbered_length : (n : ℕ) (is : List Instruction) → length (numbered n is) ≡ length is
unfolding numbered
numbered_length n [] = refl
numbered_length n (i ∷ is) = ap suc (numbered_length (suc n) is)

-- ---- one of each group
first_one_lem : (xs : List Numbered) → length (first_one xs) ≤ 1
first_one_lem [] = omega arith
first_one_lem (x ∷ xs) = omega arith

or_else_lem : (xs ys : List Numbered) → length xs ≤ 1 → length ys ≤ 1 → length (or_else xs ys) ≤ 1
or_else_lem [] ys p q = q
or_else_lem (x ∷ xs) ys p q = p

present_one : (c : Effect) (g : List Numbered) → length (present c g) ≤ 1
unfolding present
present_one c g = first_one_lem (those (λ (o : Numbered). same (effect_of o) c) g)

merged_one : (g : List Numbered) (o : Numbered) → length (merged g o) ≤ 1
unfolding merged
merged_one g o =
    let carrier : List Numbered = or_else (present Sync g) (present Desy g) in
    let one = or_else_lem (present Sync g) (present Desy g) (present_one Sync g) (present_one Desy g) in
    by_bool (same (effect_of o) Mwof)
    (λ e. rw e (or_else_lem (map (carrying o) carrier) (o ∷ []) (omega (arith, map_length (carrying o) carrier)) (omega arith))) (λ e. rw e (omega arith))

used_one : (g : List Numbered) → length (used_of g) ≤ 1
unfolding used_of
used_one [] = omega arith
used_one (o ∷ os) = merged_one (o ∷ os) (highest o os)

used_few : (end : ℕ) (os : List Numbered) (n t : ℕ) → length (used_from end os n t) ≤ n
unfolding used_from
used_few end os zero t = omega arith
used_few end os (suc n) t =
    let next = next_time end os t in
    by_bool (ltb next end)
    (λ e. rw (e, used_from) (simp length-append (omega (arith, used_one (group os next), used_few end os n (suc next)))))
    (λ e. rw (e, used_from) (omega arith))

-- ---- kept
before_fewer : (ks : List Numbered) → length (before_sync ks) ≤ length ks
unfolding before_sync
before_fewer [] = omega arith
before_fewer (k ∷ ks) =
    let ih = before_fewer ks in
    by_bool (same (effect_of k) Sync) (λ e. rw e (omega arith)) (λ e. rw e (omega arith))

check_one_lem : (s : Checked) (o : Numbered) → length (check_one s o).kept ≤ suc (length s.kept)
unfolding check_one failed
check_one_lem s o =
    by_bool (same (effect_of o) Fail)
    (λ e. by_bool (sync_within_hour (effective_of o) s.kept) (λ f. rw (e, f) (omega (arith, before_fewer s.kept))) (λ f. rw (e, f) (omega arith)))
    (λ e. by_bool (repeats o s.kept) (λ f. rw (e, f) (omega arith)) (λ f. rw (e, f) (omega arith)))

check_all : (s : Checked) (os : List Numbered) → length (check s os).kept ≤ length s.kept + length os
unfolding check
check_all s [] = omega arith
check_all s (o ∷ os) = omega (arith, check_one_lem s o, check_all (check_one s o) os)

turned_length : (xs ys : List Numbered) → length (turned xs ys) ≡ length xs + length ys
unfolding turned
turned_length [] ys = omega arith
turned_length (x ∷ xs) ys = omega (arith, turned_length xs (x ∷ ys))

actors_fewer : (end : ℕ) (os : List Numbered) → length (actors end os) ≤ length os
unfolding actors
actors_fewer end [] = omega arith
actors_fewer end (o ∷ os) =
    let ih = actors_fewer end os in
    by_bool (eqb (late_fate end o os) 0) (λ e. rw e (omega arith)) (λ e. rw e (omega arith))

pub acts_few : (end : ℕ) (os : List Numbered) → length (validated end os).acts ≤ length os
unfolding validated kept_of used
acts_few end os =
    let s : Checked = check (record { kept = []; marks = [] }) (used_from end os (length os) 0) in
    omega (
      arith,
      actors_fewer end (turned s.kept []),
      turned_length s.kept [],
      check_all (record { kept = []; marks = [] }) (used_from end os (length os) 0),
      used_few end os (length os) 0,
    )

-- ---- the fates of marks: 3, 4 and 5 of step 3; 6, 8 and 0 of step 4
abbrev pub Fated : (ℕ → Type 0) → List Mark → Type 0
Fated P ms = All (λ (m : Mark). P m.fate) ms

module _ (P : ℕ → Type 0) where
  pub fated_append : (xs ys : List Mark) → Fated P xs → Fated P ys → Fated P (xs ++ ys)
  fated_append xs ys p q = all_append (λ (m : Mark). P m.fate) xs ys p q

  module _ (p3 : P 3) (p4 : P 4) (p5 : P 5) where
    fours : (ks : List Numbered) → Fated P (map (mark 4) ks)
    fours [] = tt
    fours (k ∷ ks) = (p4, fours ks)

    checked_one : (s : Checked) (o : Numbered) → Fated P s.marks → Fated P (check_one s o).marks
    unfolding check_one failed
    checked_one s o d =
        by_bool (same (effect_of o) Fail)
        (λ e. by_bool (sync_within_hour (effective_of o) s.kept)
        (λ f. rw (e, f) (p5, fated_append (map (mark 4) (from_sync s.kept)) s.marks (fours (from_sync s.kept)) d))
        (λ f. rw (e, f) (p5, d)))
        (λ e. by_bool (repeats o s.kept) (λ f. rw (e, f) (p3, d)) (λ f. rw (e, f) d))

    pub checked_fated : (s : Checked) (os : List Numbered) → Fated P s.marks → Fated P (check s os).marks
    unfolding check
    checked_fated s [] d = d
    checked_fated s (o ∷ os) d = checked_fated (check_one s o) os (checked_one s o d)

  module _ (p0 : P 0) (p6 : P 6) (p8 : P 8) where
    pub late_fated : (end : ℕ) (os : List Numbered) → Fated P (late_marks end os)
    unfolding late_marks late_fate
    late_fated end [] = tt
    late_fated end (o ∷ os) =
        (by_bool (overtaken o os) (λ e. rw e p6) (λ e. by_bool (leb end (acting o)) (λ f. rw (e, f) p8) (λ f. rw (e, f) p0)), late_fated end os)

-- ---- fates
abbrev pub Digits : List Mark → Type 0
Digits ms = Fated (λ (f : ℕ). f ≤ 8) ms

pub digits_append : (xs ys : List Mark) → Digits xs → Digits ys → Digits (xs ++ ys)
digits_append xs ys p q = fated_append (λ (f : ℕ). f ≤ 8) xs ys p q

pub marks_digits : (end : ℕ) (os : List Numbered) → Digits (validated end os).marks
unfolding validated kept_of
marks_digits end os =
    let s : Checked = check (record { kept = []; marks = [] }) (used end os) in
    let digit : ℕ → Type 0 = λ (f : ℕ). f ≤ 8 in
    digits_append s.marks (late_marks end (turned s.kept []))
    (checked_fated digit (omega arith) (omega arith) (omega arith) (record { kept = []; marks = [] }) (used end os) tt)
    (late_fated digit (omega arith) (omega arith) (omega arith) end (turned s.kept []))

among_digit : (n : ℕ) (ms : List Mark) → Digits ms → fate_among n ms ≤ 8
unfolding fate_among
among_digit n [] d = omega arith
among_digit n (m ∷ ms) d = by_bool (eqb m.number n) (λ e. rw e d.0) (λ e. rw e (among_digit n ms d.1))

pub fates_digits : (all : List Numbered) (ms : List Mark) (os : List Numbered) → Digits ms → All (λ (f : ℕ). f ≤ 8) (fates_of all ms os)
unfolding fates_of
fates_digits all ms [] d = tt
fates_digits all ms (o ∷ os) d =
    (by_bool (superseded all o) (λ e. rw e (omega arith)) (λ e. rw e (among_digit o.number ms d)), fates_digits all ms os d)

pub fates_length : (all : List Numbered) (ms : List Mark) (os : List Numbered) → length (fates_of all ms os) ≡ length os
unfolding fates_of
fates_length all ms [] = refl
fates_length all ms (o ∷ os) = ap suc (fates_length all ms os)
