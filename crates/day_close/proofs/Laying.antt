-- Laying the fates of those that act over the others gives what `fates_of` says of all marks.
use Prim.Native.Nat.{ℕ, zero, suc, ◌+◌, ◌-◌, ◌≤◌, ◌<◌}
use mathlib.Core.Path.{◌≡◌, refl, ap, sym, ◌∙◌}
use mathlib.Core.List.{List, [], ◌∷◌, ◌++◌, map}
use mathlib.Core.Bool.{Bool, true, false, true≢false}
use native.Mathlib.Decide.{dec_le, ℕ_discrete}
use native.Mathlib.Omega.{arith}
use lib.Dec.{leb, eqb}
use lib.ListN.{length, take, drop, replicate, get_or, set, length-map, length-append}
use borrow.Author.Tests.{le-leb, lt-leb, eq-eqb, ne_eqb}
use Rattle.level.specs.Choice.{pick}
use Rattle.level.specs.Lists.{All, filled}
use Rattle.level.proofs.Lists.{by_bool}
use Rattle.records.specs.declared.UnitData.{UnitData}
use Rattle.records.specs.declared.Instruction.{Instruction}
use Rattle.records.specs.declared.Effect.TheVariants.{Fail}
use Rattle.records.specs.Codes.{same}
use Rattle.validation.specs.declared.Numbered.{Numbered}
use Rattle.validation.specs.Kept.{Mark, mark, numbered, superseded, effect_of, effective_of, repeats, sync_within_hour, from_sync, Checked, failed, check_one, check, used, overtaken, acting, late_fate, late_marks, turned, kept_of, validated, fate_among, fates_of}
use Rattle.validation.proofs.Few.{numbered_length, fates_length}
use Rattle.validation_groups.specs.Working.{no_numbered}
use Rattle.profile.specs.declared.UnderWay.{UnderWay}
use Rattle.profile.specs.State.{by_rule}
use Rattle.profile.specs.Effects.{goes_on, replaces, follow}
use Rattle.level.proofs.FewLists.{few_filled}
use lib.Seq.{take-append_seam, drop-append_seam}
use Rattle.profile.proofs.Following.{follow_ind}
use Rattle.profile_follow.specs.Walk.{fate_in}
use Rattle.day_close.specs.Laying.{over_fate, over_all, marks_of}

-- ---- one fate, case by case
module _ (fates : List ℕ) (number fate : ℕ) where
  pub over_none : number ≡ 0 → fates ≡ over_fate fates number fate
  unfolding over_fate
  over_none z = simp (eq-eqb number 0 z)

  pub over_out : (number ≡ 0 → ⊥) → length fates ≤ number - 1 → fates ≡ over_fate fates number fate
  unfolding over_fate
  over_out z h = simp (ne_eqb number 0 z, le-leb (length fates) (number - 1) h)

  pub over_one : (number ≡ 0 → ⊥) → number - 1 < length fates → get_or fates (number - 1) 0 ≡ 1 → fates ≡ over_fate fates number fate
  unfolding over_fate
  over_one z h e = simp (ne_eqb number 0 z, lt-leb (length fates) (number - 1) h, eq-eqb (get_or fates (number - 1) 0) 1 e)

  pub over_set : (number ≡ 0 → ⊥) → number - 1 < length fates → (get_or fates (number - 1) 0 ≡ 1 → ⊥) →
      set fates (number - 1) fate ≡ over_fate fates number fate
  unfolding over_fate
  over_set z h e = simp (ne_eqb number 0 z, lt-leb (length fates) (number - 1) h, ne_eqb (get_or fates (number - 1) 0) 1 e)

-- the loop from the last to the first
over_append : (xs : List ℕ) (ms ns : List Mark) → over_all xs (ms ++ ns) ≡ over_all (over_all xs ns) ms
unfolding over_all
over_append xs [] ns = refl
over_append xs (m ∷ ms) ns = ap (λ (l : List ℕ). over_fate l m.number m.fate) (over_append xs ms ns)

marks_last : (os : List Numbered) (fs : List ℕ) (o : Numbered) (f : ℕ) → length os ≡ length fs →
    marks_of (os ++ (o ∷ [])) (fs ++ (f ∷ [])) ≡ marks_of os fs ++ (record { number = o.number; fate = f } ∷ [])
unfolding marks_of
marks_last [] [] o f e = refl
marks_last [] (x ∷ fs) o f e = absurd (omega arith)
marks_last (a ∷ os) [] o f e = absurd (omega arith)
marks_last (a ∷ os) (x ∷ fs) o f e =
    ap (λ (ms : List Mark). record { number = a.number; fate = x } ∷ ms) (marks_last os fs o f (omega (arith, e)))

-- the fates of those left are to be laid over these to come to the whole
pub record LeftToLay (os : List Numbered) (fs ys whole : List ℕ) : Type 0 where
  pub paired : length os ≡ length fs
  pub over : over_all ys (marks_of os fs) ≡ whole

pub last_laid : {os : List Numbered} {fs ys whole : List ℕ} (os' : List Numbered) (fs' : List ℕ) (o : Numbered) (f : ℕ) →
    os ≡ os' ++ (o ∷ []) → fs ≡ fs' ++ (f ∷ []) → LeftToLay os fs ys whole → LeftToLay os' fs' (over_fate ys o.number f) whole
unfolding over_all
last_laid {os} {fs} {ys} {whole} os' fs' o f a b v =
    let e : length os' ≡ length fs' =
    omega (arith, v.paired, ap length a, ap length b, length-append os' (o ∷ []), length-append fs' (f ∷ [])) in
    record {
      paired = e;
      over = sym (over_append ys (marks_of os' fs') (record { number = o.number; fate = f } ∷ []))
          ∙ ap (over_all ys) (sym (marks_last os' fs' o f e)) ∙ (λ i. over_all ys (marks_of (sym a i) (sym b i))) ∙ v.over;
    }

pub all_laid : (os : List Numbered) (fs ys whole : List ℕ) → length os ≡ 0 → LeftToLay os fs ys whole → ys ≡ whole
unfolding over_all marks_of
all_laid [] fs ys whole e v = v.over
all_laid (o ∷ os) fs ys whole e v = absurd (omega arith)

-- ---- no mark gives fate 1
abbrev NotOne : List Mark → Type 0
NotOne ms = All (λ (m : Mark). eqb m.fate 1 ≡ false) ms

all_append : (xs ys : List Mark) → NotOne xs → NotOne ys → NotOne (xs ++ ys)
all_append [] ys p q = q
all_append (x ∷ xs) ys p q = (p.0, all_append xs ys p.1 q)

fours : (ks : List Numbered) → NotOne (map (mark 4) ks)
fours [] = tt
fours (k ∷ ks) = (refl, fours ks)

one_not : (s : Checked) (o : Numbered) → NotOne s.marks → NotOne (check_one s o).marks
unfolding check_one failed
one_not s o d = by_bool (same (effect_of o) Fail) (λ e. by_bool (sync_within_hour (effective_of o) s.kept)
    (λ f. rw (e, f) (refl, all_append (map (mark 4) (from_sync s.kept)) s.marks (fours (from_sync s.kept)) d)) (λ f. rw (e, f) (refl, d)))
    (λ e. by_bool (repeats o s.kept) (λ f. rw (e, f) (refl, d)) (λ f. rw (e, f) d))

check_not : (s : Checked) (os : List Numbered) → NotOne s.marks → NotOne (check s os).marks
unfolding check
check_not s [] d = d
check_not s (o ∷ os) d = check_not (check_one s o) os (one_not s o d)

late_not : (end : ℕ) (os : List Numbered) → NotOne (late_marks end os)
unfolding late_marks late_fate
late_not end [] = tt
late_not end (o ∷ os) = (go (overtaken o os) (leb end (acting o)), late_not end os)
  where
    go : (a b : Bool) → eqb (pick a 6 (pick b 8 0)) 1 ≡ false
    go true b = refl
    go false true = refl
    go false false = refl

marks_not : (end : ℕ) (os : List Numbered) → NotOne (validated end os).marks
unfolding validated kept_of
marks_not end os =
    let s : Checked = check (record { kept = []; marks = [] }) (used end os) in
    all_append s.marks (late_marks end (turned s.kept [])) (check_not (record { kept = []; marks = [] }) (used end os) tt)
    (late_not end (turned s.kept []))

among_not : (n : ℕ) (ms : List Mark) → NotOne ms → eqb (fate_among n ms) 1 ≡ false
unfolding fate_among
among_not n [] d = refl
among_not n (m ∷ ms) d = go (eqb m.number n) (among_not n ms d.1)
  where
    go : (b : Bool) → eqb (fate_among n ms) 1 ≡ false → eqb (pick b m.fate (fate_among n ms)) 1 ≡ false
    go true ih = d.0
    go false ih = ih

-- ---- one more mark in front
module _ (all : List Numbered) (m : Mark) (ms : List Mark) where
  abbrev before : ℕ → List Instruction → List ℕ
  before k is = fates_of all ms (numbered k is)

  abbrev behind : ℕ → List Instruction → List ℕ
  behind k is = fates_of all (m ∷ ms) (numbered k is)

  -- a number that none has
  mark_other : (k : ℕ) (is : List Instruction) → ((j : ℕ) → j < length is → (m.number ≡ k + j → ⊥)) → behind k is ≡ before k is
  unfolding fates_of numbered fate_among
  mark_other k [] h = refl
  mark_other k (i ∷ is) h =
      let o : Numbered = record { number = k; instruction = i } in
      let e : eqb m.number k ≡ false = ne_eqb m.number k (λ q. h 0 (omega arith) (omega arith)) in
      λ x. pick (superseded all o) 1 ((ap (λ (b : Bool). pick b m.fate (fate_among k ms)) e) x) ∷
      (mark_other (suc k) is (λ j p q. h (suc j) (omega arith) (omega arith))) x

  -- one that step 1 settles
  mark_one : NotOne ms → (k j : ℕ) (is : List Instruction) → j < length is → m.number ≡ k + j → get_or (before k is) j 0 ≡ 1 →
      behind k is ≡ before k is
  unfolding fates_of numbered fate_among
  mark_one d k j [] h e one = absurd (omega arith)
  mark_one d k zero (i ∷ is) h e one =
      let o : Numbered = record { number = k; instruction = i } in
      λ x. (go (superseded all o) one) x ∷ (mark_other (suc k) is (λ n p q. omega arith)) x
    where
      go : (b : Bool) → pick b 1 (fate_among k ms) ≡ 1 → pick b 1 (pick (eqb m.number k) m.fate (fate_among k ms)) ≡ pick b 1 (fate_among k ms)
      go true q = refl
      go false q = absurd (true≢false (sym (eq-eqb (fate_among k ms) 1 q) ∙ among_not k ms d))
  mark_one d k (suc j) (i ∷ is) h e one =
      let o : Numbered = record { number = k; instruction = i } in
      let f : eqb m.number k ≡ false = ne_eqb m.number k (λ q. omega arith) in
      λ x. pick (superseded all o) 1 ((ap (λ (b : Bool). pick b m.fate (fate_among k ms)) f) x) ∷
      (mark_one d (suc k) j is (omega arith) (omega arith) one) x

  mark_set : (k j : ℕ) (is : List Instruction) → j < length is → m.number ≡ k + j → (get_or (before k is) j 0 ≡ 1 → ⊥) →
      behind k is ≡ set (before k is) j m.fate
  unfolding fates_of numbered fate_among
  mark_set k j [] h e one = absurd (omega arith)
  mark_set k zero (i ∷ is) h e one =
      let o : Numbered = record { number = k; instruction = i } in
      λ x. (go (superseded all o) one) x ∷ (mark_other (suc k) is (λ n p q. omega arith)) x
    where
      go : (b : Bool) → (pick b 1 (fate_among k ms) ≡ 1 → ⊥) → pick b 1 (pick (eqb m.number k) m.fate (fate_among k ms)) ≡ m.fate
      go true q = absurd (q refl)
      go false q = ap (λ (b : Bool). pick b m.fate (fate_among k ms)) (eq-eqb m.number k (omega arith))
  mark_set k (suc j) (i ∷ is) h e one =
      let o : Numbered = record { number = k; instruction = i } in
      let f : eqb m.number k ≡ false = ne_eqb m.number k (λ q. omega arith) in
      λ x. pick (superseded all o) 1 ((ap (λ (b : Bool). pick b m.fate (fate_among k ms)) f) x) ∷
      (mark_set (suc k) j is (omega arith) (omega arith) one) x

-- ---- one more mark in front is one more fate laid over
module _ (all : List Numbered) (is : List Instruction) where
  abbrev fates_by : List Mark → List ℕ
  fates_by ms = fates_of all ms (numbered 1 is)

  many : (ms : List Mark) → length (fates_by ms) ≡ length is
  many ms = fates_length all ms (numbered 1 is) ∙ numbered_length 1 is

  over_mark : (m : Mark) (ms : List Mark) → NotOne ms →
      over_fate (fates_by ms) m.number m.fate ≡ fates_by (m ∷ ms)
  over_mark m ms d =
      let xs : List ℕ = fates_by ms in
      let j : ℕ = m.number - 1 in
      elim (ℕ_discrete m.number 0) [
        | yes z ↦ sym (over_none xs m.number m.fate z) ∙ sym (mark_other all m ms 1 is (λ i p q. omega arith))
        | no z ↦ elim (dec_le (length xs) j) [
          | yes h ↦ sym (over_out xs m.number m.fate z h) ∙ sym (mark_other all m ms 1 is (λ i p q. omega (arith, many ms)))
          | no h ↦
              let here : j < length is = omega (arith, many ms) in
              elim (ℕ_discrete (get_or xs j 0) 1) [
                | yes e ↦ sym (over_one xs m.number m.fate z (omega arith) e) ∙ sym (mark_one all m ms d 1 j is here (omega arith) e)
                | no e ↦ sym (over_set xs m.number m.fate z (omega arith) e) ∙ sym (mark_set all m ms 1 j is here (omega arith) e)
              ]
        ]
      ]

  over_marks : (ns ms : List Mark) → NotOne ns → NotOne ms →
      over_all (fates_by ms) ns ≡ fates_by (ns ++ ms)
  unfolding over_all
  over_marks [] ms p q = refl
  over_marks (n ∷ ns) ms p q = ap (λ (xs : List ℕ). over_fate xs n.number n.fate) (over_marks ns ms p.1 q)
      ∙ over_mark n (ns ++ ms) (all_append ns ms p.1 q)

-- ---- the marks of those that act
abbrev no_mark : Mark
no_mark = record { number = 0; fate = 0 }

marks_are : (os : List Numbered) (ms : List Mark) → length ms ≡ length os →
    ((j : ℕ) → (get_or ms j no_mark).number ≡ (get_or os j no_numbered).number) → marks_of os (map fate_in ms) ≡ ms
unfolding marks_of
marks_are [] [] e h = refl
marks_are [] (m ∷ ms) e h = absurd (omega arith)
marks_are (o ∷ os) [] e h = absurd (omega arith)
marks_are (o ∷ os) (m ∷ ms) e h =
    λ x. record { number = sym (h 0) x; fate = m.fate } ∷ marks_are os ms (omega (arith, e)) (λ j. h (suc j)) x

-- as many as act, with their numbers, and none has fate 1
record MarksOf (ms : List Mark) (ns : List Numbered) : Type 0 where
  many : length ms ≡ length ns
  numbers : (j : ℕ) → (get_or ms j no_mark).number ≡ (get_or ns j no_numbered).number
  not_one : NotOne ms

one_more : (o : Numbered) (os : List Numbered) (fate : ℕ) → eqb fate 1 ≡ false → (ms : List Mark) → MarksOf ms os →
    MarksOf (mark fate o ∷ ms) (o ∷ os)
one_more o os fate e ms a = record { many = ap suc a.many; numbers = at; not_one = (e, a.not_one) }
  where
    at : (j : ℕ) → (get_or (mark fate o ∷ ms) j no_mark).number ≡ (get_or (o ∷ os) j no_numbered).number
    at zero = refl
    at (suc j) = a.numbers j

follow_marks : (u : UnitData) (now : UnderWay) (os : List Numbered) → MarksOf (follow by_rule u now os).marks os
follow_marks u = follow_ind by_rule u (λ now os f. MarksOf f.marks os) (λ now. record { many = refl; numbers = λ j. refl; not_one = tt })
    (λ now o os f e a. unfold goes_on in one_more o os 7 refl f.marks a) (λ now o os g f e a. unfold replaces in one_more o os 0 refl f.marks a)

-- ---- all together

module _ (u : UnitData) (now : UnderWay) (os : List Numbered) where
  abbrev own : List Mark
  own = (follow by_rule u now os).marks

  -- a fate for each that acts
  pub own_many : length (map fate_in own) ≡ length os
  own_many = length-map own fate_in ∙ (follow_marks u now os).many

  -- those that act, with these fates
  pub own_marks : marks_of os (map fate_in own) ≡ own
  own_marks = let f = follow_marks u now os in marks_are os own f.many f.numbers

  pub fates_found : (end : ℕ) (is : List Instruction) →
      over_all (fates_of (numbered 1 is) (validated end (numbered 1 is)).marks (numbered 1 is)) own
      ≡ fates_of (numbered 1 is) (own ++ (validated end (numbered 1 is)).marks) (numbered 1 is)
  fates_found end is =
      over_marks (numbered 1 is) is own (validated end (numbered 1 is)).marks (follow_marks u now os).not_one (marks_not end (numbered 1 is))

-- ---- the first places of an array that begins with xs
module _ (n z : ℕ) (xs : List ℕ) (h : length xs ≤ n) where
  pub front_of : take (length xs) (filled n z xs) ≡ xs
  front_of = ap (take (length xs)) (sym (few_filled n z xs h)) ∙ take-append_seam xs (replicate (n - length xs) z)

  -- others in their places
  pub front_laid : (ys : List ℕ) → length ys ≡ length xs → ys ++ drop (length xs) (filled n z xs) ≡ filled n z ys
  front_laid ys e = ap (λ (l : List ℕ). ys ++ drop (length xs) l) (sym (few_filled n z xs h))
      ∙ ap (λ (l : List ℕ). ys ++ l) (drop-append_seam xs (replicate (n - length xs) z))
      ∙ ap (λ (k : ℕ). ys ++ replicate (n - k) z) (sym e) ∙ few_filled n z ys (omega arith)

pub ruleset overs = (over_none, over_out, over_one, over_set)
