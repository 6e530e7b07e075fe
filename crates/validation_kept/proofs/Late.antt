-- The cases of step 4 and of the fates by number, each with its conditions as plain facts.
use mathlib.Core.Path.{◌≡◌, refl, sym, ap, ◌∙◌}
use mathlib.Core.List.{List, [], ◌∷◌, ◌++◌, append_assoc}
use mathlib.Core.Bool.{Bool, ◌||◌}
use Prim.Native.Nat.{ℕ, zero, suc, ◌+◌, ◌≤◌, ◌<◌, min}
use native.Mathlib.Numerals.{add-one}
use native.Mathlib.Decide.{dec_le, ℕ_discrete}
use native.Mathlib.Omega.{arith}
use lib.Dec.{leb, ltb}
use lib.ListN.{length, take, drop, get_or, set, length-append, length-drop}
use lib.Seq.{drop-drop, drop-append_seam, length-take-le, get_or-set_same, get_or-set_other}
use borrow.Author.Tests.{le-leb, lt-leb, eq-eqb, ne_eqb}
use Rattle.std.proofs.lemmas.List.{take_more, drop_more, get_or-drop}
use Rattle.std.specs.Prelude.{◌⊎◌}
use Rattle.std.proofs.Common.{inl, inr}
use Rattle.level.specs.Choice.{pick}
use Rattle.level.specs.Numbers.{instruction_places}
use Rattle.level.specs.Lists.{some, filled}
use Rattle.level.proofs.Arrays.{filled_push}
use Rattle.records.specs.declared.Instruction.{Instruction}
use Rattle.validation.specs.declared.Numbered.{Numbered}
use Rattle.validation.specs.Kept.{numbered, superseded, acting, overtaken, late_fate, actors, late_marks}
use Rattle.validation_groups.specs.Working.{no_numbered, numbered_at, issue_time_of, time_at, latest_at}
use Rattle.validation_groups.proofs.Laws.{superseded_is}
use Rattle.validation_kept.specs.Late.{settle_fate, settled, never, earliest_acting, late_fate_by, fates_to}

-- ---- the instructions as entered
number_last : (k : ℕ) (is : List Instruction) (x : Instruction) →
    numbered k (is ++ (x ∷ [])) ≡ numbered k is ++ (record { number = k + length is; instruction = x } ∷ [])
unfolding numbered
number_last k [] x = let e : k ≡ k + 0 = omega arith in λ j. record { number = e j; instruction = x } ∷ []
number_last k (y ∷ ys) x =
    let e : suc k + length ys ≡ k + suc (length ys) = omega arith in
    ap (λ (l : List Numbered). record { number = k; instruction = y } ∷ l)
    (number_last (suc k) ys x ∙ (λ j. numbered (suc k) ys ++ (record { number = e j; instruction = x } ∷ [])))

-- one more of them
pub number_more : (is : List Instruction) (i : ℕ) → i < length is →
    numbered 1 (take (i + 1) is) ≡ numbered 1 (take i is) ++ (numbered_at i (get_or is i no_numbered.instruction) ∷ [])
number_more is i h =
    let x = get_or is i no_numbered.instruction in
    let e : 1 + length (take i is) ≡ i + 1 = omega (arith, length-take-le i is (omega arith)) in
    ap (numbered 1) (take_more is i no_numbered.instruction h) ∙ (number_last 1 (take i is) x
    ∙ (λ j. numbered 1 (take i is) ++ (record { number = e j; instruction = x } ∷ [])))

-- ---- the first of what is left of a list from the place i on
pub record FrontAt {A : Type 0} (xs : List A) (i : ℕ) (d x : A) (rest : List A) : Type 0 where
  pub here : i < length xs
  pub is : x ≡ get_or xs i d
  pub left : rest ≡ drop (i + 1) xs

pub front_at : {A : Type 0} (xs : List A) (i : ℕ) (d x : A) (rest : List A) → x ∷ rest ≡ drop i xs → FrontAt xs i d x rest
front_at {A} xs i d x rest e =
    let z : i + 0 ≡ i = omega arith in
    record {
      here = omega (arith, ap length e, length-drop i xs);
      is = ap (λ (l : List A). get_or l 0 d) e ∙ (get_or-drop i xs 0 d ∙ ap (λ (k : ℕ). get_or xs k d) z);
      left = ap (drop 1) e ∙ drop-drop 1 i xs;
    }

-- all are past where either list is at its end
pub both_past : (ks : List Numbered) (late : List ℕ) (i : ℕ) (rest : List Numbered) (fates : List ℕ) → length ks ≤ length late → rest ≡ drop i ks →
    fates ≡ drop i late → (length rest ≡ 0) ⊎ (length fates ≡ 0) → length ks ≤ i
both_past ks late i rest fates h p q (inl e) = omega (arith, ap length p, length-drop i ks)
both_past ks late i rest fates h p q (inr e) = omega (arith, ap length q, length-drop i late)

-- ---- step 4
leb_min : (e a own : ℕ) → (leb a own || leb e own) ≡ leb (min e a) own
leb_min e a own = elim (dec_le a own) [
  | yes h ↦ rw (le-leb a own h, le-leb (min e a) own (omega arith))
  | no h ↦ rw (lt-leb a own (omega arith)) (elim (dec_le e own) [
    | yes k ↦ rw (le-leb e own k, le-leb (min e a) own (omega arith))
    | no k ↦ rw (lt-leb e own (omega arith), lt-leb (min e a) own (omega arith))
  ])
]

-- one of those after it acts no later exactly where the earliest of them does
overtaken_is : (o : Numbered) (os : List Numbered) → acting o < never → overtaken o os ≡ leb (earliest_acting os) (acting o)
unfolding overtaken some earliest_acting
overtaken_is o [] h = sym (lt-leb never (acting o) h)
overtaken_is o (l ∷ os) h =
    ap (λ (b : Bool). leb (acting l) (acting o) || b) (overtaken_is o os h) ∙ leb_min (earliest_acting os) (acting l) (acting o)

pub late_is : (end own earliest : ℕ) (o : Numbered) (os : List Numbered) → own ≡ acting o → own < never → earliest ≡ earliest_acting os →
    late_fate_by end own earliest ≡ late_fate end o os
unfolding late_fate_by late_fate
late_is end own earliest o os e h k = rw (k, e, overtaken_is o os (rw e at h))

module _ (ks : List Numbered) (i : ℕ) (h : i < length ks) where
  abbrev one : Numbered
  one = get_or ks i no_numbered

  pub acting_more : min (earliest_acting (drop (i + 1) ks)) (acting one) ≡ earliest_acting (drop i ks)
  unfolding earliest_acting
  acting_more = rw (drop_more ks i no_numbered h)

  pub actors_skip : (end : ℕ) → (late_fate end one (drop (i + 1) ks) ≡ 0 → ⊥) → actors end (drop i ks) ≡ actors end (drop (i + 1) ks)
  unfolding actors
  actors_skip end e = rw (drop_more ks i no_numbered h) (simp (ne_eqb _ _ e))

  pub actors_keep : (end : ℕ) → late_fate end one (drop (i + 1) ks) ≡ 0 → actors end (drop i ks) ≡ one ∷ actors end (drop (i + 1) ks)
  unfolding actors
  actors_keep end e = rw (drop_more ks i no_numbered h) (simp (eq-eqb _ _ e))

  -- with the fate of the one at the place i
  pub settled_more : (end : ℕ) (fates next : List ℕ) (fate : ℕ) → fate ≡ late_fate end one (drop (i + 1) ks) →
      next ≡ settle_fate fates one.number fate →
      settled next (late_marks end (drop (i + 1) ks)) ≡ settled fates (late_marks end (drop i ks))
  unfolding settled late_marks
  settled_more end fates next fate e q = rw (q, e, drop_more ks i no_numbered h)

-- step 4's fates from the place i on, and the earliest acting time of those there
pub record LateFrom (end : ℕ) (ks : List Numbered) (i : ℕ) (fates : List ℕ) (earliest : ℕ) : Type 0 where
  pub within : i ≤ length ks
  pub long : length fates ≡ instruction_places
  pub earliest_is : earliest ≡ earliest_acting (drop i ks)
  pub fates_are : (j : ℕ) → i ≤ j → j < length ks → get_or fates j 0 ≡ late_fate end (get_or ks j no_numbered) (drop (j + 1) ks)

-- with the one at the place i, which acts at the time own
pub late_more : {end i own earliest fate least : ℕ} {ks : List Numbered} {fates next : List ℕ} → i < length ks → length ks ≤ instruction_places →
    (own ≡ acting (get_or ks i no_numbered)) × (own < never) → fate ≡ late_fate_by end own earliest → least ≡ min earliest own →
    length next ≡ instruction_places → next ≡ set fates i fate → LateFrom end ks (i + 1) fates earliest → LateFrom end ks i next least
late_more {end} {i} {own} {earliest} {fate} {least} {ks} {fates} h few e q m l s r = record {
  within = omega arith;
  long = l;
  earliest_is = m ∙ ((λ j. min (r.earliest_is j) (e.0 j)) ∙ acting_more ks i h);
  fates_are = λ j p k. elim (ℕ_discrete j i) [
    | yes z ↦
        rw (s, z) (get_or-set_same fates i fate 0 (omega (arith, r.long)) ∙ (q
        ∙ late_is end own earliest (get_or ks i no_numbered) (drop (i + 1) ks) e.0 e.1 r.earliest_is))
    | no z ↦ rw s (get_or-set_other fates i j fate 0 z ∙ r.fates_are j (omega arith) k)
  ];
}

-- from the last back: those of `rest` are still to come
pub record LateBack (end : ℕ) (ks rest : List Numbered) (count : ℕ) (fates : List ℕ) (earliest : ℕ) : Type 0 where
  pub counted : count ≡ 0
  pub done : List Numbered
  pub parts : rest ++ done ≡ ks
  pub from : LateFrom end ks (length rest) fates earliest

-- with the last of the rest
pub late_back : {end count now own earliest fate least : ℕ} {ks rest left : List Numbered} {fates next : List ℕ} (k : Numbered) →
    now ≡ count → rest ≡ left ++ (k ∷ []) → length ks ≤ instruction_places → (own ≡ acting k) × (own < never) →
    fate ≡ late_fate_by end own earliest → least ≡ min earliest own → length next ≡ instruction_places → next ≡ set fates (length left) fate →
    LateBack end ks rest count fates earliest → LateBack end ks left now next least
late_back {ks = ks} {rest} {left} k c e few a q m l s r =
    let parts : left ++ (k ∷ r.done) ≡ ks = sym (append_assoc left (k ∷ []) r.done) ∙ (ap (λ (xs : List Numbered). xs ++ r.done) (sym e) ∙ r.parts) in
    let f = front_at ks (length left) no_numbered k r.done (sym (drop-append_seam left (k ∷ r.done)) ∙ ap (drop (length left)) parts) in
    let z : length rest ≡ length left + 1 = ap length e ∙ length-append left (k ∷ []) in
    record {
      counted = c ∙ r.counted;
      done = k ∷ r.done;
      parts = parts;
      from = late_more f.here few (a.0 ∙ ap acting f.is, a.1) q m l s (rw z at r.from);
    }

-- ---- the fates by number
fates_count : (all : List Numbered) (later : List ℕ) (i : ℕ) → length (fates_to all later i) ≡ i
unfolding fates_to
fates_count all later zero = refl
fates_count all later (suc i) = simp length-append (omega (arith, fates_count all later i))

pub superseded_told : (all : List Numbered) (i latest : ℕ) → latest ≡ latest_at all (time_at all i) →
    ltb (issue_time_of (get_or all i no_numbered)) latest ≡ superseded all (get_or all i no_numbered)
superseded_told all i latest e = rw e (superseded_is all (get_or all i no_numbered))

pub fates_more : (all : List Numbered) (later : List ℕ) (i fate : ℕ) → i < instruction_places →
    fate ≡ pick (superseded all (get_or all i no_numbered)) 1 (get_or later i 0) →
    set (filled instruction_places 0 (fates_to all later i)) i fate ≡ filled instruction_places 0 (fates_to all later (i + 1))
unfolding fates_to
fates_more all later i fate h q =
    let xs = fates_to all later i in
    let e : length xs ≡ i = fates_count all later i in
    rw (add-one i, ← q) (ap (λ (j : ℕ). set (filled instruction_places 0 xs) j fate) (sym e) ∙ filled_push 0 instruction_places xs fate (omega arith))
