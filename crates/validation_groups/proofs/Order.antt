-- Those used, where they stand in time order: one time's group after another, from the place of its first.
use mathlib.Core.Path.{◌≡◌, refl, sym, ap, ◌∙◌}
use mathlib.Core.List.{List, [], ◌∷◌, ◌++◌}
use mathlib.Core.Bool.{Bool, true, false, ◌&&◌, not, and-false, true≢false}
use Prim.Native.Nat.{ℕ, zero, suc, ◌+◌, ◌-◌, ◌≤◌, ◌<◌, max}
use native.Mathlib.Decide.{ℕ_discrete, dec_le}
use native.Mathlib.Omega.{arith}
use lib.Dec.{leb, ltb, eqb}
use lib.ListN.{length, drop, get_or, length-drop, length-append, get_or-append}
use lib.Seq.{drop-append_seam, drop-drop}
use borrow.Author.Tests.{ltb-true, leb-true, leb-false, eqb-true, not-true, lt-ltb, le-ltb, le-leb, lt-leb, eq-eqb, ne_eqb}
use Rattle.std.specs.Prelude.{Option, Some, option_to_list, fold}
use Rattle.std.specs.Ordering.{partial_le, nat_cmp}
use Rattle.std.specs.List.{IsAllAdjacentAnswer, IsChunkByPrefix}
use Rattle.std.proofs.lemmas.List.{get_or-drop}
use Rattle.level.specs.Few.{Few}
use Rattle.level.specs.Lists.{some, those}
use Rattle.level.proofs.Lists.{by_bool, and_true}
use Rattle.records.specs.declared.Effect.TheVariants.{Mwof, Sync, Desy}
use Rattle.records.specs.Codes.{code_number}
use Rattle.validation.specs.declared.Numbered.{Numbered}
use Rattle.validation.specs.Kept.{effective_of, effect_of, superseded, group, highest, present, merged, used_of, next_time, used_from, used}
use Rattle.validation_groups.specs.Working.{no_numbered, sequence_of, issue_time_of, time_at, later_of, latest_at, rising_from, in_time_order, Rising, has_time_at, follows_time, alone_at, same_time}
use Rattle.validation_groups.proofs.Laws.{Begun, begun_none, begun_group, joined, joined_count, used_stop}

-- ---- the next time
next_least : (end t m : ℕ) (os : List Numbered) → m ≤ end → ((j : ℕ) → j < length os → t ≤ time_at os j → m ≤ time_at os j) → m ≤ next_time end os t
unfolding next_time
next_least end t m [] e h = e
next_least end t m (o ∷ os) e h =
    let ih = next_least end t m os e (λ j l. h (suc j) (omega arith)) in
    elim (dec_le t (effective_of o)) [
      | yes p ↦ rw (le-leb t (effective_of o) p) (omega (arith, h 0 (omega arith) p))
      | no p ↦ rw (lt-leb t (effective_of o) (omega arith)) ih
    ]

next_reached : (end t : ℕ) (os : List Numbered) (j : ℕ) → j < length os → t ≤ time_at os j → next_time end os t ≤ time_at os j
unfolding next_time
next_reached end t [] j l h = absurd (omega arith)
next_reached end t (o ∷ os) zero l h = rw (le-leb t (effective_of o) h) (omega arith)
next_reached end t (o ∷ os) (suc j) l h =
    let ih = next_reached end t os j (omega arith) h in
    by_bool (leb t (effective_of o)) (λ e. rw e (omega arith)) (λ e. rw e ih)

-- ---- a group of one
module _ {A : Type 0} (d : A) (f : A → Bool) where
  those_no : (xs : List A) → ((j : ℕ) → j < length xs → f (get_or xs j d) ≡ false) → those f xs ≡ []
  unfolding those
  those_no [] h = refl
  those_no (x ∷ xs) h = rw (h 0 (omega arith)) (those_no xs (λ j l. h (suc j) (omega arith)))

  those_one : (xs : List A) (i : ℕ) → i < length xs → f (get_or xs i d) ≡ true → ((j : ℕ) → j < length xs → (j ≡ i → ⊥) → f (get_or xs j d) ≡ false) →
      those f xs ≡ get_or xs i d ∷ []
  unfolding those
  those_one [] i l e h = absurd (omega arith)
  those_one (x ∷ xs) zero l e h = rw e (ap (λ (ys : List A). x ∷ ys) (those_no xs (λ j k. h (suc j) (omega arith) (omega arith))))
  those_one (x ∷ xs) (suc i) l e h =
      rw (h 0 (omega arith) (omega arith)) (those_one xs i (omega arith) e (λ j k n. h (suc j) (omega arith) (λ q. n (omega arith))))

  some_no : (xs : List A) → ((j : ℕ) → j < length xs → f (get_or xs j d) ≡ false) → some f xs ≡ false
  unfolding some
  some_no [] h = refl
  some_no (x ∷ xs) h = rw (h 0 (omega arith)) (some_no xs (λ j l. h (suc j) (omega arith)))

used_alone : (o : Numbered) → o ∷ [] ≡ used_of (o ∷ [])
unfolding used_of highest merged present those
used_alone o = elim (ℕ_discrete (code_number (effect_of o)) (code_number Mwof)) [
  | no n ↦ simp (ne_eqb _ _ n)
  | yes e ↦
      let s : code_number (effect_of o) ≡ code_number Sync → ⊥ = omega arith in
      let d : code_number (effect_of o) ≡ code_number Desy → ⊥ = omega arith in
      simp (eq-eqb _ _ e, ne_eqb _ _ s, ne_eqb _ _ d)
]

module _ (os : List Numbered) (i : ℕ) (h : i < length os) (alone : (j : ℕ) → j < length os → (j ≡ i → ⊥) → time_at os j ≡ time_at os i → ⊥) where
  abbrev own : Numbered
  own = get_or os i no_numbered

  stays : superseded os own ≡ false
  unfolding superseded
  stays = some_no no_numbered (λ (x : Numbered). eqb (effective_of x) (time_at os i) && ltb (issue_time_of own) (issue_time_of x)) os each
    where
      each : (j : ℕ) → j < length os →
          (eqb (time_at os j) (time_at os i) && ltb (issue_time_of own) (issue_time_of (get_or os j no_numbered))) ≡ false
      each j l = elim (ℕ_discrete j i) [
        | no n ↦ rw (ne_eqb (time_at os j) (time_at os i) (alone j l n))
        | yes e ↦ rw (e, eq-eqb (time_at os i) (time_at os i) refl, le-ltb (issue_time_of own) (issue_time_of own) (omega arith))
      ]

  group_alone : group os (time_at os i) ≡ own ∷ []
  unfolding group
  group_alone =
      those_one no_numbered (λ (o : Numbered). eqb (effective_of o) (time_at os i) && not (superseded os o)) os i h
      (rw (eq-eqb (time_at os i) (time_at os i) refl, stays)) (λ j l n. rw (ne_eqb (time_at os j) (time_at os i) (alone j l n)))

  pub alone_used : get_or os i no_numbered ∷ [] ≡ used_of (group os (time_at os i))
  alone_used = used_alone (get_or os i no_numbered) ∙ ap used_of (sym group_alone)

-- ---- the run of a time
-- from a place on, the run of t ends before the place r
pub record Run (os : List Numbered) (t from r : ℕ) : Type 0 where
  pub starts : from ≤ r
  pub ends : r ≤ length os
  pub same : (j : ℕ) → from ≤ j → j < r → time_at os j ≡ t
  pub other : r < length os → time_at os r ≡ t → ⊥

-- a run from the place i on, which is cut off what is left
pub record NextRun (os x next : List Numbered) (i : ℕ) : Type 0 where
  pub here : i < length os
  pub first_is : get_or x 0 no_numbered ≡ get_or os i no_numbered
  pub run : Run os (time_at os i) (i + 1) (i + length x)
  pub left : next ≡ drop (i + length x) os

module _ (os rest x next : List Numbered) (i : ℕ) (e : rest ≡ drop i os) (parts : rest ≡ x ++ next) (some : 0 < length x)
    (cut : IsChunkByPrefix same_time rest (length x)) where
  lengths : length os - i ≡ length x + length next
  lengths = sym (length-drop i os) ∙ (ap length (sym e) ∙ (ap length parts ∙ length-append x next))

  at_rest : (k : ℕ) → time_at rest k ≡ time_at os (i + k)
  at_rest k = ap (λ (l : List Numbered). time_at l k) e ∙ ap effective_of (get_or-drop i os k no_numbered)

  one_time : (k : ℕ) → k < length x → time_at rest k ≡ time_at rest 0
  one_time zero h = refl
  one_time (suc k) h =
      let z : k + 1 ≡ suc k = omega arith in
      sym (rw z at (eqb-true (time_at rest k) (time_at rest (k + 1)) (cut.0 k no_numbered (omega arith)))) ∙ one_time k (omega arith)

  one_run : (k : ℕ) → k < length x → time_at os (i + k) ≡ time_at os i
  one_run k h = let z : i + 0 ≡ i = omega arith in sym (at_rest k) ∙ (one_time k h ∙ rw z at (at_rest 0))

  pub next_run : NextRun os x next i
  next_run = record {
    here = omega (arith, lengths);
    first_is =
        let z : i + 0 ≡ i = omega arith in
        sym (get_or-append x next no_numbered 0 some) ∙ (ap (λ (l : List Numbered). get_or l 0 no_numbered) (sym parts ∙ e)
        ∙ (get_or-drop i os 0 no_numbered ∙ ap (λ (k : ℕ). get_or os k no_numbered) z));
    run = record {
      starts = omega arith;
      ends = omega (arith, lengths);
      same = λ j p l. let q : i + (j - i) ≡ j = omega arith in rw q at (one_run (j - i) (omega arith));
      other = λ l q.
          let n = length x in
          let past : n < length rest = omega (arith, lengths, ap length e, length-drop i os) in
          let last : time_at rest (n - 1) ≡ time_at rest n =
          at_rest (n - 1) ∙ (one_run (n - 1) (omega arith) ∙ (sym q ∙ sym (at_rest n))) in
          true≢false (sym (eq-eqb (time_at rest (n - 1)) (time_at rest n) last) ∙ cut.1 past no_numbered);
    };
    left = sym (drop-append_seam x next) ∙ (ap (drop (length x)) (sym parts ∙ e) ∙ drop-drop (length x) i os);
  }

-- ---- in order
-- the groups of the first i places are in; those of the others follow, from a time on
pub record OrderProgress (end : ℕ) (os : List Numbered) (i : ℕ) (out : Few Numbered) : Type 0 where
  pub within : i ≤ length os
  pub few : length out.these ≤ i
  pub time : ℕ
  pub fuel : ℕ
  pub enough : length os ≤ fuel + i
  pub before : (j : ℕ) → j < i → time_at os j < time
  pub after : (j : ℕ) → i ≤ j → j < length os → time ≤ time_at os j
  pub begun : Begun out (used_from end os fuel time) (used end os)

module _ {os : List Numbered} (rising : Rising os) where
  pub order_none : (end : ℕ) → OrderProgress end os 0 (sequence_of [])
  unfolding used
  order_none end =
      record {
        within = omega arith;
        few = omega arith;
        time = 0;
        fuel = length os;
        enough = omega arith;
        before = λ j l. absurd (omega arith);
        after = λ j p l. omega arith;
        begun = begun_none (used_from end os (length os) 0);
      }

  module _ {end i : ℕ} {out : Few Numbered} (r : OrderProgress end os i out) where
    -- none before the place i is from the time on
    from_here : (j : ℕ) → j < length os → r.time ≤ time_at os j → i ≤ j
    from_here j l h = elim (dec_le i j) [ yes p ↦ p | no p ↦ absurd (omega (arith, r.before j (omega arith))) ]

    -- each from the time on is at least as late as that at the place i
    least_here : i < length os → (j : ℕ) → j < length os → r.time ≤ time_at os j → time_at os i ≤ time_at os j
    least_here h j l p = rising i j (from_here j l p) l

    pub order_late : i < length os → end ≤ time_at os i → Begun out [] (used end os)
    order_late h late =
        let e = next_least end r.time end os (omega arith) (λ j l p. omega (arith, least_here h j l p)) in
        rw (used_stop end os r.fuel r.time e) at r.begun

    pub order_all : length os ≤ i → Begun out [] (used end os)
    order_all h =
        let e = next_least end r.time end os (omega arith) (λ j l p. absurd (omega (arith, from_here j l p))) in
        rw (used_stop end os r.fuel r.time e) at r.begun

    next_here : i < length os → time_at os i < end → time_at os i ≡ next_time end os r.time
    next_here h early =
        let a = next_least end r.time (time_at os i) os (omega arith) (least_here h) in
        let b = next_reached end r.time os i h (r.after i (omega arith) h) in
        omega arith

    -- one group more: those from the place i up to the place k
    pub order_more : (k : ℕ) (f : Option Numbered) → i < length os → time_at os i < end → Run os (time_at os i) (i + 1) k →
        option_to_list f ≡ used_of (group os (time_at os i)) → OrderProgress end os k (joined out f)
    order_more k f h early run e =
        record {
          within = run.ends;
          few = omega (arith, r.few, joined_count out f, run.starts);
          time = time_at os i + 1;
          fuel = r.fuel - 1;
          enough = omega (arith, r.enough, run.starts);
          before = λ j l. passed j l (dec_le j i);
          after = λ j p l. omega (arith, above j p l);
          begun = begun_group end os r.fuel (r.fuel - 1) r.time (time_at os i) f (omega (arith, r.enough)) (next_here h early) early e r.begun;
        }
      where
        passed : (j : ℕ) → j < k → Dec (j ≤ i) → time_at os j < time_at os i + 1
        passed j l (yes p) = omega (arith, rising j i p h)
        passed j l (no p) = omega (arith, run.same j (omega arith) l)

        above : (j : ℕ) → k ≤ j → j < length os → time_at os i < time_at os j
        above j p l = run_past (omega (arith, rising i k (omega (arith, run.starts)) (omega arith), run.other (omega arith))) (rising k j p l)
          where
            run_past : time_at os i < time_at os k → time_at os k ≤ time_at os j → time_at os i < time_at os j
            run_past a b = omega arith

    -- a run of one is used as it is
    pub order_alone : i < length os → Run os (time_at os i) (i + 1) (i + 1) → get_or os i no_numbered ∷ [] ≡ used_of (group os (time_at os i))
    order_alone h run = alone_used os i h other
      where
        other : (j : ℕ) → j < length os → (j ≡ i → ⊥) → time_at os j ≡ time_at os i → ⊥
        other j l ne q = elim (dec_le i j) [
          | yes p ↦ run.other (omega arith) (omega (arith, rising i (i + 1) (omega arith) (omega arith), rising (i + 1) j (omega arith) l))
          | no p ↦ absurd (omega (arith, r.before j (omega arith), r.after i (omega arith) h))
        ]

-- the runs of the first places are in; the rest of them is still to come
pub record RunsProgress (end : ℕ) (os rest : List Numbered) (out : Few Numbered) : Type 0 where
  pub place : ℕ
  pub rest_is : rest ≡ drop place os
  pub progress : OrderProgress end os place out

module _ {end : ℕ} {os rest : List Numbered} {out : Few Numbered} (rising : Rising os) (r : RunsProgress end os rest out) where
  pub runs_all : length rest ≡ 0 → Begun out [] (used end os)
  runs_all e = order_all rising r.progress (omega (arith, ap length r.rest_is, length-drop r.place os))

  module _ {x next : List Numbered} (n : NextRun os x next r.place) where
    pub runs_late : end ≤ time_at x 0 → Begun out [] (used end os)
    runs_late late = order_late rising r.progress n.here (omega (arith, ap effective_of n.first_is))

    -- one alone is used as it is
    pub runs_alone : length x ≡ 1 → get_or x 0 no_numbered ∷ [] ≡ used_of (group os (time_at os r.place))
    runs_alone one =
        let e : r.place + length x ≡ r.place + 1 = omega arith in
        ap (λ (o : Numbered). o ∷ []) n.first_is ∙ order_alone rising r.progress n.here (rw e at n.run)

    pub runs_more : (f : Option Numbered) → time_at x 0 < end → option_to_list f ≡ used_of (group os (time_at os r.place)) →
        RunsProgress end os next (joined out f)
    runs_more f early e = record {
      place = r.place + length x;
      rest_is = n.left;
      progress = order_more rising r.progress (r.place + length x) f n.here (omega (arith, ap effective_of n.first_is)) n.run e;
    }

-- ---- the times in order
-- any two of them
rising_any : (before : ℕ) (os : List Numbered) → rising_from before os ≡ true → (i j : ℕ) → i ≤ j → j < length os →
    (before ≤ time_at os i) × (time_at os i ≤ time_at os j)
unfolding rising_from
rising_any before [] e i j p l = absurd (omega arith)
rising_any before (o ∷ os) e i j p l =
    let a = and_true (leb before (effective_of o)) (rising_from (effective_of o) os) e in
    go i j p l (leb-true before (effective_of o) a.0) (rising_any (effective_of o) os a.1)
  where
    go : (i j : ℕ) → i ≤ j → j < suc (length os) → before ≤ effective_of o →
        ((i j : ℕ) → i ≤ j → j < length os → (effective_of o ≤ time_at os i) × (time_at os i ≤ time_at os j)) →
        (before ≤ time_at (o ∷ os) i) × (time_at (o ∷ os) i ≤ time_at (o ∷ os) j)
    go zero zero p l b ih = omega arith
    go zero (suc j) p l b ih = omega (arith, ih j j (omega arith) (omega arith))
    go (suc i) zero p l b ih = absurd (omega arith)
    go (suc i) (suc j) p l b ih = omega (arith, ih i j (omega arith) (omega arith))

pub from_rising : (os : List Numbered) → in_time_order os ≡ true → Rising os
from_rising os e i j p l = (rising_any 0 os e i j p l).1

-- ---- neighbours
pub follows_is : (os : List Numbered) (at t : ℕ) → follows_time os at t ≡ true → (0 < at) × (time_at os (at - 1) ≡ t)
unfolding follows_time
follows_is os at t e =
    let a = and_true (ltb 0 at) (eqb (time_at os (at - 1)) t) e in
    (ltb-true 0 at a.0, eqb-true (time_at os (at - 1)) t a.1)

module _ (os : List Numbered) (at : ℕ) where
  -- no other time is that at this place
  alone_only : Rising os → at < length os → alone_at os at ≡ true → (j : ℕ) → j < length os → (j ≡ at → ⊥) → time_at os j ≡ time_at os at → ⊥
  unfolding alone_at has_time_at follows_time
  alone_only rising h e j l ne q =
      let t = time_at os at in
      let next = ltb (at + 1) (length os) && eqb (time_at os (at + 1)) t in
      let before = ltb 0 at && eqb (time_at os (at - 1)) t in
      let a = and_true (not next) (not before) e in
      elim (dec_le at j) [
        | yes p ↦
            let s : time_at os (at + 1) ≡ t = omega (arith, rising at (at + 1) (omega arith) (omega arith), rising (at + 1) j (omega arith) l) in
            true≢false (rw (lt-ltb (at + 1) (length os) (omega arith), eq-eqb _ t s) at (not-true next a.0))
        | no p ↦
            let s : time_at os (at - 1) ≡ t = omega (arith, rising j (at - 1) (omega arith) (omega arith), rising (at - 1) at (omega arith) h) in
            true≢false (rw (lt-ltb 0 at (omega arith), eq-eqb _ t s) at (not-true before a.1))
      ]

latest_low : (os : List Numbered) (t best most : ℕ) → best ≤ most →
    ((j : ℕ) → j < length os → time_at os j ≡ t → issue_time_of (get_or os j no_numbered) ≤ most) →
    fold (later_of t) best os ≤ most
unfolding later_of
latest_low [] t best most b h = b
latest_low (o ∷ os) t best most b h = elim (ℕ_discrete (effective_of o) t) [
  | yes e ↦
      let k : issue_time_of o ≤ most = h 0 (omega arith) e in
      rw (eq-eqb (effective_of o) t e) (latest_low os t (max best (issue_time_of o)) most (omega arith) (λ j l. h (suc j) (omega arith)))
  | no n ↦ rw (ne_eqb (effective_of o) t n) (latest_low os t best most b (λ j l. h (suc j) (omega arith)))
]

latest_grows : (os : List Numbered) (t best : ℕ) → best ≤ fold (later_of t) best os
unfolding later_of
latest_grows [] t best = omega arith
latest_grows (o ∷ os) t best = elim (ℕ_discrete (effective_of o) t) [
  | yes e ↦ rw (eq-eqb (effective_of o) t e) (omega (arith, latest_grows os t (max best (issue_time_of o))))
  | no n ↦ rw (ne_eqb (effective_of o) t n) (latest_grows os t best)
]

latest_high : (os : List Numbered) (t best i : ℕ) → i < length os → time_at os i ≡ t →
    issue_time_of (get_or os i no_numbered) ≤ fold (later_of t) best os
unfolding later_of
latest_high [] t best i h e = absurd (omega arith)
latest_high (o ∷ os) t best zero h e = rw (eq-eqb (effective_of o) t e) (omega (arith, latest_grows os t (max best (issue_time_of o))))
latest_high (o ∷ os) t best (suc i) h e = latest_high os t (later_of t best o) i (omega arith) e

-- one alone has the latest issue time itself
pub alone_latest : (os : List Numbered) (at : ℕ) → at < length os → (in_time_order os && alone_at os at) ≡ true →
    issue_time_of (get_or os at no_numbered) ≡ latest_at os (time_at os at)
alone_latest os at h alone =
    let low = latest_low os (time_at os at) 0 (issue_time_of (get_or os at no_numbered)) (omega arith) each in
    let high = latest_high os (time_at os at) 0 at h refl in
    omega arith
  where
    both : (in_time_order os ≡ true) × (alone_at os at ≡ true)
    both = and_true (in_time_order os) (alone_at os at) alone

    only : (j : ℕ) → j < length os → (j ≡ at → ⊥) → time_at os j ≡ time_at os at → ⊥
    only = alone_only os at (from_rising os both.0) h both.1

    each : (j : ℕ) → j < length os → time_at os j ≡ time_at os at → issue_time_of (get_or os j no_numbered) ≤ issue_time_of (get_or os at no_numbered)
    each j l q = elim (ℕ_discrete j at) [ no ne ↦ absurd (only j l ne q) | yes e ↦ rw e (omega arith) ]

-- ---- what a look at neighbours says
abbrev before_or_at : ℕ → ℕ → Bool
before_or_at x y = partial_le (λ a b. Some (nat_cmp a b)) x y

before_is : (x y : ℕ) → before_or_at x y ≡ leb x y
before_is x y = elim (dec_le x y) [
  | no p ↦ rw (lt-leb x y (omega arith), le-ltb x y (omega arith), ne_eqb x y (λ q. p (omega arith)))
  | yes p ↦ rw (le-leb x y p) (elim (dec_le (suc x) y) [
    | yes q ↦ rw (lt-ltb x y q)
    | no q ↦ rw (le-ltb x y (omega arith), eq-eqb x y (omega arith))
  ])
]

all_rise : (before : ℕ) (os : List Numbered) → (0 < length os → before ≤ time_at os 0) →
    ((k : ℕ) → k + 1 < length os → time_at os k ≤ time_at os (k + 1)) → rising_from before os ≡ true
unfolding rising_from
all_rise before [] b h = refl
all_rise before (o ∷ os) b h =
    rw (le-leb before (effective_of o) (b (omega arith)))
    (all_rise (effective_of o) os (λ l. h 0 (omega arith))
    (λ k l. let z : suc k + 1 ≡ suc (k + 1) = omega arith in rw z at (h (suc k) (omega arith))))

one_falls : (before : ℕ) (os : List Numbered) (k : ℕ) → k + 1 < length os → time_at os (k + 1) < time_at os k → rising_from before os ≡ false
unfolding rising_from
one_falls before [] k l h = absurd (omega arith)
one_falls before (o ∷ []) k l h = absurd (omega arith)
one_falls before (o ∷ (x ∷ os)) zero l h = rw (lt-leb (effective_of o) (effective_of x) h) (and-false (leb before (effective_of o)))
one_falls before (o ∷ (x ∷ os)) (suc k) l h =
    let z : suc k + 1 ≡ suc (k + 1) = omega arith in
    rw (one_falls (effective_of o) (x ∷ os) k (omega arith) (rw z at h)) (and-false (leb before (effective_of o)))

pub sorted_is : (os : List Numbered) (r : Bool) →
    IsAllAdjacentAnswer (λ x y b. b ≡ before_or_at (effective_of x) (effective_of y)) os r → r ≡ in_time_order os
sorted_is os true h =
    sym (all_rise 0 os (λ l. omega arith)
    (λ k l. leb-true (time_at os k) (time_at os (k + 1)) (sym (before_is (time_at os k) (time_at os (k + 1))) ∙ sym (h k no_numbered l))))
sorted_is os false h =
    let k = h.0 in
    let e = sym (before_is (time_at os k) (time_at os (k + 1))) ∙ sym (h.2 no_numbered) in
    sym (one_falls 0 os k h.1 (leb-false (time_at os k) (time_at os (k + 1)) e))
