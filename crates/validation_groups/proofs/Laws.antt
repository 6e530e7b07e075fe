-- Walks over the instructions with their numbers, and the cases of the definitions, each with its conditions as plain facts.
use mathlib.Core.Path.{◌≡◌, refl, sym, ap, ◌∙◌}
use mathlib.Core.List.{List, [], ◌∷◌, ◌++◌, map, append_assoc, append-nil}
use mathlib.Core.Bool.{Bool, true, false, ◌&&◌, ◌||◌, not, and-false}
use Prim.Native.Nat.{ℕ, zero, suc, ◌+◌, ◌≤◌, ◌<◌, min, max}
use native.Mathlib.Numerals.{add-one}
use native.Mathlib.Decide.{dec_le}
use native.Mathlib.Omega.{arith}
use lib.Dec.{leb, ltb, eqb}
use lib.ListN.{length, drop, get_or, length-append}
use borrow.Author.Tests.{lt-ltb, le-ltb, lt-leb, le-leb, eq-eqb, ne_eqb}
use Rattle.std.specs.Prelude.{Option, Some, None, option_to_list, unwrap_or, fold}
use Rattle.std.specs.List.{filter, reduce}
use Rattle.std.proofs.lemmas.List.{drop_more}
use Rattle.level.specs.Choice.{pick}
use Rattle.level.specs.Few.{Few, with_one}
use Rattle.level.specs.Numbers.{instruction_places}
use Rattle.level.specs.Lists.{some, those}
use Rattle.level.proofs.FewLists.{few_push}
use Rattle.level.proofs.Lists.{by_bool}
use Rattle.records.specs.declared.Effect.{Effect}
use Rattle.records.specs.declared.Effect.TheVariants.{Sync, Desy}
use Rattle.records.specs.Codes.{same}
use Rattle.validation.specs.declared.Numbered.{Numbered}
use Rattle.validation.specs.Kept.{effective_of, effect_of, superseded, group, highest, or_else, present, used_of, next_time, used_from}
use Rattle.validation_rank.specs.Best.{best_from}
use Rattle.validation_groups.specs.Working.{no_numbered, sequence_of, issue_time_of, later_of, latest_at}

-- ---- what is left from the place i on
module _ {A : Type 0} (xs : List A) (i : ℕ) (d : A) (h : i < length xs) where
  pub those_skip : (f : A → Bool) → f (get_or xs i d) ≡ false → those f (drop i xs) ≡ those f (drop (i + 1) xs)
  unfolding those
  those_skip f e = rw (drop_more xs i d h, e)

  pub those_keep : (f : A → Bool) → f (get_or xs i d) ≡ true → those f (drop i xs) ≡ get_or xs i d ∷ those f (drop (i + 1) xs)
  unfolding those
  those_keep f e = rw (drop_more xs i d h, e)

-- ---- sequences
-- a sequence that holds the beginning of a whole; the rest of it is still to come
pub record Begun (s : Few Numbered) (rest whole : List Numbered) : Type 0 where
  pub xs : List Numbered
  pub holds : s ≡ sequence_of xs
  pub parts : xs ++ rest ≡ whole

-- with what was picked
abbrev pub joined : Few Numbered → Option Numbered → Few Numbered
joined s (Some o) = with_one s o
joined s None = s

pub joined_count : (s : Few Numbered) (f : Option Numbered) → length (joined s f).these ≤ length s.these + 1
joined_count s (Some o) = simp length-append (omega arith)
joined_count s None = omega arith

-- what is picked is none
pub picked_none : (f : Option Numbered) → ((o : Numbered) → f ≡ Some o → ⊥) → f ≡ None
picked_none None h = refl
picked_none (Some o) h = absurd (h o refl)

-- nothing is in it yet; all is in it
pub begun_none : (whole : List Numbered) → Begun (sequence_of []) whole whole
begun_none whole = record { xs = []; holds = refl; parts = refl }

pub begun_all : {s : Few Numbered} {whole : List Numbered} → Begun s [] whole → s ≡ sequence_of whole
begun_all b = b.holds ∙ ap sequence_of (sym (append-nil b.xs) ∙ b.parts)

module _ {s : Few Numbered} {rest whole : List Numbered} where
  pub begun_push : (o : Numbered) → Begun s (o ∷ rest) whole → Begun (with_one s o) rest whole
  begun_push o b =
      record {
        xs = b.xs ++ (o ∷ []);
        holds = ap (λ (q : Few Numbered). with_one q o) b.holds ∙ few_push instruction_places no_numbered b.xs o;
        parts = append_assoc b.xs (o ∷ []) rest ∙ b.parts;
      }

  pub begun_picked : (f : Option Numbered) → Begun s (option_to_list f ++ rest) whole → Begun (joined s f) rest whole
  begun_picked (Some o) b = begun_push o b
  begun_picked None b = b

-- ---- step 1
-- the latest issue time of those at the time t, by one fold over them all
pub latest_walk : (os : List Numbered) (t best : ℕ) →
    fold (λ a x. max a (issue_time_of x)) best (filter (λ (o : Numbered). eqb (effective_of o) t) os) ≡ fold (later_of t) best os
unfolding later_of
latest_walk [] t best = refl
latest_walk (o ∷ os) t best =
    by_bool (eqb (effective_of o) t) (λ e. rw e (latest_walk os t (max best (issue_time_of o)))) (λ e. rw e (latest_walk os t best))

later_either : (e : Bool) (issue j best : ℕ) → ltb issue (pick e (max best j) best) ≡ (ltb issue best || (e && ltb issue j))
later_either false issue j best = elim (ltb issue best) as (λ v. v ≡ (v || false)) [ true ↦ refl | false ↦ refl ]
later_either true issue j best = elim (dec_le (suc issue) best) [
  | yes h ↦ rw (lt-ltb issue best h, lt-ltb issue (max best j) (omega arith))
  | no h ↦ rw (le-ltb issue best (omega arith)) (elim (dec_le (suc issue) j) [
    | yes k ↦ rw (lt-ltb issue j k, lt-ltb issue (max best j) (omega arith))
    | no k ↦ rw (le-ltb issue j (omega arith), le-ltb issue (max best j) (omega arith))
  ])
]

or_assoc : (a b c : Bool) → ((a || b) || c) ≡ (a || (b || c))
or_assoc true b c = refl
or_assoc false b c = refl

superseded_from : (os : List Numbered) (o : Numbered) (t best : ℕ) → t ≡ effective_of o →
    ltb (issue_time_of o) (fold (later_of t) best os) ≡ (ltb (issue_time_of o) best || superseded os o)
unfolding superseded some later_of
superseded_from [] o t best e = elim (ltb (issue_time_of o) best) as (λ v. v ≡ (v || false)) [ true ↦ refl | false ↦ refl ]
superseded_from (x ∷ os) o t best e =
    superseded_from os o t (later_of t best x) e
    ∙ (ap (λ (b : Bool). b || superseded os o) (later_either (eqb (effective_of x) t) (issue_time_of o) (issue_time_of x) best)
    ∙ (or_assoc (ltb (issue_time_of o) best) (eqb (effective_of x) t && ltb (issue_time_of o) (issue_time_of x)) (superseded os o)
    ∙ ap (λ (k : ℕ). ltb (issue_time_of o) best || ((eqb (effective_of x) k && ltb (issue_time_of o) (issue_time_of x)) || superseded os o)) e))

-- one is superseded where the latest issue time at its effective time is later than its own
pub superseded_is : (os : List Numbered) (o : Numbered) → ltb (issue_time_of o) (latest_at os (effective_of o)) ≡ superseded os o
superseded_is os o =
    superseded_from os o (effective_of o) 0 refl ∙ ap (λ (b : Bool). b || superseded os o) (le-ltb (issue_time_of o) 0 (omega arith))

-- ---- the next time
next_most : (os : List Numbered) (end t : ℕ) → next_time end os t ≤ end
unfolding next_time
next_most [] end t = omega arith
next_most (o ∷ os) end t =
    let ih = next_most os end t in
    by_bool (leb t (effective_of o)) (λ e. rw e (omega arith)) (λ e. rw e ih)

-- from t on, and before the day's end
abbrev pub within : ℕ → ℕ → ℕ → Bool
within t end x = leb t x && ltb x end

module _ (end t : ℕ) where
  next_walk : (os : List Numbered) (best : ℕ) → best ≤ end →
      fold min best (filter (within t end) (map effective_of os)) ≡ min best (next_time end os t)
  unfolding next_time
  next_walk [] best h = omega arith
  next_walk (o ∷ os) best h = elim (dec_le t (effective_of o)) [
    | no p ↦ rw (lt-leb t (effective_of o) (omega arith)) (next_walk os best h)
    | yes p ↦ elim (dec_le (suc (effective_of o)) end) [
      | yes q ↦
          rw (le-leb t (effective_of o) p, lt-ltb (effective_of o) end q)
          (next_walk os (min best (effective_of o)) (omega arith) ∙ omega arith)
      | no q ↦
          rw (le-leb t (effective_of o) p, le-ltb (effective_of o) end (omega arith))
          (next_walk os best h ∙ omega (arith, next_most os end t))
    ]
  ]

  -- the least of those within, else the day's end
  pub next_is : (os : List Numbered) → unwrap_or (reduce min (filter (within t end) (map effective_of os))) end ≡ next_time end os t
  unfolding next_time
  next_is [] = refl
  next_is (o ∷ os) = elim (dec_le t (effective_of o)) [
    | no p ↦ rw (lt-leb t (effective_of o) (omega arith)) (next_is os)
    | yes p ↦ elim (dec_le (suc (effective_of o)) end) [
      | yes q ↦ rw (le-leb t (effective_of o) p, lt-ltb (effective_of o) end q) (next_walk os (effective_of o) (omega arith))
      | no q ↦
          rw (le-leb t (effective_of o) p, le-ltb (effective_of o) end (omega arith)) (next_is os ∙ omega (arith, next_most os end t))
    ]
  ]

-- left at the effective time t
unfoldable pub in_group : List Numbered → ℕ → Numbered → Bool
in_group os t o = eqb (effective_of o) t && not (superseded os o)

module _ (os : List Numbered) (t : ℕ) (o : Numbered) where
  pub group_other : (effective_of o ≡ t → ⊥) → in_group os t o ≡ false
  unfolding in_group
  group_other h = simp (ne_eqb _ _ h)

  pub group_gone : superseded os o ≡ true → in_group os t o ≡ false
  unfolding in_group
  group_gone e = rw e (and-false (eqb (effective_of o) t))

  pub group_left : effective_of o ≡ t → superseded os o ≡ false → in_group os t o ≡ true
  unfolding in_group
  group_left h e = simp (eq-eqb _ _ h, e)

-- ---- a group walked: of those before, the highest ranked, the earliest SYNC and the earliest DESY; the rest is still to come
pub record Walked (best sync desy : Option Numbered) (rest whole : List Numbered) : Type 0 where
  pub highest_is : best_from (option_to_list best) rest ≡ best_from [] whole
  pub sync_is : or_else (option_to_list sync) (present Sync rest) ≡ present Sync whole
  pub desy_is : or_else (option_to_list desy) (present Desy rest) ≡ present Desy whole

pub walked_none : (whole : List Numbered) → Walked None None None whole whole
walked_none whole = record { highest_is = refl; sync_is = refl; desy_is = refl }

best_more : (f : Option Numbered) (o : Numbered) (rest : List Numbered) →
    best_from (best_from (option_to_list f) (o ∷ [])) rest ≡ best_from (option_to_list f) (o ∷ rest)
unfolding best_from highest
best_more (Some b) o rest = refl
best_more None o rest = refl

present_more : (code : Effect) (f : Option Numbered) (o : Numbered) (rest : List Numbered) →
    or_else (or_else (option_to_list f) (present code (o ∷ []))) (present code rest) ≡ or_else (option_to_list f) (present code (o ∷ rest))
unfolding present those
present_more code (Some b) o rest = refl
present_more code None o rest = by_bool (same (effect_of o) code) (λ e. rw e) (λ e. rw e)

-- with o looked at
pub walked_more : {best sync desy better s d : Option Numbered} {rest whole : List Numbered} (o : Numbered) →
    option_to_list better ≡ best_from (option_to_list best) (o ∷ []) → option_to_list s ≡ or_else (option_to_list sync) (present Sync (o ∷ [])) →
    option_to_list d ≡ or_else (option_to_list desy) (present Desy (o ∷ [])) → Walked best sync desy (o ∷ rest) whole → Walked better s d rest whole
walked_more {best} {sync} {desy} {better} {s} {d} {rest} o p q r w = record {
  highest_is = ap (λ (l : List Numbered). best_from l rest) p ∙ (best_more best o rest ∙ w.highest_is);
  sync_is = ap (λ (l : List Numbered). or_else l (present Sync rest)) q ∙ (present_more Sync sync o rest ∙ w.sync_is);
  desy_is = ap (λ (l : List Numbered). or_else l (present Desy rest)) r ∙ (present_more Desy desy o rest ∙ w.desy_is);
}

best_all : (f : Option Numbered) → option_to_list f ≡ best_from (option_to_list f) []
unfolding best_from highest
best_all (Some b) = refl
best_all None = refl

present_all : (code : Effect) (f : Option Numbered) → option_to_list f ≡ or_else (option_to_list f) (present code [])
unfolding present those
present_all code (Some b) = refl
present_all code None = refl

-- all of it
pub walked_all : {best sync desy : Option Numbered} {whole : List Numbered} → Walked best sync desy [] whole →
    (option_to_list best ≡ best_from [] whole) × (option_to_list sync ≡ present Sync whole) × (option_to_list desy ≡ present Desy whole)
walked_all {best} {sync} {desy} w = (best_all best ∙ w.highest_is, present_all Sync sync ∙ w.sync_is, present_all Desy desy ∙ w.desy_is)

-- ---- those used
pub used_stop : (end : ℕ) (os : List Numbered) (m t : ℕ) → end ≤ next_time end os t → used_from end os m t ≡ []
unfolding used_from
used_stop end os zero t h = refl
used_stop end os (suc m) t h = rw (le-ltb (next_time end os t) end h, used_from)

-- one group more is in: that of the next time
pub begun_group : {s : Few Numbered} {whole : List Numbered} (end : ℕ) (os : List Numbered) (m k t next : ℕ) (f : Option Numbered) → m ≡ k + 1 →
    next ≡ next_time end os t → next < end → option_to_list f ≡ used_of (group os next) →
    Begun s (used_from end os m t) whole → Begun (joined s f) (used_from end os k (next + 1)) whole
unfolding used_from
begun_group end os m k t next f d q h g b =
    let e : m ≡ suc k = omega arith in
    let more : used_from end os m t ≡ option_to_list f ++ used_from end os k (next + 1) =
    rw (e, g, q, add-one, lt-ltb (next_time end os t) end (omega arith), used_from) in
    begun_picked f (rw more at b)

-- ---- one looked at, of those from the place i on
module _ (os : List Numbered) (t latest i : ℕ) (e : latest ≡ latest_at os t) (h : i < length os)
    {best sync desy : Option Numbered} {whole : List Numbered}
    (w : Walked best sync desy (those (in_group os t) (drop i os)) whole) where
  abbrev one : Numbered
  one = get_or os i no_numbered

  -- at the time t, whether a later issue time supersedes it
  left_is : effective_of one ≡ t → ltb (issue_time_of one) latest ≡ superseded os one
  left_is q = rw (e, ← q) (superseded_is os one)

  pub pass_other : (effective_of one ≡ t → ⊥) → Walked best sync desy (those (in_group os t) (drop (i + 1) os)) whole
  pass_other n = rw (those_skip os i no_numbered h (in_group os t) (group_other os t one n)) at w

  pub pass_gone : effective_of one ≡ t → issue_time_of one < latest → Walked best sync desy (those (in_group os t) (drop (i + 1) os)) whole
  pass_gone q k =
      let gone = sym (left_is q) ∙ lt-ltb (issue_time_of one) latest k in
      rw (those_skip os i no_numbered h (in_group os t) (group_gone os t one gone)) at w

  pub look_at : effective_of one ≡ t → latest ≤ issue_time_of one → Walked best sync desy (one ∷ those (in_group os t) (drop (i + 1) os)) whole
  look_at q k =
      let left = sym (left_is q) ∙ le-ltb (issue_time_of one) latest k in
      rw (those_keep os i no_numbered h (in_group os t) (group_left os t one q left)) at w
