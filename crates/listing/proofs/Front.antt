-- What bytes come to does not change with the bytes after them, unless there were too few: the listing program may answer
-- at close, or at a refusal, whatever follows.
use Prim.Native.Nat.{ℕ, zero, suc, ◌-◌, ◌≤◌}
use mathlib.Core.Path.{◌≡◌, refl, ap, sym, ◌∙◌}
use mathlib.Core.List.{List, [], ◌∷◌, ◌++◌}
use mathlib.Core.Bool.{Bool, true, false, not}
use native.Mathlib.Omega.{arith}
use lib.Dec.{ltb}
use lib.ListN.{length, take, drop, length-append}
use lib.Seq.{take-append-le, drop-append-le}
use borrow.Author.Tests.{ltb-false, le-ltb, ne_eqb}
use Rattle.std.specs.Prelude.{Ok, Err}
use Rattle.records.specs.declared.Refusal.TheVariants.{UnknownKind, TooFewBytes, AfterClose}
use Rattle.records.specs.Answers.{Answer, accepted, refusing, first_refusal}
use Rattle.records.specs.Records.{size_of}
use Rattle.profile.specs.declared.Taken.{Taken}
use Rattle.profile.specs.Profile.{Found}
use Rattle.day.specs.declared.Day.{Day}
use Rattle.day.specs.declared.Stepped.{Stepped}
use Rattle.day.specs.Day.{empty, day_with, is_closed}
use Rattle.day.specs.Step.{kind_of, body_of, a_kind, no_bytes, unknown_kind, too_few, accept, settle, answer_by, step_by}
use Rattle.day.specs.ByKind.{kind_refusals}
use Rattle.level.proofs.Lists.{by_bool}
use Rattle.day.proofs.Answers.{never}
use Rattle.day.proofs.ByKind.{by_kind, step_used}
use Rattle.listing.specs.Program.{Ran, run_by, ran_by}
use Rattle.listing.proofs.Onward.{onward, run_onward}

-- the answer of too few bytes
abbrev Few : Answer → Type 0
Few a = a ≡ Err TooFewBytes

-- a step, by what it reads of the bytes
module _ (find : Taken → Found) (d : Day) where
  step_from : Bool → Bool → Bool → ℕ → List ℕ → Stepped
  step_from none unknown few k b =
      settle (first_refusal (refusing none TooFewBytes ∷ refusing unknown UnknownKind ∷ refusing few TooFewBytes ∷ refusing (is_closed d) AfterClose ∷
      kind_refusals find d.taken k b)) d
      (accept (day_with find d k b) (size_of k))

  abbrev by_parts : List ℕ → Stepped
  by_parts s = step_from (no_bytes s) (unknown_kind s) (too_few s) (kind_of s) (body_of s)

  step_from_lem : (s : List ℕ) → step_by find d s ≡ by_parts s
  unfolding step_by step_from
  step_from_lem s = ap (λ (a : Answer). settle a d (accept (day_with find d (kind_of s) (body_of s)) (size_of (kind_of s)))) (by_kind find d s)

  unknown_from : (few other : Bool) (k : ℕ) (b c : List ℕ) → step_from false true few k b ≡ step_from false true other k c
  unfolding step_from
  unknown_from few other k b c = refl

  few_from : (k : ℕ) (b : List ℕ) → Few (step_from false false true k b).answer
  unfolding step_from
  few_from k b = refl

  module _ (x : ℕ) (xs t : List ℕ) where
    abbrev s : List ℕ
    s = x ∷ xs

    some : (y : ℕ) (ys : List ℕ) → no_bytes (y ∷ ys) ≡ false
    unfolding no_bytes
    some y ys = ne_eqb (length (y ∷ ys)) 0 (λ e. omega (arith, e))

    kind_is : kind_of (s ++ t) ≡ kind_of s
    unfolding kind_of
    kind_is = refl

    unknown_is : unknown_kind (s ++ t) ≡ unknown_kind s
    unfolding unknown_kind
    unknown_is = ap (λ (k : ℕ). not (a_kind k)) kind_is

    enough_is : too_few s ≡ false → (size_of (kind_of s) ≤ length s) × (too_few (s ++ t) ≡ false)
    unfolding too_few
    enough_is e =
        let long : size_of (kind_of s) ≤ length s = ltb-false (length s) (size_of (kind_of s)) e in (
          long,
          ap (λ (k : ℕ). ltb (length (s ++ t)) (size_of k)) kind_is
              ∙ le-ltb (length (s ++ t)) (size_of (kind_of s)) (omega (arith, long, length-append s t)),
        )

    body_is : size_of (kind_of s) ≤ length s → body_of (s ++ t) ≡ body_of s
    unfolding body_of
    body_is long = ap (λ (k : ℕ). take (size_of k - 1) (xs ++ t)) kind_is ∙ take-append-le (size_of (kind_of s) - 1) xs t (omega (arith, long))

    abbrev Same : Type 0
    Same = by_parts (s ++ t) ≡ by_parts s

    strange : unknown_kind s ≡ true → Same
    strange u =
        rw (some x (xs ++ t), some x xs, unknown_is, kind_is, u) (unknown_from (too_few (s ++ t)) (too_few s) (kind_of s) (body_of (s ++ t)) (body_of s))

    fits : unknown_kind s ≡ false → too_few s ≡ false → Same
    fits u e = let g = enough_is e in rw (some x (xs ++ t), some x xs, unknown_is, kind_is, body_is g.0, g.1, e) refl

    short : unknown_kind s ≡ false → too_few s ≡ true → Few (step_by find d s).answer
    short u e = ap (λ (r : Stepped). r.answer) (step_from_lem s) ∙ rw (some x xs, u, e) (few_from (kind_of s) (body_of s))

    step_front : (Few (step_by find d s).answer → ⊥) → step_by find d (s ++ t) ≡ step_by find d s
    step_front h =
        step_from_lem (s ++ t) ∙ by_bool (unknown_kind s) strange (λ u. by_bool (too_few s) (λ e. absurd (h (short u e))) (fits u)) ∙ sym (step_from_lem s)

  none_few : Few (step_by find d []).answer
  unfolding step_by answer_by no_bytes
  none_few = refl

-- ---- a run
module _ (find : Taken → Found) where
  refused_onward : (n : ℕ) (a : Answer) (d : Day) (b : Bool) (s : List ℕ) → Few a → Few (onward find n a d b s).answer
  unfolding onward
  refused_onward n (Err r) d b s e = e
  refused_onward n (Ok _) d b s e = never (sym (ap accepted e))

  run_few : (n : ℕ) (d : Day) (s : List ℕ) → Few (step_by find d s).answer → Few (run_by find (suc n) d s).answer
  run_few n d s e =
      let t : Stepped = step_by find d s in
      ap (λ (r : Ran). r.answer) (run_onward find n d s) ∙ refused_onward n t.answer t.day (is_closed t.day) (drop t.used s) e

  run_front : (n m : ℕ) → n ≤ m → (d : Day) (s t : List ℕ) → (Few (run_by find n d s).answer → ⊥) → run_by find m d (s ++ t) ≡ run_by find n d s
  unfolding run_by onward
  run_front zero m le d s t h = absurd (h refl)
  run_front (suc n) zero le d s t h = absurd (omega arith)
  run_front (suc n) (suc m) le d [] t h = absurd (h (run_few n d [] (none_few find d)))
  run_front (suc n) (suc m) le d (x ∷ xs) t h =
      let s : List ℕ = x ∷ xs in
      let st : Stepped = step_by find d s in
      let e : step_by find d (s ++ t) ≡ st = step_front find d x xs t (λ f. h (run_few n d s f)) in
      run_onward find m d (s ++ t)
      ∙ ap (λ (r : Stepped). onward find m r.answer r.day (is_closed r.day) (drop r.used (s ++ t))) e
      ∙ go st.answer st.day (is_closed st.day) (drop st.used s) (drop st.used (s ++ t))
      (drop-append-le st.used s t (step_used find d s)) (λ f. h (ap (λ (r : Ran). r.answer) (run_onward find n d s) ∙ f))
      (λ k r g. run_front n m (omega arith) k r t g)
      ∙ sym (run_onward find n d s)
    where
      go : (a : Answer) (e : Day) (b : Bool) (r q : List ℕ) → q ≡ r ++ t → (Few (onward find n a e b r).answer → ⊥) →
          ((k : Day) (v : List ℕ) → (Few (run_by find n k v).answer → ⊥) → run_by find m k (v ++ t) ≡ run_by find n k v) →
          onward find m a e b q ≡ onward find n a e b r
      go (Err y) e b r q p g f = refl
      go (Ok _) e true r q p g f = refl
      go (Ok _) e false r q p g f = ap (run_by find m e) p ∙ f e r g

  -- the answer to bytes, unless there were too few, is the answer to them with any others after them
  pub ran_front : (s t : List ℕ) → ((ran_by find s).answer ≡ Err TooFewBytes → ⊥) → ran_by find (s ++ t) ≡ ran_by find s
  unfolding ran_by
  ran_front s t h = run_front (length s) (length (s ++ t)) (omega (arith, length-append s t)) empty s t h
