-- The places of the SYNCs among the kept ones: the last of them is that of the latest.
use mathlib.Core.Path.{◌≡◌, refl, sym, ap, ◌∙◌}
use mathlib.Core.List.{List, [], ◌∷◌, ◌++◌}
use mathlib.Core.Bool.{false}
use Prim.Native.Nat.{ℕ, zero, suc, ◌+◌, ◌-◌, ◌≤◌, ◌<◌}
use native.Mathlib.Omega.{arith}
use lib.ListN.{length, take, drop, get_or, length-drop, length-append, take-append-drop}
use lib.Seq.{length-take-le, take-append_seam}
use Rattle.std.specs.Prelude.{Some, MatchOption, slice_get}
use Rattle.std.proofs.lemmas.List.{drop_more, get_or-drop}
use Rattle.std.proofs.lemmas.Option.{slice_get-get_or}
use Rattle.level.proofs.Lists.{by_bool}
use Rattle.records.specs.declared.Effect.TheVariants.{Sync}
use Rattle.records.specs.Codes.{same}
use Rattle.validation.specs.declared.Numbered.{Numbered}
use Rattle.validation.specs.Kept.{effect_of}
use Rattle.validation_groups.specs.Working.{no_numbered}
use Rattle.validation_sequence.specs.Working.{NoSyncFrom, NoSync, LatestSync, sync_places}

pub places_append : (i : ℕ) (xs ys : List Numbered) → sync_places i (xs ++ ys) ≡ sync_places i xs ++ sync_places (i + length xs) ys
unfolding sync_places
places_append i [] ys = ap (λ (j : ℕ). sync_places j ys) {x = i} {y = i + 0} (omega arith)
places_append i (x ∷ xs) ys =
    let more : sync_places (i + 1) (xs ++ ys) ≡ sync_places (i + 1) xs ++ sync_places (i + length (x ∷ xs)) ys =
    places_append (i + 1) xs ys ∙ ap (λ (j : ℕ). sync_places (i + 1) xs ++ sync_places j ys) {x = i + 1 + length xs} {y = i + length (x ∷ xs)} (omega arith) in
    by_bool (same (effect_of x) Sync) (λ e. rw e (ap (λ (l : List ℕ). i ∷ l) more)) (λ e. rw e more)

-- with one more behind them
pub places_more : (ks : List Numbered) (o : Numbered) → sync_places 0 (ks ++ (o ∷ [])) ≡ sync_places 0 ks ++ sync_places (length ks) (o ∷ [])
places_more ks o =
    places_append 0 ks (o ∷ []) ∙ ap (λ (j : ℕ). sync_places 0 ks ++ sync_places j (o ∷ [])) {x = 0 + length ks} {y = length ks} (omega arith)

pub places_few : (i : ℕ) (ks : List Numbered) → length (sync_places i ks) ≤ length ks
unfolding sync_places
places_few i [] = omega arith
places_few i (k ∷ ks) =
    let few = places_few (i + 1) ks in
    by_bool (same (effect_of k) Sync) (λ e. rw e (omega (arith, few))) (λ e. rw e (omega (arith, few)))

places_none : (i : ℕ) (ks : List Numbered) → NoSync ks → sync_places i ks ≡ []
unfolding sync_places
places_none i [] n = refl
places_none i (k ∷ ks) n =
    rw (n 0 (omega arith) (omega arith)) (places_none (i + 1) ks (λ j p q. n (suc j) (omega arith) (omega arith)))

-- ---- the latest SYNC stands at this place: its place is the last, and the others are those of the ones before it
module _ (ks : List Numbered) (at : ℕ) (s : LatestSync ks at) where
  none_after : NoSync (drop (at + 1) ks)
  none_after j p l =
      let e = get_or-drop (at + 1) ks j no_numbered in
      rw e (s.after (at + 1 + j) (omega arith) (omega (arith, length-drop (at + 1) ks)))

  pub places_split : sync_places 0 ks ≡ sync_places 0 (take at ks) ++ (at ∷ [])
  unfolding sync_places
  places_split =
      let k = get_or ks at no_numbered in
      let long : 0 + length (take at ks) ≡ at = omega (arith, length-take-le at ks (omega (arith, s.here))) in
      let whole : ks ≡ take at ks ++ (k ∷ drop (at + 1) ks) =
      sym (take-append-drop at ks) ∙ ap (λ (l : List Numbered). take at ks ++ l) (drop_more ks at no_numbered s.here) in
      let one : sync_places at (k ∷ drop (at + 1) ks) ≡ at ∷ [] = rw s.is (ap (λ (l : List ℕ). at ∷ l) (places_none (at + 1) (drop (at + 1) ks) none_after)) in
      ap (sync_places 0) whole ∙ places_append 0 (take at ks) (k ∷ drop (at + 1) ks)
      ∙ ap (λ (l : List ℕ). sync_places 0 (take at ks) ++ l) (ap (λ (j : ℕ). sync_places j (k ∷ drop (at + 1) ks)) long ∙ one)

  -- where it and all after it leave, its place leaves
  pub places_before : take (length (sync_places 0 ks) - 1) (sync_places 0 ks) ≡ sync_places 0 (take at ks)
  places_before =
      let before = sync_places 0 (take at ks) in
      let count : length (before ++ (at ∷ [])) - 1 ≡ length before = simp length-append (omega arith) in
      rw places_split (ap (λ (n : ℕ). take n (before ++ (at ∷ []))) count ∙ take-append_seam before (at ∷ []))

-- ---- there is a latest SYNC, or none
get_or_seam : (xs : List ℕ) (x : ℕ) → get_or (xs ++ (x ∷ [])) (length xs) 0 ≡ x
get_or_seam [] x = refl
get_or_seam (y ∷ ys) x = get_or_seam ys x

first_after : (k : Numbered) (ks : List Numbered) → NoSync ks → NoSyncFrom (k ∷ ks) 1
first_after k ks n zero p l = absurd (omega arith)
first_after k ks n (suc j) p l = n j (omega arith) (omega arith)

further_after : (k : Numbered) (ks : List Numbered) (at : ℕ) → NoSyncFrom ks (at + 1) → NoSyncFrom (k ∷ ks) (suc at + 1)
further_after k ks at n zero p l = absurd (omega arith)
further_after k ks at n (suc j) p l = n j (omega arith) (omega arith)

none_first : (k : Numbered) (ks : List Numbered) → same (effect_of k) Sync ≡ false → NoSync ks → NoSync (k ∷ ks)
none_first k ks e n zero p l = e
none_first k ks e n (suc j) p l = n j (omega arith) (omega arith)

by_latest : {P : Type 0} (ks : List Numbered) → (NoSync ks → P) → ((at : ℕ) → LatestSync ks at → P) → P
by_latest [] n s = n (λ j p l. absurd (omega arith))
by_latest (k ∷ ks) n s = by_latest ks
    (λ none. by_bool (same (effect_of k) Sync)
    (λ e. s 0 (record { here = omega arith; is = e; after = first_after k ks none }))
    (λ e. n (none_first k ks e none)))
    (λ at l. s (suc at) (record { here = omega (arith, l.here); is = l.is; after = further_after k ks at l.after }))

-- the last of the places is that of the latest SYNC
pub places_last : (ks : List Numbered) → MatchOption (slice_get (sync_places 0 ks) (length (sync_places 0 ks) - 1)) (NoSync ks) (LatestSync ks)
places_last ks = by_latest ks
    (λ n. rw (places_none 0 ks n) n)
    (λ at s.
    let before = sync_places 0 (take at ks) in
    let all = before ++ (at ∷ []) in
    let last : length all - 1 ≡ length before = simp length-append (omega arith) in
    let here : length all - 1 < length all = simp length-append (omega arith) in
    let got : slice_get all (length all - 1) ≡ Some at =
    slice_get-get_or all (length all - 1) 0 here ∙ ap Some (ap (λ (n : ℕ). get_or all n 0) last ∙ get_or_seam before at) in
    rw (places_split ks at s, got) s)
