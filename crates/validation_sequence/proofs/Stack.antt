-- The kept ones, latest first: the laws of step 3's lists.
use mathlib.Core.Path.{◌≡◌, refl, sym, ap, ◌∙◌}
use mathlib.Core.List.{List, [], ◌∷◌, ◌++◌, append-nil}
use Prim.Native.Nat.{ℕ, suc, ◌+◌, ◌-◌, ◌≤◌, ◌<◌}
use native.Mathlib.Omega.{arith}
use lib.Dec.{leb}
use lib.ListN.{length, take, drop, get_or, length-drop, take-append-drop}
use Rattle.std.specs.Prelude.{Some, option_to_list, slice_get}
use Rattle.std.proofs.lemmas.List.{take_all, take_more, drop_more, get_or-drop}
use Rattle.std.proofs.lemmas.Option.{slice_get-get_or}
use Rattle.validation.specs.declared.Numbered.{Numbered}
use Rattle.validation.specs.Kept.{effective_of, repeats, sync_within_hour, from_sync, before_sync, turned}
use Rattle.validation_groups.specs.Working.{no_numbered}
use Rattle.validation_sequence.specs.Working.{NoSync, LatestSync}

-- ---- turned
pub turned_append : (xs ys zs : List Numbered) → turned (xs ++ ys) zs ≡ turned ys (turned xs zs)
unfolding turned
turned_append [] ys zs = refl
turned_append (x ∷ xs) ys zs = turned_append xs ys (x ∷ zs)

pub turned_last : (xs : List Numbered) (x : Numbered) → turned (xs ++ (x ∷ [])) [] ≡ x ∷ turned xs []
unfolding turned
turned_last xs x = turned_append xs (x ∷ []) []

turned_before : (xs ys zs : List Numbered) → turned (turned xs ys) zs ≡ turned ys (xs ++ zs)
unfolding turned
turned_before [] ys zs = refl
turned_before (x ∷ xs) ys zs = turned_before xs (x ∷ ys) zs

pub turned_back : (xs : List Numbered) → turned (turned xs []) [] ≡ xs
unfolding turned
turned_back xs = turned_before xs [] [] ∙ append-nil xs

at_end : (o : Numbered) (ks : List Numbered) (n : ℕ) → n < length ks → length ks ≤ n + 1 →
    repeats o (option_to_list (slice_get ks n)) ≡ repeats o (turned ks [])
unfolding repeats
at_end o ks n h l =
    let k = get_or ks n no_numbered in
    let whole : ks ≡ take n ks ++ (k ∷ []) = sym (take_all (n + 1) ks l) ∙ take_more ks n no_numbered h in
    let e : slice_get ks n ≡ Some k = slice_get-get_or ks n no_numbered h in
    let f : turned ks [] ≡ k ∷ turned (take n ks) [] = ap (λ (xs : List Numbered). turned xs []) whole ∙ turned_last (take n ks) k in
    rw (e, f)

-- the last of them is the first when they are turned, and what one repeats
pub repeats_last : (o : Numbered) (ks : List Numbered) → repeats o (option_to_list (slice_get ks (length ks - 1))) ≡ repeats o (turned ks [])
unfolding repeats turned
repeats_last o [] = refl
repeats_last o (x ∷ xs) = at_end o (x ∷ xs) (length (x ∷ xs) - 1) (omega arith) (omega arith)

-- ---- those after the latest SYNC are passed over
later_ones : (x : Numbered) (xs : List Numbered) → NoSync (x ∷ xs) → NoSync xs
later_ones x xs n j p l = n (suc j) (omega arith) (omega arith)

pub skip_hour : (t : ℕ) (xs acc : List Numbered) → NoSync xs → sync_within_hour t (turned xs acc) ≡ sync_within_hour t acc
unfolding turned sync_within_hour
skip_hour t [] acc n = refl
skip_hour t (x ∷ xs) acc n = skip_hour t xs (x ∷ acc) (later_ones x xs n) ∙ rw (n 0 (omega arith) (omega arith))

skip_from : (xs acc : List Numbered) → NoSync xs → from_sync (turned xs acc) ≡ turned xs (from_sync acc)
unfolding turned from_sync
skip_from [] acc n = refl
skip_from (x ∷ xs) acc n =
    let e : from_sync (x ∷ acc) ≡ x ∷ from_sync acc = rw (n 0 (omega arith) (omega arith)) in
    skip_from xs (x ∷ acc) (later_ones x xs n) ∙ ap (turned xs) e

skip_before : (xs acc : List Numbered) → NoSync xs → before_sync (turned xs acc) ≡ before_sync acc
unfolding turned before_sync
skip_before [] acc n = refl
skip_before (x ∷ xs) acc n = skip_before xs (x ∷ acc) (later_ones x xs n) ∙ rw (n 0 (omega arith) (omega arith))

-- ---- the latest SYNC stands at this place: the hour is timed from it, and it and all after it leave
module _ (ks : List Numbered) (at : ℕ) (s : LatestSync ks at) where
  abbrev sync : Numbered
  sync = get_or ks at no_numbered

  none_after : NoSync (drop (at + 1) ks)
  none_after j p l =
      let e = get_or-drop (at + 1) ks j no_numbered in
      rw e (s.after (at + 1 + j) (omega arith) (omega (arith, length-drop (at + 1) ks)))

  parts : turned ks [] ≡ turned (drop (at + 1) ks) (sync ∷ turned (take at ks) [])
  unfolding turned
  parts =
      ap (λ (l : List Numbered). turned l []) (sym (take-append-drop at ks)
      ∙ ap (λ (l : List Numbered). take at ks ++ l) (drop_more ks at no_numbered s.here))
      ∙ turned_append (take at ks) (sync ∷ drop (at + 1) ks) []

  pub hour_at : (t : ℕ) → sync_within_hour t (turned ks []) ≡ leb t (effective_of sync + 3600)
  unfolding sync_within_hour
  hour_at t =
      ap (sync_within_hour t) parts ∙ (skip_hour t (drop (at + 1) ks) (sync ∷ turned (take at ks) []) none_after ∙ rw s.is)

  pub from_at : from_sync (turned ks []) ≡ turned (drop at ks) []
  unfolding turned from_sync
  from_at =
      let e : from_sync (sync ∷ turned (take at ks) []) ≡ sync ∷ [] = rw s.is in
      ap from_sync parts ∙ (skip_from (drop (at + 1) ks) (sync ∷ turned (take at ks) []) none_after
      ∙ (ap (turned (drop (at + 1) ks)) e ∙ ap (λ (l : List Numbered). turned l []) (sym (drop_more ks at no_numbered s.here))))

  pub before_at : before_sync (turned ks []) ≡ turned (take at ks) []
  unfolding before_sync
  before_at = ap before_sync parts ∙ (skip_before (drop (at + 1) ks) (sync ∷ turned (take at ks) []) none_after ∙ rw s.is)
