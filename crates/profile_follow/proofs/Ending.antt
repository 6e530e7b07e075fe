-- The places past a day's last boundary are cleared.
use Rattle.std.proofs.Common.{◌≡◌, ap, sym, ◌∙◌, ℕ, suc, ◌+◌, ◌-◌, ◌≤◌, List, ◌++◌, length, take, drop, replicate, arith}
use Rattle.std.proofs.Math.Seq.{take-append-add}
use Rattle.std.proofs.lemmas.List.{take-replicate, length-take-le, length-drop, drop_all, append-nil}
use borrow.Rule.Slice.PartMut.{put_mid, mid_of}
use native.Mathlib.Numerals.{add-one}
use Rattle.level.specs.Lists.{filled}
use Rattle.level.specs.Numbers.{most_half_hours, boundary_places}

filled_is : (n z : ℕ) (xs : List ℕ) → length xs ≤ n → filled n z xs ≡ xs ++ replicate (n - length xs) z
unfolding filled
filled_is n z xs h = ap (λ (k : ℕ). take k (xs ++ replicate n z)) {x = n} {y = length xs + (n - length xs)} (omega arith)
    ∙ take-append-add xs (replicate n z) (n - length xs) ∙ ap (λ (ys : List ℕ). xs ++ ys) (take-replicate (n - length xs) n z (omega arith))

pub cleared : (halves : ℕ) (xs ys : List ℕ) → length xs ≡ boundary_places → halves ≤ most_half_hours →
    ys ≡ replicate (length (mid_of (halves + 1) (boundary_places - (halves + 1)) xs)) 0 →
    put_mid (halves + 1) (boundary_places - (halves + 1)) xs ys ≡ filled boundary_places 0 (take (suc halves) xs)
cleared halves xs ys size few e =
    let first : List ℕ = take (halves + 1) xs in
    let kept : length first ≡ halves + 1 = length-take-le (halves + 1) xs (omega arith) in
    let past : length (drop (halves + 1) xs) ≡ boundary_places - (halves + 1) = length-drop (halves + 1) xs ∙ omega arith in
    let many : length (mid_of (halves + 1) (boundary_places - (halves + 1)) xs) ≡ boundary_places - length first =
    length-take-le (boundary_places - (halves + 1)) (drop (halves + 1) xs) (omega arith) ∙ omega arith in
    let none = drop_all (boundary_places - (halves + 1)) (drop (halves + 1) xs) (omega arith) in
    (λ i. first ++ (e i ++ none i)) ∙ ap (λ (zs : List ℕ). first ++ zs) (append-nil _ ∙ ap (λ (k : ℕ). replicate k 0) many)
    ∙ sym (filled_is boundary_places 0 first (omega arith)) ∙ ap (λ (k : ℕ). filled boundary_places 0 (take k xs)) (add-one halves)
