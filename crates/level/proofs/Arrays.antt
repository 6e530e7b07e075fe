-- Arrays that begin with a list; the places left hold one value.
use mathlib.Core.Path.{◌≡◌, refl, ap, sym, ◌∙◌}
use mathlib.Core.List.{List, [], ◌∷◌, ◌++◌, append_assoc}
use Prim.Native.Nat.{ℕ, zero, suc, ◌≤◌, ◌<◌}
use native.Mathlib.Omega.{arith}
use native.Mathlib.Numerals.{add-one}
use lib.ListN.{length, get_or, take, set, replicate, length-append, length-replicate, replicate-append-replicate, get_or-append}
use lib.Seq.{get_or-take, length-take-le, take-take, take-append_seam, take-append-le, take-set-lt, set-append_seam, set-append_left}
use Rattle.level.specs.Lists.{filled}

get_or_none : {A : Type 0} (n j : ℕ) (z : A) → get_or (replicate n z) j z ≡ z
get_or_none zero j z = refl
get_or_none (suc n) zero z = refl
get_or_none (suc n) (suc j) z = get_or_none n j z

get_or_behind : {A : Type 0} (xs ys : List A) (z : A) (j : ℕ) → length xs ≤ j → ((i : ℕ) → get_or ys i z ≡ z) → get_or (xs ++ ys) j z ≡ z
get_or_behind [] ys z j h e = e j
get_or_behind (x ∷ xs) ys z zero h e = absurd (omega arith)
get_or_behind (x ∷ xs) ys z (suc j) h e = get_or_behind xs ys z j (omega arith) e

module _ {A : Type 0} (z : A) (n : ℕ) (xs : List A) where
  pub filled_length : length (filled n z xs) ≡ n
  unfolding filled
  filled_length = length-take-le n (xs ++ replicate n z) (simp (length-append, length-replicate) (omega arith))

  pub filled_at : (j : ℕ) (d : A) → j < length xs → j < n → get_or (filled n z xs) j d ≡ get_or xs j d
  unfolding filled
  filled_at j d h k = get_or-take n (xs ++ replicate n z) j d k ∙ get_or-append xs (replicate n z) d j h

  pub filled_past : (j : ℕ) → length xs ≤ j → j < n → get_or (filled n z xs) j z ≡ z
  unfolding filled
  filled_past j h k = get_or-take n (xs ++ replicate n z) j z k ∙ get_or_behind xs (replicate n z) z j h (λ i. get_or_none n i z)

-- the same at each place, the same array
pub places_same : {A : Type 0} (d : A) (xs ys : List A) → length xs ≡ length ys → ((j : ℕ) → j < length xs → get_or xs j d ≡ get_or ys j d) → xs ≡ ys
places_same d [] [] l e = refl
places_same d [] (y ∷ ys) l e = absurd (omega arith)
places_same d (x ∷ xs) [] l e = absurd (omega arith)
places_same d (x ∷ xs) (y ∷ ys) l e = λ i. (e 0 (omega arith)) i ∷ (places_same d xs ys (omega arith) (λ j h. e (suc j) (omega arith))) i

-- with one more; the list again
module _ {A : Type 0} (x : A) where
  pub filled_listed : (n : ℕ) (xs : List A) → length xs ≤ n → take (length xs) (filled n x xs) ≡ xs
  unfolding filled
  filled_listed n xs h = rw (take-take (length xs) n (xs ++ replicate n x) h, take-append_seam)

  pub filled_push : (n : ℕ) (xs : List A) (o : A) → length xs < n → set (filled n x xs) (length xs) o ≡ filled n x (xs ++ (o ∷ []))
  unfolding filled
  filled_push zero xs o h = absurd (omega arith)
  filled_push (suc m) xs o h =
      let r : replicate (suc m) x ≡ replicate m x ++ (x ∷ []) =
      ap (λ (k : ℕ). replicate k x) (sym (add-one m)) ∙ sym (replicate-append-replicate m 1 x) in
      let k : suc m ≤ length (xs ++ (o ∷ replicate m x)) = simp (length-append, length-replicate) (omega arith) in
      let e : take (suc m) (xs ++ (o ∷ replicate (suc m) x)) ≡ take (suc m) (xs ++ (o ∷ replicate m x)) =
      ap (λ (l : List A). take (suc m) (xs ++ (o ∷ l))) r
      ∙ (ap (take (suc m)) (sym (append_assoc xs (o ∷ replicate m x) (x ∷ []))) ∙ take-append-le (suc m) (xs ++ (o ∷ replicate m x)) (x ∷ []) k)
      in
      sym (take-set-lt (suc m) (xs ++ replicate (suc m) x) (length xs) o h)
      ∙ (ap (take (suc m)) (set-append_seam xs x (replicate m x) o)
      ∙ (sym e ∙ ap (take (suc m)) (sym (append_assoc xs (o ∷ []) (replicate (suc m) x)))))

  pub filled_whole : (n : ℕ) (xs : List A) → length xs ≡ n → filled n x xs ≡ xs
  unfolding filled
  filled_whole n xs h = ap (λ (k : ℕ). take k (xs ++ replicate n x)) (sym h) ∙ take-append_seam xs (replicate n x)

pub filled_set : {A : Type 0} (z : A) (n : ℕ) (xs : List A) (j : ℕ) (v : A) → j < length xs → j < n →
    set (filled n z xs) j v ≡ filled n z (set xs j v)
unfolding filled
filled_set z n xs j v h k = sym (take-set-lt n (xs ++ replicate n z) j v k) ∙ ap (take n) (set-append_left xs (replicate n z) j v h)
