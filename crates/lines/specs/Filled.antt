-- Working. Bytes counted, and bytes kept in a slice, one after another.
use Prim.Native.Nat.{ℕ, ◌+◌, ◌≤◌}
use mathlib.Core.Path.{◌≡◌, sym, ap, ◌∙◌}
use mathlib.Core.List.{List, [], ◌++◌, append_assoc}
use native.Mathlib.Omega.{arith}
use native.Mathlib.Nat.{add-zero}
use lib.ListN.{length, take, drop, length-append, length-take, length-drop}
use lib.Seq.{drop-drop, take_at, drop_at}
use Rattle.std.proofs.lemmas.List.{take-append-drop}
use Rattle.lines.specs.Writing.{Filled, Counted}

-- ---- counted
pub counted_more : {xs ys : List ℕ} {j k l a b c : ℕ} → j + k ≤ l → Counted xs j a b → Counted ys k b c → Counted (xs ++ ys) l a c
counted_more {xs} {ys} h p q =
    record { count_is = omega (arith, p.count_is, q.count_is, length-append xs ys); few = omega (arith, p.few, q.few) }

-- ---- kept
pub filled_none : {at : ℕ} {o : List ℕ} → at ≤ length o → Filled [] at at o o
filled_none {at} {o} h = record { room = omega arith; to_is = omega arith; bytes = rw (add-zero) (sym (take-append-drop at o)) }

pub filled_length : {xs o p : List ℕ} {at to : ℕ} → Filled xs at to o p → length p ≡ length o
filled_length {xs} {o} {at = at} f = ap length f.bytes ∙ simp (length-append, length-take, length-drop) (omega (arith, f.room))

pub filled_more : {xs ys o p q : List ℕ} {a b c : ℕ} → Filled xs a b o p → Filled ys b c p q → Filled (xs ++ ys) a c o q
filled_more {xs} {ys} {o} {p} {q} {a} {b} {c} f g =
    let front : List ℕ = take a o ++ xs in
    let len : length (xs ++ ys) ≡ length xs + length ys = length-append xs ys in
    let b_is : length front ≡ b = omega (arith, f.to_is, f.room, length-append (take a o) xs, length-take a o) in
    let p_is : p ≡ front ++ drop (a + length xs) o = f.bytes ∙ sym (append_assoc (take a o) xs (drop (a + length xs) o)) in
    let before : take b p ≡ front = ap (take b) p_is ∙ take_at front (drop (a + length xs) o) b b_is in
    let left : drop b p ≡ drop (a + length xs) o = ap (drop b) p_is ∙ drop_at front (drop (a + length xs) o) b b_is in
    let after : drop (b + length ys) p ≡ drop (a + length (xs ++ ys)) o =
    sym (drop-drop (length ys) b p)
    ∙ (ap (drop (length ys)) left ∙ (drop-drop (length ys) (a + length xs) o ∙ ap (λ (n : ℕ). drop n o) (omega arith))) in
    let end : List ℕ = drop (a + length (xs ++ ys)) o in
    let joined : front ++ (ys ++ end) ≡ take a o ++ (xs ++ ys ++ end) =
    append_assoc (take a o) xs (ys ++ end) ∙ ap (λ (l : List ℕ). take a o ++ l) (sym (append_assoc xs ys end)) in
    record {
      room = omega (arith, f.room, f.to_is, g.room, filled_length f);
      to_is = omega (arith, f.to_is, g.to_is);
      bytes = g.bytes ∙ (λ i. before i ++ (ys ++ after i)) ∙ joined;
    }
