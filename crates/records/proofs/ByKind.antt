-- What the code's kind of a record says of the byte.
use Prim.Native.Nat.{ℕ}
use mathlib.Core.Path.{◌≡◌}
use native.Mathlib.Decide.{ℕ_discrete}
use borrow.Author.Tests.{ne_eqb}
use Rattle.std.specs.Prelude.{Result, Ok, Err}
use Rattle.records.specs.declared.Kind.{Kind}
use Rattle.records.specs.declared.Kind.TheVariants.{Unit, Opening, Instruction, Close}
use Rattle.records.specs.declared.Refusal.{Refusal}
use Rattle.records.specs.declared.Refusal.TheVariants.{UnknownKind}
use Rattle.records.specs.Kinds.{kind_by}

abbrev no_kind : Result Kind Refusal
no_kind = Err UnknownKind

abbrev known : Kind → Result Kind Refusal
known v = Ok v

-- the byte k has what is proved of each kind, and of none
by_kind : (P : ℕ → Type 0) → P 1 → P 2 → P 3 → P 4 → ((k : ℕ) → (k ≡ 1 → ⊥) → (k ≡ 2 → ⊥) → (k ≡ 3 → ⊥) → (k ≡ 4 → ⊥) → P k) → (k : ℕ) → P k
by_kind P one two three four none k = elim (ℕ_discrete k 1) [
  | yes h ↦ rw h one
  | no n1 ↦ elim (ℕ_discrete k 2) [
    | yes h ↦ rw h two
    | no n2 ↦ elim (ℕ_discrete k 3) [
      | yes h ↦ rw h three
      | no n3 ↦ elim (ℕ_discrete k 4) [
        | yes h ↦ rw h four
        | no n4 ↦ none k n1 n2 n3 n4
      ]
    ]
  ]
]

abbrev pub kind_number : Kind → ℕ
kind_number Unit = 1
kind_number Opening = 2
kind_number Instruction = 3
kind_number Close = 4

pub kind_is : (k : ℕ) (v : Kind) → kind_by k ≡ Ok v → k ≡ kind_number v
kind_is k v = by_kind (λ (n : ℕ). kind_by n ≡ Ok v → n ≡ kind_number v) (of Unit) (of Opening) (of Instruction) (of Close) none k
  where
    of : (w : Kind) → known w ≡ Ok v → kind_number w ≡ kind_number v
    of w e = cc

    none : (n : ℕ) → (n ≡ 1 → ⊥) → (n ≡ 2 → ⊥) → (n ≡ 3 → ⊥) → (n ≡ 4 → ⊥) → kind_by n ≡ Ok v → n ≡ kind_number v
    none n n1 n2 n3 n4 e =
        let f : no_kind ≡ Ok v = simp (ne_eqb n 1 n1, ne_eqb n 2 n2, ne_eqb n 3 n3, ne_eqb n 4 n4) at e in
        cc

-- none: the refusal is 1
pub kind_none : (k : ℕ) (r : Refusal) → kind_by k ≡ Err r → (r ≡ UnknownKind) × (k ≡ 1 → ⊥) × (k ≡ 2 → ⊥) × (k ≡ 3 → ⊥) × (k ≡ 4 → ⊥)
kind_none k r = by_kind (λ (n : ℕ). kind_by n ≡ Err r → (r ≡ UnknownKind) × (n ≡ 1 → ⊥) × (n ≡ 2 → ⊥) × (n ≡ 3 → ⊥) × (n ≡ 4 → ⊥))
    (λ e. cc) (λ e. cc) (λ e. cc) (λ e. cc)
    (λ n n1 n2 n3 n4 e.
    let f : no_kind ≡ Err r = simp (ne_eqb n 1 n1, ne_eqb n 2 n2, ne_eqb n 3 n3, ne_eqb n 4 n4) at e in
    (cc, n1, n2, n3, n4))
    k
