-- What comes next of some bytes, and of a line.
use Prim.Native.Nat.{ℕ, ◌+◌, ◌<◌, ◌≤◌}
use mathlib.Core.Path.{◌≡◌, refl, sym, ap, ◌∙◌}
use mathlib.Core.List.{List, [], ◌∷◌, ◌++◌, append_assoc, append-nil}
use native.Mathlib.Numerals.{add-one}
use lib.ListN.{length, get_or, drop, length-append, drop_of_length-le}
use lib.Seq.{drop-cons}
use Rattle.lines.specs.Text.{field, fields}

-- of what is left, x comes next, and then the rest
pub record Next (left x rest : List ℕ) : Type 0 where
  pub parts : left ≡ x ++ rest

pub next_append : {x rest : List ℕ} → Next (x ++ rest) x rest
next_append = record { parts = refl }

pub next_last : (x : List ℕ) → Next x x []
next_last x = record { parts = sym (append-nil x) }

pub next_length : {left x rest : List ℕ} → Next left x rest → length left ≡ length x + length rest
next_length {left} {x} {rest} n = ap length n.parts ∙ length-append x rest

-- a loop over n things has come to the i-th; of the lines, so far P
pub record UpTo (i n : ℕ) (P : Type 0) : Type 0 where
  pub within : i ≤ n
  pub lines : P

-- ---- lines

-- what is left of a line, from its i-th number on
abbrev pub line_left : List ℕ → ℕ → List ℕ
line_left vs i = fields (drop i vs) ++ (10 ∷ [])

pub number_next : (vs : List ℕ) (i : ℕ) → i < length vs → Next (line_left vs i) (field (get_or vs i 0)) (line_left vs (i + 1))
unfolding fields
number_next vs i h = record { parts = rw (add-one, drop-cons vs i 0, fields) (append_assoc (field (get_or vs i 0)) _ (10 ∷ [])) }

pub feed_next : (vs : List ℕ) (i : ℕ) → length vs ≤ i → Next (line_left vs i) (10 ∷ []) []
unfolding fields
feed_next vs i h = record { parts = ap (λ (l : List ℕ). fields l ++ (10 ∷ [])) (drop_of_length-le vs {i = i} h) }
