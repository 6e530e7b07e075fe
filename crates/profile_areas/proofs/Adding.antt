-- What goes on with time, added to a running total that is noted at each half-hour boundary.
use Prim.Native.Nat.{ℕ, ◌+◌, ◌*◌, ◌-◌, ◌^◌, min, ◌≤◌, ◌<◌}
use mathlib.Core.Path.{◌≡◌, ap, ◌∙◌}
use native.Mathlib.Decide.{dec_le}
use native.Mathlib.Omega.{arith}
use lib.ListN.{get_or, set, length-set}
use lib.Seq.{get_or-set_same, get_or-set_other}
use borrow.Author.Tests.{le-leb, lt-leb}
use Rattle.level.specs.Numbers.{half_hour, most_half_hours}
use Rattle.level.specs.Bounds.{most_seconds}
use Rattle.profile_areas.specs.declared.Sums.{Sums}
use Rattle.profile_areas.specs.Passing.{Summed, summed, noted_to, Adds, SumsFit, Noted, twice_bound}

-- a boundary that is reached, and one that is not
pub noted_there : (a : Summed) (j : ℕ) → half_hour * j ≤ a.second → noted_to a j ≡ get_or a.sums.noted j 0
unfolding noted_to
noted_there a j h = simp (le-leb (half_hour * j) a.second h)

pub noted_total : (a : Summed) (j : ℕ) → a.second < half_hour * j → noted_to a j ≡ a.sums.total
unfolding noted_to
noted_total a j h = simp (lt-leb (half_hour * j) a.second h)

-- nothing yet
pub noted_none : (g : ℕ → ℕ) {a : Summed} → ((i : ℕ) → i ≤ a.second → g i ≡ 0) → SumsFit a → Noted g a a
noted_none g {a} z fits = record { adds = λ j k. omega (arith, z (min a.second (half_hour * j)) (omega arith)); fits = fits }

-- the same, said by another function
pub adds_same : (f g : ℕ → ℕ) (a b : Summed) → ((i : ℕ) → i ≤ b.second → f i ≡ g i) → Adds f a b → Adds g a b
adds_same f g a b e h j k = h j k ∙ ap (λ (m : ℕ). noted_to a j + m) (e (min b.second (half_hour * j)) (omega arith))

-- a step from the second s to n, both in the half-hour after the boundary b
pub record InHalf (b s n : ℕ) : Type 0 where
  pub half : b < most_half_hours
  pub begun : half_hour * b ≤ s
  pub on : s < n
  pub ends : n ≤ half_hour * b + half_hour

-- v more, and noted at the boundary j
abbrev pub with_more : Sums → ℕ → ℕ → Sums
with_more x j v = record { noted = set x.noted j (x.total + v); total = x.total + v }

-- v more in such a step
module _ {b s n : ℕ} {x : Sums} (i : InHalf b s n) (fits : SumsFit (summed s x)) (v : ℕ) where
  abbrev next : Summed
  next = summed n (with_more x (b + 1) v)

  ahead : (j : ℕ) → b + 1 ≤ j → noted_to next j ≡ x.total + v
  ahead j le = elim (dec_le (half_hour * j) n) [
    | yes h ↦ noted_there next j h ∙ ap (λ (k : ℕ). get_or (set x.noted (b + 1) (x.total + v)) k 0) {x = j} {y = b + 1} (omega (arith, i.ends))
        ∙ get_or-set_same x.noted (b + 1) (x.total + v) 0 (omega (arith, i.half, fits.places))
    | no h ↦ noted_total next j (omega arith)
  ]

  adds_on : (g : ℕ → ℕ) (a : Summed) → g s + v ≡ g n → Adds g a (summed s x) → Adds g a next
  adds_on g a e h j k = elim (dec_le (b + 1) j) [
    | yes le ↦
        let old : x.total ≡ noted_to a j + g s = omega (arith, noted_total (summed s x) j (omega (arith, i.on, i.ends))) ∙ h j k
        ∙ ap (λ (i : ℕ). noted_to a j + g i) {x = min s (half_hour * j)} {y = s} (omega (arith, i.on, i.ends)) in
        ahead j le ∙ omega (arith, old, e) ∙ ap (λ (i : ℕ). noted_to a j + g i) {x = n} {y = min n (half_hour * j)} (omega (arith, i.ends))
    | no lt ↦
        noted_there next j (omega (arith, i.begun, i.on)) ∙ get_or-set_other x.noted (b + 1) j (x.total + v) 0 (λ q. omega arith)
        ∙ omega (arith, noted_there (summed s x) j (omega (arith, i.begun))) ∙ h j k
        ∙ ap (λ (i : ℕ). noted_to a j + g i) {x = min s (half_hour * j)} {y = min n (half_hour * j)} (omega (arith, i.begun, i.on))
  ]

  pub noted_on : (g : ℕ → ℕ) {a : Summed} → g s + v ≡ g n → v ≤ (n - s) * twice_bound → Adds g a (summed s x) → Noted g a next
  noted_on g {a} e low h = record {
    adds = adds_on g a e h;
    fits = record { places = simp length-set fits.places; total = omega (arith, i.on, fits.total) };
  }

  pub total_fits : n ≤ most_seconds → v ≤ (n - s) * twice_bound → x.total + v < 2 ^ 64
  total_fits day low = omega (arith, i.on, fits.total)
