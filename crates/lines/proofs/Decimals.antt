-- Laws of `decimal`, of `laid`, of lines and of their widths.
use Prim.Native.Nat.{ℕ, zero, suc, ◌+◌, ◌*◌, ◌/◌, ◌%◌, ◌^◌, ◌<◌, ◌≤◌}
use mathlib.Core.Path.{◌≡◌, sym, ap, ◌∙◌}
use mathlib.Core.List.{List, [], ◌∷◌, ◌++◌}
use mathlib.Core.Bool.{true, false}
use native.Mathlib.Omega.{arith}
use native.Mathlib.Nat.{pow-succ'}
use lib.Dec.{ltb}
use lib.ListN.{length, length-append, length-drop}
use borrow.Author.Tests.{lt-ltb, le-ltb, ltb-true, ltb-false}
use Rattle.level.proofs.Lists.{by_bool}
use Rattle.lines.specs.Text.{digits, decimal, field, fields, line, laid}

-- `digits` is by `elim`, so that it computes at large numbers; `simp` does not look into an `elim`, so its two cases are these laws
pub digits_low : (f v : ℕ) → ltb v 10 ≡ true → digits (suc f) v ≡ (v + 48) ∷ []
unfolding digits
digits_low f v e = rw (e, digits)

pub digits_high : (f v : ℕ) → ltb v 10 ≡ false → digits (suc f) v ≡ digits f (v / 10) ++ ((v % 10 + 48) ∷ [])
unfolding digits
digits_high f v e = rw (e, digits)

-- more steps than the number change nothing
enough : (f g v : ℕ) → v < f → v < g → digits f v ≡ digits g v
enough zero g v p q = absurd (omega arith)
enough (suc f) zero v p q = absurd (omega arith)
enough (suc f) (suc g) v p q =
    by_bool (ltb v 10) (λ e. digits_low f v e ∙ sym (digits_low g v e))
    (λ e. let h : 10 ≤ v = ltb-false v 10 e in
    digits_high f v e ∙ (ap (λ (l : List ℕ). l ++ ((v % 10 + 48) ∷ [])) (enough f g (v / 10) (omega arith) (omega arith)) ∙ sym (digits_high g v e)))

pub decimal_low : (v : ℕ) → v < 10 → decimal v ≡ (v + 48) ∷ []
unfolding decimal
decimal_low v h = digits_low v v (lt-ltb v 10 h)

pub decimal_high : (v : ℕ) → 10 ≤ v → decimal v ≡ decimal (v / 10) ++ ((v % 10 + 48) ∷ [])
unfolding decimal
decimal_high v h =
    digits_high v v (le-ltb v 10 h) ∙ ap (λ (l : List ℕ). l ++ ((v % 10 + 48) ∷ [])) (enough v (suc (v / 10)) (v / 10) (omega arith) (omega arith))

-- ---- laid
pub laid_length : (xs o : List ℕ) → length xs ≤ length o → length (laid xs o) ≡ length o
laid_length xs o h = simp (length-append, length-drop) (omega arith)

-- ---- how many digits
pub low_length : (v : ℕ) → v < 10 → length (decimal v) ≡ 1
low_length v h = ap length (decimal_low v h)

pub high_length : (v : ℕ) → 10 ≤ v → length (decimal v) ≡ length (decimal (v / 10)) + 1
high_length v h = ap length (decimal_high v h) ∙ simp length-append

-- a number has a digit
pub decimal_some : (v : ℕ) → 1 ≤ length (decimal v)
decimal_some v = by_bool (ltb v 10) (λ e. omega (arith, low_length v (ltb-true v 10 e))) (λ e. omega (arith, high_length v (ltb-false v 10 e)))

-- ---- widths
-- a number below 10 to the k + 1 has at most k + 1 digits
pub decimal_width : (k v : ℕ) → v < 10 ^ suc k → length (decimal v) ≤ suc k
decimal_width zero v h = omega (arith, low_length v h)
decimal_width (suc k) v h =
    by_bool (ltb v 10) (λ e. omega (arith, low_length v (ltb-true v 10 e)))
    (λ e. let g : 10 ≤ v = ltb-false v 10 e in omega (
      arith,
      high_length v g,
      decimal_width k (v / 10) (omega (arith, rw (pow-succ' 10 (suc k)) at h)),
    ))

ten_some : (k : ℕ) → 1 ≤ 10 ^ k
ten_some zero = omega arith
ten_some (suc k) = omega (arith, pow-succ' 10 k, ten_some k)

-- a number from 10 to the k on has at least k + 1 digits
decimal_long : (k v : ℕ) → 10 ^ k ≤ v → suc k ≤ length (decimal v)
decimal_long zero v h = decimal_some v
decimal_long (suc k) v h =
    let g : 10 * 10 ^ k ≤ v = rw (pow-succ' 10 k) at h in
    let s : 1 ≤ 10 ^ k = ten_some k in
    omega (arith, high_length v (omega arith), decimal_long k (v / 10) (omega arith))

-- from 10 to the k on, and below 10 to the k + 1: just as many
pub width_between : (k v : ℕ) → 10 ^ k ≤ v → v < 10 * 10 ^ k → k + 1 ≡ length (decimal v)
width_between k v h g = omega (arith, decimal_long k v h, decimal_width k v (rw (pow-succ' 10 k) g))

-- a number of 64 bits has at most 20 digits
pub word_width : (v : ℕ) → v < 2 ^ 64 → length (decimal v) ≤ 20
word_width v h = decimal_width 19 v (omega arith)

-- the width of a line of one to four numbers
pub line_one : (letter a : ℕ) → length (line letter (a ∷ [])) ≡ length (decimal a) + 3
unfolding line fields field
line_one letter a = simp length-append (omega arith)

pub line_two : (letter a b : ℕ) → length (line letter (a ∷ b ∷ [])) ≡ length (decimal a) + length (decimal b) + 4
unfolding line fields field
line_two letter a b = simp length-append (omega arith)

pub line_three : (letter a b c : ℕ) → length (line letter (a ∷ b ∷ c ∷ [])) ≡ length (decimal a) + length (decimal b) + length (decimal c) + 5
unfolding line fields field
line_three letter a b c = simp length-append (omega arith)

pub line_four : (letter a b c d : ℕ) →
    length (line letter (a ∷ b ∷ c ∷ d ∷ [])) ≡ length (decimal a) + length (decimal b) + length (decimal c) + length (decimal d) + 6
unfolding line fields field
line_four letter a b c d = simp length-append (omega arith)
