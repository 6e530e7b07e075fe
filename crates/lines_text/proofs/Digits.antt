-- The digits of a number are those that the library writes, and how many there are by its logarithm.
use Rattle.std.proofs.Common.{ℕ, ◌*◌, ◌+◌, ◌%◌, ◌^◌, ◌≤◌, ◌<◌, ◌≡◌, [], ◌∷◌, ◌++◌, length, ap, sym, ◌∙◌, add_comm, arith}
use Rattle.std.specs.Fmt.{decimal as printed}
use Rattle.std.proofs.lemmas.Fmt.{decimal_by_steps}
use Rattle.lines.specs.Text.{decimal}
use Rattle.lines.specs.Writing.{Measured}
use Rattle.lines.proofs.Decimals.{low_length, decimal_low, decimal_high, width_between, word_width}

-- what the library prints
pub as_printed : (v : ℕ) → v < 2 ^ 64 → printed v ≡ decimal v
as_printed v h =
    decimal_by_steps (λ n ds. ds ≡ decimal n) (λ n l. ap (λ (d : ℕ). d ∷ []) (omega arith) ∙ sym (decimal_low n l))
    (λ n ds l e. (λ i. e i ++ (add_comm 48 (n % 10) i ∷ [])) ∙ sym (decimal_high n l)) v h

pub of_log : (v k : ℕ) → v < 2 ^ 64 → 10 ^ k ≤ v → v < 10 * 10 ^ k → Measured (decimal v) 20 (k + 1)
of_log v k b l h =
    let is : k + 1 ≡ length (decimal v) = width_between k v l h in
    record { count_is = is; few = omega (arith, is, word_width v b) }

pub of_nought : (v : ℕ) → v ≡ 0 → Measured (decimal v) 20 1
of_nought v z = record { count_is = omega (arith, low_length v (omega arith)); few = omega arith }

pub ruleset widths = (of_log, of_nought)
