-- Working. The quantities of a day by the sums at its half-hour boundaries.
use Rattle.std.specs.Prelude.{ℕ, List, Bool, ltb}
use Rattle.level.specs.Lists.{some, list_from}
use Rattle.profile.specs.Finding.{quantity_at}

-- "27 at close, a quantity above the short-term maximum", by the sums at the boundaries, of the first n half-hours.
-- The working twin of `quantity_too_high` (day/specs/Step), to which `too_high_is` (day_close/proofs/Whole) equates it.
unfoldable pub some_above : ℕ → List ℕ → ℕ → Bool
some_above most sums n = some (λ q. ltb most q) (list_from (quantity_at sums) 0 n)
