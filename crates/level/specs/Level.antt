-- Believed: document 01, Units and records. Levels inside are grains.
use Rattle.std.specs.Prelude.{ℕ, ◌*◌}
use Rattle.level.specs.declared.Level.{Level}

-- "1 kW = 60 grains"
unfoldable pub grains : ℕ → ℕ
grains kw = 60 * kw

-- the level of so many kW
unfoldable pub from_kw : ℕ → Level
from_kw kw = record { grains = grains kw }
