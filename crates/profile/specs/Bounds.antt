-- Working. What the theorems ask of a start.
use Rattle.std.specs.Prelude.{◌≤◌}
use Rattle.level.specs.Level.{grains}
use Rattle.records.specs.declared.UnitData.{UnitData}
use Rattle.profile.specs.declared.Start.{Start}

-- what a start keeps to on its unit: no level above the short-term maximum, and a heat that is one
pub record Low (u : UnitData) (s : Start) : Type 0 where
  pub level : s.level ≤ grains u.maximum
  pub target : s.target ≤ u.maximum
  pub ordered : s.ordered ≤ u.maximum
  pub heat : s.heat ≤ 3
