-- Believed: document 01, A course, second by second (demand 3). Where each course starts.
use Rattle.std.specs.Prelude.{ℕ, ◌-◌, ◌≤◌, min, ◌≡◌, List, [], ◌∷◌, Bool, ◌&&◌, eqb}
use Rattle.level.specs.Choice.{pick}
use Rattle.level.specs.Level.{grains}
use Rattle.level.specs.Lists.{some}
use Rattle.records.specs.declared.Effect.TheVariants.{Trip}
use Rattle.records.specs.declared.UnitData.{UnitData}
use Rattle.records.specs.Codes.{same}
use Rattle.course.specs.declared.Course.{Course}
use Rattle.course.specs.Lists.{column_for}
use Rattle.course.specs.Course.{trajectory_of, level_at}
use Rattle.validation.specs.declared.Numbered.{Numbered}
use Rattle.validation.specs.Kept.{effect_of, acting}

-- one of those that act at the second t is a TRIP
unfoldable pub trip_among : List Numbered → ℕ → Bool
trip_among os t = some (λ (o : Numbered). eqb (acting o) t && same (effect_of o) Trip) os

-- the course c starts from the level v
pub record StartsFrom (u : UnitData) (v : ℕ) (c : Course) : Type 0 where
  pub there : 1 ≤ v → c.start.grains ≡ v
  -- "At level 0 with a target above 0 the level goes at once to the smaller of block load and target"
  pub step : v ≡ 0 → 1 ≤ c.target → c.start.grains ≡ min (grains (column_for u c.heat).block) (grains c.target)
  pub still : v ≡ 0 → c.target ≡ 0 → c.start.grains ≡ 0

-- each of some courses starts from the level recorded where the one before ends, p before the first of them; "TRIP: level 0 at that second"
abbrev pub StartsAfter : UnitData → List Numbered → Course → List Course → Type 0
StartsAfter u os p [] = Unit {0}
StartsAfter u os p (c ∷ cs) =
    StartsFrom u (pick (trip_among os c.begin) 0 (level_at (trajectory_of u p) (c.begin - p.begin))) c × StartsAfter u os c cs

-- the first starts from the level v
abbrev pub CoursesStart : UnitData → List Numbered → ℕ → List Course → Type 0
CoursesStart u os v [] = Unit {0}
CoursesStart u os v (c ∷ cs) = StartsFrom u v c × StartsAfter u os c cs
