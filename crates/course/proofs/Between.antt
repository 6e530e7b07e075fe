-- The level of a course stays between start and target and never turns.
use Prim.Native.Nat.{ℕ, suc, ◌≤◌, ◌<◌}
use native.Mathlib.Decide.{dec_le}
use native.Mathlib.Omega.{arith}
use Rattle.course.proofs.Segments.{recorded_mono, recorded_top}
use Rattle.course.specs.Course.{Trajectory, gap, level_at, distance, segments}
use Rattle.course.proofs.Whole.{level_up, level_down, ways_within}

module _ (c : Trajectory) where
  -- rising: from the start up to the target, and no second lower than the one before
  pub rises_between : c.start < c.target → (k : ℕ) → (c.start ≤ level_at c k) × (level_at c k ≤ c.target)
  unfolding distance gap
  rises_between p k = omega (arith, level_up c p k, recorded_top (segments c) k, ways_within c)

  pub never_falls : c.start < c.target → (j k : ℕ) → j ≤ k → level_at c j ≤ level_at c k
  never_falls p j k h = omega (arith, level_up c p j, level_up c p k, recorded_mono (segments c) j k h)

  -- falling, or at rest: from the start down to the target, and no second higher than the one before
  pub falls_between : c.target ≤ c.start → (k : ℕ) → (c.target ≤ level_at c k) × (level_at c k ≤ c.start)
  unfolding distance gap
  falls_between p k = omega (arith, level_down c p k, recorded_top (segments c) k, ways_within c)

  pub never_rises : c.target ≤ c.start → (j k : ℕ) → j ≤ k → level_at c k ≤ level_at c j
  never_rises p j k h = omega (arith, level_down c p j, level_down c p k, recorded_mono (segments c) j k h)

  -- no level is above both
  pub level_below : (m k : ℕ) → c.start ≤ m → c.target ≤ m → level_at c k ≤ m
  level_below m k a b = elim (dec_le (suc c.start) c.target) [
    | yes p ↦ omega (arith, rises_between p k)
    | no p ↦ omega (arith, falls_between (omega arith) k)
  ]
