-- No level of a let-in day exceeds the short-term maximum, and so no quantity does.
use mathlib.Core.Path.{◌≡◌}
use mathlib.Core.List.{List, [], ◌∷◌, map}
use mathlib.Core.Bool.{◌&&◌, ◌||◌, not}
use Prim.Native.Nat.{ℕ, zero, suc, ◌*◌, ◌-◌, ◌^◌, ◌≤◌, ◌<◌}
use native.Mathlib.Nat.{mul-le-mul_right}
use native.Mathlib.Decide.{dec_le}
use native.Mathlib.Omega.{arith}
use lib.Dec.{ltb, eqb}
use Rattle.level.proofs.Lists.{by_bool}
use Rattle.level.specs.Level.{grains}
use Rattle.level.specs.Lists.{All, sum}
use Rattle.level.specs.Numbers.{half_hour, most_half_hours}
use Rattle.level.specs.Bounds.{most_seconds}
use Rattle.records.specs.declared.Effect.{Effect}
use Rattle.records.specs.declared.Effect.TheVariants.{Trip, Mwof, Mxon, Sync, Mxof, Desy, Fail}
use Rattle.records.specs.declared.UnitData.{UnitData}
use Rattle.records.specs.declared.Instruction.{Instruction}
use Rattle.course.specs.declared.Course.{Course}
use Rattle.course.specs.Lists.{column_for}
use Rattle.course.specs.Course.{Trajectory, trajectory_of, level_at}
use Rattle.course.proofs.Between.{level_below}
use Rattle.validation.specs.declared.Numbered.{Numbered}
use Rattle.validation.specs.Kept.{acting}
use Rattle.profile.specs.declared.UnderWay.{UnderWay}
use Rattle.profile.specs.declared.State.{State}
use Rattle.profile.specs.State.{by_rule}
use Rattle.profile.specs.declared.Setting.{Setting}
use Rattle.std.specs.Prelude.{Some}
use Rattle.std.proofs.lemmas.Option.{none-some}
use Rattle.profile.specs.declared.Start.{Start}
use Rattle.profile.specs.Effects.{outcome_by, mwof_target, sync_target, stepped, course_from, under_way, start_course, begun, goes_on, replaces, state_at, follow}
use Rattle.profile.specs.Profile.{Span, spans_of, in_force, level_starting, level_ending, recorded_twice, recorded_to, recorded_in, rounded, course_of}
use Rattle.profile.proofs.Following.{unless_sets, follow_ind}
use Rattle.profile.proofs.States.{rule_level}
use Rattle.profile.proofs.Areas.{in_here, in_rest}

-- a course that starts and ends at or below m kW
pub record Below (m : ℕ) (c : Course) : Type 0 where
  pub start : c.start.grains ≤ grains m
  pub target : c.target ≤ m

-- the course under way, and what MXOF would go back to
pub record WayBelow (m : ℕ) (w : UnderWay) : Type 0 where
  pub course : Below m w.course
  pub ordered : w.ordered ≤ m

-- what is set starts and ends at or below m kW
pub record SettingBelow (m : ℕ) (g : Setting) : Type 0 where
  pub from : g.from ≤ grains m
  pub target : g.target ≤ m
  pub ordered : g.ordered ≤ m

step_below : (m block target v : ℕ) → v ≤ grains m → target ≤ m → stepped block (grains target) v ≤ grains m
unfolding stepped grains
step_below m block target v p q = by_bool (eqb v 0 && ltb 0 (60 * target)) (λ e. simp e (omega arith)) (λ e. simp e (omega arith))

way_below : (u : UnitData) (begin : ℕ) (g : Setting) (off m : ℕ) → SettingBelow m g → WayBelow m (under_way u begin g off)
unfolding under_way course_from
way_below u begin g off m b = record {
  course = record {
    start = step_below m (grains (column_for u g.heat).block) g.target g.from b.from b.target;
    target = b.target;
  };
  ordered = b.ordered;
}

-- m kW is at least the capacity and the short-term maximum
module _ (u : UnitData) (m : ℕ) (capacity : u.capacity ≤ m) (maximum : u.maximum ≤ m) where
  -- whatever an instruction sets
  outcome_below : (now : UnderWay) (i : Instruction) (s : State) (e : Effect) (g : Setting) → now.ordered ≤ m → s.level ≤ grains m →
      outcome_by u now i s e ≡ Some g → SettingBelow m g
  unfolding outcome_by mwof_target sync_target
  outcome_below now i s Trip g o v e =
      unless_sets (SettingBelow m) (eqb s.level 0) _ g e (record { from = omega arith; target = omega arith; ordered = o })
  outcome_below now i s Mwof g o v e =
      unless_sets (SettingBelow m) (eqb s.level 0 && eqb i.level 0) _ g e (record { from = v; target = omega arith; ordered = omega arith })
  outcome_below now i s Mxon g o v e =
      unless_sets (SettingBelow m) (eqb s.level 0 || now.maximised) _ g e (record { from = v; target = maximum; ordered = o })
  outcome_below now i s Sync g o v e =
      unless_sets (SettingBelow m) (ltb 0 s.level) _ g e (record { from = v; target = omega arith; ordered = omega arith })
  outcome_below now i s Mxof g o v e = unless_sets (SettingBelow m) (not now.maximised) _ g e (record { from = v; target = o; ordered = o })
  outcome_below now i s Desy g o v e = unless_sets (SettingBelow m) (eqb s.level 0) _ g e (record { from = v; target = omega arith; ordered = o })
  outcome_below now i s Fail g o v e = absurd (none-some g e)

  -- the level just before lies below where the course does
  state_below : (now : UnderWay) (t : ℕ) → WayBelow m now → (state_at by_rule u now t).level ≤ grains m
  unfolding state_at trajectory_of grains
  state_below now t b =
      let c : Trajectory = trajectory_of u now.course in
      omega (
        arith,
        rule_level c now.off (t - now.course.begin),
        level_below c (grains m) (t - now.course.begin) b.course.start (omega (arith, b.course.target)),
      )

  pub courses_below : (now : UnderWay) (os : List Numbered) → WayBelow m now → All (Below m) (map course_of (follow by_rule u now os).courses)
  courses_below = follow_ind by_rule u (λ now os f. WayBelow m now → All (Below m) (map course_of f.courses))
      (λ now b. (b.course, tt))
      (λ now o os f e more b. unfold goes_on in more b)
      (λ now o os g f e more b. unfold replaces begun in (
        b.course,
        more (way_below u (acting o) g (state_at by_rule u now (acting o)).off m
            (outcome_below now o.instruction (state_at by_rule u now (acting o)) o.instruction.meaning.effect g b.ordered
            (state_below now (acting o) b) e)),
      ))

  pub start_below : (s : Start) → s.level ≤ grains m → s.target ≤ m → s.ordered ≤ m → WayBelow m (start_course u s)
  unfolding start_course
  start_below s p q r = way_below u 0 _ s.off m (record { from = p; target = q; ordered = r })

-- ---- the levels of a day
abbrev pub SpanBelow : ℕ → Span → Type 0
SpanBelow m s = (s.trajectory.start ≤ m) × (s.trajectory.target ≤ m)

pub spans_below : (u : UnitData) (end m : ℕ) (cs : List Course) → All (Below m) cs → All (SpanBelow (grains m)) (spans_of u end cs)
unfolding spans_of trajectory_of grains
spans_below u end m [] b = tt
spans_below u end m (c ∷ cs) b = ((b.0.start, omega (arith, b.0.target)), spans_below u end m cs b.1)

force_below : (f : ℕ → ℕ) (m : ℕ) (ss : List Span) → All (SpanBelow m) ss → (t : ℕ) → in_force (λ c k. level_at c (f k)) ss t ≤ m
unfolding in_force
force_below f m [] b t = omega arith
force_below f m (s ∷ ss) b t = elim (dec_le (suc t) s.end) [
  | yes p ↦ rw (in_here s ss (λ c k. level_at c (f k)) t p) (level_below s.trajectory m (f (t - s.begin)) b.0.0 b.0.1)
  | no p ↦ rw (in_rest s ss (λ c k. level_at c (f k)) t (omega arith)) (force_below f m ss b.1 t)
]

module _ (m : ℕ) (ss : List Span) (b : All (SpanBelow m) ss) where
  pub starting_below : (t : ℕ) → level_starting ss t ≤ m
  unfolding level_starting
  starting_below t = force_below (λ k. k) m ss b t

  pub ending_below : (t : ℕ) → level_ending ss t ≤ m
  unfolding level_ending
  ending_below t = force_below (λ k. suc k) m ss b t

  -- twice the recorded area of n seconds is at most n times twice the largest level
  pub recorded_below : (a n : ℕ) → recorded_twice ss a n ≤ n * (2 * m)
  unfolding recorded_twice sum
  recorded_below a zero = omega arith
  recorded_below a (suc n) = omega (arith, starting_below a, ending_below a, recorded_below (suc a) n)

-- a half-hour of at most that area rounds to at most that many kW
pub rounded_below : (x m : ℕ) → x ≤ half_hour * (2 * grains m) → rounded x ≤ m
unfolding rounded grains
rounded_below x m h = omega arith

pub quantity_below : (m : ℕ) (ss : List Span) → All (SpanBelow (grains m)) ss → (i : ℕ) → rounded (recorded_in ss i) ≤ m
unfolding recorded_in
quantity_below m ss b i = rounded_below (recorded_twice ss (half_hour * i) half_hour) m (recorded_below (grains m) ss b (half_hour * i) half_hour)

-- twice the recorded area of any day whose figures fit 32 bits, from 0 to any boundary of its n half-hours
pub sum_below : (m : ℕ) (ss : List Span) → All (SpanBelow (grains m)) ss → (b : ℕ) → recorded_to ss b ≤ half_hour * b * (2 * grains m)
unfolding recorded_to
sum_below m ss w b = recorded_below (grains m) ss w 0 (half_hour * b)

-- the half-hours of the longest day, of levels below 2 ^ 32 kW: below 2 ^ 56 grain-seconds, so that a sum fits 64 bits
pub sum_fits : (ss : List Span) → All (SpanBelow (grains (2 ^ 32))) ss → (b : ℕ) → b ≤ most_half_hours → recorded_to ss b < 2 ^ 56
unfolding grains
sum_fits ss w b h = omega (arith, sum_below (2 ^ 32) ss w b, mul-le-mul_right {m = half_hour * b} {n = most_seconds} (2 * (60 * 2 ^ 32)) (omega arith))
