-- A course from its beginning.
use Prim.Native.Nat.{ℕ, ◌-◌}
use mathlib.Core.Path.{◌≡◌, ap, sym, ◌∙◌}
use Rattle.records.specs.declared.UnitData.{UnitData}
use Rattle.course.specs.declared.Course.{Course}
use Rattle.course.specs.declared.Heading.{Heading}
use Rattle.course.specs.Course.{heading, trajectory_of, after, moment_at}
use Rattle.course.specs.Headings.{Short}
use Rattle.course.proofs.Rule.{at}
use Rattle.course.proofs.Whole.{short_start}
use Rattle.course_rates.specs.declared.Route.{Route}
use Rattle.course_rates.specs.Ways.{lists_in, route_of, target_of}
use Rattle.course_walk.specs.Walk.{moment_of, beginning, standing}

-- the route of a course
module _ (u : UnitData) (c : Course) (r : Route) (e : r ≡ route_of u c) where
  pub route_course : r.course ≡ c
  unfolding route_of
  route_course = ap (λ (x : Route). x.course) e

  pub route_own : r ≡ route_of u r.course
  route_own = e ∙ ap (route_of u) (sym route_course)

module _ (u : UnitData) (r : Route) (own : r ≡ route_of u r.course) where
  pub heading_is : heading (trajectory_of u r.course) ≡ r.heading
  unfolding heading trajectory_of route_of
  heading_is = sym (ap (λ (x : Route). x.heading) own)

  -- it begins short of its target
  pub begins_short : (a : ℕ) → Short r.heading (target_of r) (beginning r.course a).level
  unfolding trajectory_of beginning
  begins_short a = rw heading_is at (short_start (trajectory_of u r.course))

  -- the moment at the second n, where it began at the second a
  pub moment_is : (a n : ℕ) → moment_of (standing r.heading (lists_in u r.course) (target_of r) n (beginning r.course a))
      ≡ moment_at (trajectory_of u r.course) (n - a)
  unfolding trajectory_of beginning standing moment_at
  moment_is a n = ap (λ (h : Heading). after h (lists_in u r.course) (target_of r) (n - a) (at r.course.start.grains 0)) (sym heading_is)
