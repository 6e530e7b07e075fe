-- The routes of one course after another of a unit: in the next one's only its course, heading, column and ramp are others.
use Prim.Native.Nat.{ℕ}
use mathlib.Core.Path.{◌≡◌, refl}
use lib.ListN.{get_or}
use Rattle.records.specs.declared.Ramp.{Ramp}
use Rattle.records.specs.declared.UnitData.{UnitData}
use Rattle.course.specs.declared.Course.{Course}
use Rattle.course.specs.declared.Heading.{Heading}
use Rattle.course.specs.Lists.{no_column, place_of, column_for}
use Rattle.course_rates.specs.declared.Route.{Route}
use Rattle.course_rates.specs.Ways.{ramp_for, route_with}

-- what the routes of all courses of a unit have in common
pub record Shared (u : UnitData) (r : Route) : Type 0 where
  pub msg : r.msg ≡ u.msg
  pub dwells : r.dwells ≡ u.dwells
  pub deload : r.deload ≡ u.deload

-- such a route with another course on this heading, the unit's column at a place, and a ramp
abbrev pub set_anew : UnitData → Route → Course → Heading → ℕ → Ramp → Route
set_anew u r c h at ramp = record {
  course = c;
  heading = h;
  msg = r.msg;
  column = get_or u.columns at no_column;
  ramp = ramp;
  dwells = r.dwells;
  deload = r.deload;
}

module _ (u : UnitData) (r : Route) where
  pub shared_own : (c : Course) (h : Heading) → r ≡ route_with u c h → Shared u r
  shared_own c h e = rw e (record { msg = refl; dwells = refl; deload = refl })

  pub shared_anew : (c : Course) (h : Heading) (at : ℕ) (ramp : Ramp) → Shared u r → Shared u (set_anew u r c h at ramp)
  shared_anew c h at ramp s = record { msg = s.msg; dwells = s.dwells; deload = s.deload }

  -- with the column and the ramp of a course it is that course's own
  pub own_anew : (c : Course) (h : Heading) (at : ℕ) (ramp : Ramp) → Shared u r → at ≡ place_of c.heat → ramp ≡ ramp_for u h →
      set_anew u r c h at ramp ≡ route_with u c h
  unfolding column_for
  own_anew c h at ramp s e p =
      λ i. record { course = c; heading = h; msg = s.msg i; column = get_or u.columns (e i) no_column; ramp = p i; dwells = s.dwells i; deload = s.deload i }
