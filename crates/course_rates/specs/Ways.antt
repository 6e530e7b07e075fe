-- Working. A course as the code goes along it.
use Rattle.std.specs.Prelude.{ℕ, ◌<◌, ◌≡◌, Bool, List, map, leb, ltb}
use Rattle.level.specs.Choice.{pick}
use Rattle.level.specs.Lists.{those}
use Rattle.level.specs.Level.{grains}
use Rattle.level.specs.Bounds.{level_bound}
use Rattle.records.specs.declared.Trigger.{Trigger}
use Rattle.records.specs.declared.Ramp.{Ramp}
use Rattle.records.specs.declared.UnitData.{UnitData}
use Rattle.course.specs.declared.Course.{Course}
use Rattle.course.specs.declared.Heading.{Heading}
use Rattle.course.specs.declared.Heading.TheVariants.{Rising, Falling}
use Rattle.course.specs.Lists.{Lists, rates_of, in_grains, column_for, replaced, lists_of}
use Rattle.course_rates.specs.declared.Route.{Route}

-- so many kW in grains
pub record GrainsOf (kw r : ℕ) : Type 0 where
  pub is : r ≡ grains kw
  pub low : r < level_bound

-- the heading of a course
abbrev pub heading_of : Course → Heading
heading_of c = pick (ltb c.start.grains (grains c.target)) Rising Falling

-- the lists that a course goes by
abbrev pub lists_in : UnitData → Course → Lists
lists_in u c = lists_of u c.heat c.up c.down

-- the ramp of a heading
abbrev pub ramp_for : UnitData → Heading → Ramp
ramp_for u Rising = u.up
ramp_for u Falling = u.down

-- a course with the part of a unit that it uses: the column of its heat, the ramp of its heading, dwells, deload
abbrev pub route_with : UnitData → Course → Heading → Route
route_with u c h = record {
  course = c;
  heading = h;
  msg = u.msg;
  column = column_for u c.heat;
  ramp = ramp_for u h;
  dwells = u.dwells;
  deload = u.deload;
}

unfoldable pub route_of : UnitData → Course → Route
route_of u c = route_with u c (heading_of c)

-- where it goes to
abbrev pub target_of : Route → ℕ
target_of r = grains r.course.target

-- the same lists from that part alone: the one ramp stands in both places, and a heading looks only at its own
unfoldable pub lists_by : Route → Lists
lists_by r = record {
  msg = grains r.msg;
  column = rates_of r.column.rates r.column.breaks;
  soaks = map in_grains r.column.soaks;
  up = rates_of (replaced r.course.up r.ramp.rates) r.ramp.breaks;
  dwells = map in_grains r.dwells;
  down = rates_of (replaced r.course.down r.ramp.rates) r.ramp.breaks;
  deload = rates_of r.deload.rates r.deload.breaks;
}

-- whether a level v has passed a break (kW)
abbrev pub has_passed : Heading → ℕ → ℕ → Bool
has_passed Rising v b = leb (grains b) v
has_passed Falling v b = ltb (grains b) v

-- the levels (grains) of the triggers that have minutes
unfoldable pub timed_levels : List Trigger → List ℕ
timed_levels gs = map (λ (g : Trigger). grains g.level) (those (λ g. ltb 0 g.minutes) gs)
