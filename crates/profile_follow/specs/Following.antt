-- Working. The instructions that act, followed from one course to the next along the day.
use Rattle.std.specs.Prelude.{ℕ, suc, ◌+◌, ◌*◌, min, ◌≤◌, ◌<◌, ◌≡◌, List, [], ◌∷◌, map, length, take, drop}
use Rattle.level.specs.Lists.{All, list_from, filled}
use Rattle.level.specs.Numbers.{half_hour, most_half_hours, boundary_places, instruction_places}
use Rattle.level.specs.Bounds.{level_bound}
use Rattle.records.specs.declared.UnitData.{UnitData}
use Rattle.course.specs.declared.Course.{Course}
use Rattle.validation.specs.declared.Numbered.{Numbered}
use Rattle.validation.specs.Kept.{acting}
use Rattle.profile.specs.declared.UnderWay.{UnderWay}
use Rattle.profile.specs.declared.State.{State}
use Rattle.profile.specs.State.{by_rule}
use Rattle.profile.specs.Effects.{follow, state_at}
use Rattle.profile.specs.Profile.{begin_of, spans_of, course_of, last_of}
use Rattle.profile.specs.Twin.{pieces_to, twin_to}
use Rattle.course_rates.specs.declared.Route.{Route}
use Rattle.course_rates.specs.Ways.{target_of, route_of, lists_by}
use Rattle.course_walk.specs.declared.Place.{Place}
use Rattle.course_walk.specs.Walk.{reached_at, Known, beginning, twice_to}
use Rattle.profile_areas.specs.Watching.{off_starting}
use Rattle.profile_areas.specs.declared.Sums.{Sums}
use Rattle.profile_areas.specs.declared.Passed.{Passed}
use Rattle.profile_areas.specs.Passing.{Summed, summed, Watching}
use Rattle.profile_follow.specs.declared.Walk.{Walk}
use Rattle.profile_follow.specs.declared.OnCourse.{OnCourse}
use Rattle.profile_follow.specs.declared.FollowedDay.{FollowedDay}
use Rattle.profile_follow.specs.Walk.{walk_all}

-- a course at its beginning
unfoldable pub set_out : UnitData → UnderWay → OnCourse
set_out u now =
    let r : Route = route_of u now.course in
    record {
      route = r;
      reached = reached_at r.heading (lists_by r) (target_of r) (beginning now.course now.course.begin);
      off = off_starting now.course now.off;
    }

-- the same course further on
abbrev pub went_to : OnCourse → Passed → OnCourse
went_to g s = record { route = g.route; reached = s.reached; off = s.off }

-- the day summed up to where it is reached
abbrev pub sums_at : OnCourse → Sums → Summed
sums_at g x = summed g.reached.place.second x

-- where the first of those left acts, else the day's end
abbrev pub second_of : ℕ → List Numbered → ℕ
second_of end [] = end
second_of end (o ∷ os) = acting o

-- those that act from the second a on, one after another, none after the day's end
abbrev pub Ordered : ℕ → ℕ → List Numbered → Type 0
Ordered end a [] = a ≤ end
Ordered end a (o ∷ os) = (a ≤ acting o) × Ordered end (acting o) os

abbrev pub LowStart : Course → Type 0
LowStart c = c.start.grains < level_bound

-- the courses from the one under way on
unfoldable pub courses_from : UnitData → UnderWay → List Numbered → List Course
courses_from u now os = map course_of (follow by_rule u now os).courses

-- those after it, and where it ends
unfoldable pub courses_after : UnitData → UnderWay → List Numbered → List Course
courses_after u now os = drop 1 (courses_from u now os)

abbrev pub end_of : UnitData → ℕ → UnderWay → List Numbered → ℕ
end_of u end now os = begin_of end (courses_after u now os)

-- the course under way is where its rule says
pub record OnIt (u : UnitData) (now : UnderWay) (g : OnCourse) : Type 0 where
  pub course : g.route.course ≡ now.course
  pub watching : Watching u g.route now.off g.reached.place g.off
  pub known : Known g.route.heading (lists_by g.route) (target_of g.route) g.reached
  pub low : g.reached.place.level < level_bound

-- twice the area of a route from a place on, to the second n
abbrev pub twice_on : Route → ℕ → Place → ℕ
twice_on r n p = twice_to r.heading (lists_by r) (target_of r) n p

-- twice the area to come, up to the boundary j
unfoldable pub sum_after : UnitData → ℕ → UnderWay → OnCourse → List Numbered → ℕ → ℕ
sum_after u end now g os j =
    twice_on g.route (min (end_of u end now os) (half_hour * j)) g.reached.place + pieces_to (spans_of u end (courses_after u now os)) (half_hour * j)

-- the last course
abbrev pub last_in : UnitData → UnderWay → List Numbered → UnderWay
last_in u first os = last_of first (follow by_rule u first os).courses

-- what following asks of those that act, in a day of so many half-hours
pub record Followable (u : UnitData) (first : UnderWay) (acts : List Numbered) (halves : ℕ) : Type 0 where
  pub few : length acts ≤ instruction_places
  pub long : halves ≤ most_half_hours
  pub ordered : Ordered (half_hour * halves) first.course.begin acts
  pub starts : All LowStart (courses_from u first acts)

-- the day's end: of the sums those up to its last boundary
unfoldable pub ended : Walk → List ℕ → State → ℕ → FollowedDay
ended w xs s halves = record { walk = w; sums = filled boundary_places 0 (take (suc halves) xs); end = s }

-- what has come of following them to the day's end
pub record FollowedBy (u : UnitData) (first : UnderWay) (os : List Numbered) (halves : ℕ) (r : FollowedDay) : Type 0 where
  pub walk : r.walk ≡ walk_all u first os
  pub sums : r.sums ≡ filled boundary_places 0 (list_from (twin_to (spans_of u (half_hour * halves) (courses_from u first os))) 0 (suc halves))
  pub end : r.end ≡ state_at by_rule u (last_in u first os) (half_hour * halves)
