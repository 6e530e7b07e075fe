-- Working. Along a course with the running sum of twice its area, which is noted at each half-hour boundary.
use Rattle.std.specs.Prelude.{ℕ, ◌+◌, ◌*◌, ◌-◌, ◌/◌, min, ◌≤◌, ◌<◌, ◌≡◌, leb, length, get_or}
use Rattle.level.specs.Choice.{pick}
use Rattle.level.specs.Numbers.{half_hour, most_half_hours, boundary_places}
use Rattle.level.specs.Bounds.{most_seconds, level_bound}
use Rattle.records.specs.declared.UnitData.{UnitData}
use Rattle.course.specs.Lists.{Lists}
use Rattle.course.specs.declared.Heading.{Heading}
use Rattle.course.specs.declared.Heading.TheVariants.{Rising, Falling}
use Rattle.course.specs.Course.{toward, gap, moment_at, trajectory_of}
use Rattle.course.specs.Headings.{Short, Along}
use Rattle.profile.specs.State.{watch}
use Rattle.course_rates.specs.declared.Route.{Route}
use Rattle.course_walk.specs.declared.Place.{Place}
use Rattle.course_walk.specs.declared.Reached.{Reached}
use Rattle.course_rates.specs.Ways.{target_of, route_of, lists_by}
use Rattle.course_walk.specs.Walk.{moment_of, Known, onward, standing, twice_to}
use Rattle.profile_areas.specs.declared.Sums.{Sums}
use Rattle.profile_areas.specs.declared.Passed.{Passed}

-- ---- sums

-- the sums of a day, and the second that they go up to
pub record Summed : Type 0 where
  pub second : ℕ
  pub sums : Sums

abbrev pub summed : ℕ → Sums → Summed
summed s x = record { second = s; sums = x }

-- up to the boundary j: what is noted there, or the total where the boundary is not reached yet
unfoldable pub noted_to : Summed → ℕ → ℕ
noted_to a j = pick (leb (half_hour * j) a.second) (get_or a.sums.noted j 0) a.sums.total

-- from a to b the sums up to each boundary have grown by f, which tells how much lies before a second
abbrev pub Adds : (ℕ → ℕ) → Summed → Summed → Type 0
Adds f a b = (j : ℕ) → j ≤ most_half_hours → noted_to b j ≡ noted_to a j + f (min b.second (half_hour * j))

-- twice the area of one second lies below this
abbrev pub twice_bound : ℕ
twice_bound = 2 * level_bound

-- a place for each boundary, and a total that so many seconds may come to
pub record SumsFit (a : Summed) : Type 0 where
  pub places : length a.sums.noted ≡ boundary_places
  pub total : a.sums.total ≤ a.second * twice_bound

-- the sums a have become b: they have grown by f, and fit
pub record Noted (f : ℕ → ℕ) (a b : Summed) : Type 0 where
  pub adds : Adds f a b
  pub fits : SumsFit b

-- ---- straight lines

-- twice the area of k seconds along a straight line, from the level v on by r a second
unfoldable pub line_twice : Heading → ℕ → ℕ → ℕ → ℕ
line_twice h v r k = k * (v + toward h v (k * r))

-- of such a line that begins at a second, up to the second i
abbrev pub line_from : Heading → ℕ → ℕ → ℕ → ℕ → ℕ
line_from h v r from i = line_twice h v r (i - from)

-- all the way while it moves by m the level v is one of 32 bits of kW
abbrev pub StaysLow : Heading → ℕ → ℕ → Type 0
StaysLow Rising v m = v + m < level_bound
StaysLow Falling v m = (m ≤ v) × (v < level_bound)

-- from p to q the level goes straight, by so much a second
pub record Straight (h : Heading) (p q : Place) : Type 0 where
  pub rate : ℕ
  pub along : Along h p.level ((q.second - p.second) * rate) q.level

-- the line from p to q, and its rate
abbrev pub piece_rate : Place → Place → ℕ
piece_rate p q = gap p.level q.level / (q.second - p.second)

abbrev pub piece_from : Heading → Place → Place → ℕ → ℕ
piece_from h p q = line_from h p.level (piece_rate p q) p.second

-- ---- what going on asks for: a second of the day that is no earlier, levels below the bound, and sums that fit

-- along a line
pub record LineAhead (h : Heading) (level rate from to : ℕ) (a : Summed) : Type 0 where
  pub later : from < to
  pub within : to ≤ most_seconds
  pub low : StaysLow h level ((to - from) * rate)
  pub fits : SumsFit a

-- along a straight piece
pub record PieceAhead (h : Heading) (p q : Place) (a : Summed) : Type 0 where
  pub straight : p.second < q.second → Straight h p q
  pub later : p.second ≤ q.second
  pub within : q.second ≤ most_seconds
  pub low : p.level < level_bound
  pub low_too : q.level < level_bound
  pub fits : SumsFit a

-- along a course, from where it was reached towards the second n
pub record CourseAhead (r : Route) (from : Reached) (n : ℕ) (a : Summed) : Type 0 where
  pub later : from.place.second ≤ n
  pub within : n ≤ most_seconds
  pub low : from.place.level < level_bound
  pub short : Short r.heading (target_of r) from.place.level
  pub known : Known r.heading (lists_by r) (target_of r) from
  pub fits : SumsFit a

-- ---- courses

-- twice the area of a course from the place p on
abbrev pub AddsOn : Heading → Lists → ℕ → Place → Summed → Summed → Type 0
AddsOn h l t p a b = Adds (λ i. twice_to h l t i p) a b

-- where a course of the unit u stands on its route, which began with so many seconds off: the place p, and the seconds off there
pub record Watching (u : UnitData) (r : Route) (before : ℕ) (p : Place) (off : ℕ) : Type 0 where
  pub own : r ≡ route_of u r.course
  pub begun : r.course.begin ≤ p.second
  pub short : Short r.heading (target_of r) p.level
  pub moment : moment_of p ≡ moment_at (trajectory_of u r.course) (p.second - r.course.begin)
  pub off_is : off ≡ (watch (trajectory_of u r.course) before (p.second - r.course.begin)).off

-- what has been passed on the way from a place towards the second n, up to where the course is reached, which lies before n unless the way
-- began there: the sums a have become x
pub record PassProgress (r : Route) (from : Place) (before n : ℕ) (a : Summed) (x : Sums) (at : Reached) (off : ℕ) : Type 0 where
  pub adds : AddsOn r.heading (lists_by r) (target_of r) from a (summed at.place.second x)
  pub fits : SumsFit (summed at.place.second x)
  pub known : Known r.heading (lists_by r) (target_of r) at
  pub later : from.second ≤ at.place.second
  pub within : at.place.second ≤ n
  pub ends_before : from.second < n → at.place.second < n
  pub short : Short r.heading (target_of r) at.place.level
  pub low : at.place.level < level_bound
  pub stands : at.place ≡ standing r.heading (lists_by r) (target_of r) at.place.second from
  pub watched : (u : UnitData) (b : ℕ) → Watching u r b from before → Watching u r b at.place off

-- what has come of going on past every piece that ends before the second n, with the place at n
pub record Passing (r : Route) (from : Place) (before n : ℕ) (a : Summed) (x : Sums) (s : Passed) : Type 0 where
  pub progress : PassProgress r from before n a x s.reached s.off
  pub runs : s.reached.place.second < n → s.ahead ≡ onward r.heading (lists_by r) (target_of r) n s.reached.place
  pub there : s.ahead.second ≡ n
  pub ahead_low : s.ahead.level < level_bound
  pub watched : (u : UnitData) (b : ℕ) → Watching u r b from before → Watching u r b s.ahead s.later
