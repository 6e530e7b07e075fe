-- Believed: document 01, A course, second by second. Levels are grains, rates grains a second, times seconds.
use Rattle.std.specs.Prelude.{ℕ, zero, suc, ◌+◌, ◌*◌, ◌-◌, min, max, List, [], ◌∷◌, ◌++◌, map, Bool, ◌&&◌, leb, ltb, eqb, length, get_or}
use Rattle.level.specs.Choice.{pick}
use Rattle.level.specs.Lists.{those}
use Rattle.level.specs.Level.{grains}
use Rattle.course.specs.declared.Heading.{Heading}
use Rattle.course.specs.declared.Heading.TheVariants.{Rising, Falling}
use Rattle.course.specs.declared.Segment.{Segment}
use Rattle.records.specs.declared.Trigger.{Trigger}
use Rattle.records.specs.declared.UnitData.{UnitData}
use Rattle.course.specs.declared.Course.{Course}
use Rattle.course.specs.Lists.{Rates, Lists, lists_of}

-- a course's trajectory: from where, to where, by which lists
pub record Trajectory : Type 0 where
  pub start : ℕ
  pub target : ℕ
  pub lists : Lists

unfoldable pub trajectory_of : UnitData → Course → Trajectory
trajectory_of u c = record { start = c.start.grains; target = grains c.target; lists = lists_of u c.heat c.up c.down }

-- what a place for a course holds that none has taken
abbrev pub no_course : Course
no_course = record { begin = 0; start = record { grains = 0 }; target = 0; heat = 0; up = 0; down = 0 }

unfoldable pub heading : Trajectory → Heading
heading c = pick (ltb c.start c.target) Rising Falling

-- the level v moved by m in the heading's direction
unfoldable pub toward : Heading → ℕ → ℕ → ℕ
toward Rising v m = v + m
toward Falling v m = v - m

-- the unsigned difference of two levels
unfoldable pub gap : ℕ → ℕ → ℕ
gap v w = (v - w) + (w - v)

-- "Its distance is target less start, unsigned"
unfoldable pub distance : Trajectory → ℕ
distance c = gap c.start c.target

-- "Rising below MSG uses the column, otherwise ramp-up; falling above MSG uses ramp-down, otherwise deload"
unfoldable pub in_use : Heading → Lists → ℕ → Rates
in_use Rising l v = pick (ltb v l.msg) l.column l.up
in_use Falling l v = pick (ltb l.msg v) l.down l.deload

-- "the count of that list's breaks at or below the level when rising, strictly below when falling"
unfoldable pub passed : Heading → ℕ → List ℕ → ℕ
passed Rising v breaks = length (those (λ b. leb b v) breaks)
passed Falling v breaks = length (those (λ b. ltb b v) breaks)

-- "The rate is the one numbered 1 plus the count"; number 1 stands at place 0
unfoldable pub rate_at : Heading → Lists → ℕ → ℕ
rate_at h l v = get_or (in_use h l v).rates (passed h v (in_use h l v).breaks) 0

-- "breaks of the list in use there": those at which their own list is in use
unfoldable pub breaks_in_use : Heading → Lists → List ℕ
breaks_in_use Rising l = those (λ b. ltb b l.msg) l.column.breaks ++ those (λ b. leb l.msg b) l.up.breaks
breaks_in_use Falling l = those (λ b. ltb l.msg b) l.down.breaks ++ those (λ b. leb b l.msg) l.deload.breaks

-- "Triggers with 0 minutes don't count"
unfoldable pub counting : (ℕ → Bool) → List Trigger → List Trigger
counting f gs = those (λ g. ltb 0 g.minutes && f g.level) gs

-- "soak triggers below MSG when rising, dwell triggers at or above MSG both ways"
unfoldable pub triggers : Heading → Lists → List Trigger
triggers Rising l = counting (λ v. ltb v l.msg) l.soaks ++ counting (λ v. leb l.msg v) l.dwells
triggers Falling l = counting (λ v. leb l.msg v) l.dwells

-- the nearest of some levels strictly past v, and t if none is nearer
unfoldable pub nearest : Heading → ℕ → ℕ → List ℕ → ℕ
nearest Rising v t [] = t
nearest Rising v t (w ∷ ws) = pick (ltb v w) (min w (nearest Rising v t ws)) (nearest Rising v t ws)
nearest Falling v t [] = t
nearest Falling v t (w ∷ ws) = pick (ltb w v) (max w (nearest Falling v t ws)) (nearest Falling v t ws)

-- "added where triggers coincide": the seconds of all triggers at the level v
unfoldable pub holding : ℕ → List Trigger → ℕ
holding v [] = 0
holding v (g ∷ gs) = pick (eqb g.level v) (g.minutes * 60) 0 + holding v gs

-- a moment of a course: the level, and the seconds left of a hold
pub record Moment : Type 0 where
  pub level : ℕ
  pub left : ℕ

-- with this heading, by these lists, to the target t
module _ (h : Heading) (l : Lists) (t : ℕ) where
  -- where a stop may be: the target, MSG, breaks, triggers
  unfoldable pub candidates : List ℕ
  candidates = t ∷ l.msg ∷ (breaks_in_use h l ++ map (λ (g : Trigger). g.level) (triggers h l))

  -- "strictly past .. and up to the target"
  unfoldable pub next_stop : ℕ → ℕ
  next_stop v = nearest h v t candidates

  -- "At a trigger short of the target the level holds for the minutes"
  unfoldable pub hold_at : ℕ → ℕ
  hold_at v = pick (eqb v t) 0 (holding v (triggers h l))

  -- the level w, come to on the way to a stop: at the stop its hold begins
  unfoldable pub arrived : ℕ → ℕ → Moment
  arrived stop w = record { level = w; left = pick (eqb w stop) (hold_at w) 0 }

  -- a hold counts down; at the target nothing moves; else "Each second moves by the smaller of the rate and the way to the next stop"
  unfoldable pub second : Moment → Moment
  second m =
      pick (ltb 0 m.left) (record { level = m.level; left = m.left - 1 })
      (pick (eqb m.level t) m
      (arrived (next_stop m.level) (toward h m.level (min (rate_at h l m.level) (gap m.level (next_stop m.level))))))

  unfoldable pub after : ℕ → Moment → Moment
  after zero m = m
  after (suc k) m = second (after k m)

  -- "The rate in force where a second began is the one given above for the level there .., and 0 in a hold or at rest"
  unfoldable pub rate_in_force : Moment → ℕ
  rate_in_force m = pick (ltb 0 m.left) 0 (pick (eqb m.level t) 0 (rate_at h l m.level))

  -- the stops past v, in order, each once, n at most
  unfoldable pub stops_from : ℕ → ℕ → List ℕ
  stops_from zero v = []
  stops_from (suc n) v = pick (eqb v t) [] (next_stop v ∷ stops_from n (next_stop v))

  -- the way, rate and hold to each of some stops, from v. A rate of 0, which no let-in unit has, moves nothing: there is no further segment
  unfoldable pub segments_of : ℕ → List ℕ → List Segment
  segments_of v [] = []
  segments_of v (w ∷ ws) = pick (eqb (rate_at h l v) 0) [] (record { way = gap v w; rate = rate_at h l v; hold = hold_at w } ∷ segments_of w ws)

-- "so no hold is due there": a course begins with no hold left
unfoldable pub moment_at : Trajectory → ℕ → Moment
moment_at c k = after (heading c) c.lists c.target k (record { level = c.start; left = 0 })

-- the level recorded k seconds after the course began
unfoldable pub level_at : Trajectory → ℕ → ℕ
level_at c k = (moment_at c k).level

-- the rate in force where the second k of the course begins
unfoldable pub rate_on : Trajectory → ℕ → ℕ
rate_on c k = rate_in_force (heading c) c.lists c.target (moment_at c k)

-- all stops of the course, reached or not: at most as many as there are candidates
unfoldable pub stops : Trajectory → List ℕ
stops c = stops_from (heading c) c.lists c.target (length (candidates (heading c) c.lists c.target)) c.start

unfoldable pub segments : Trajectory → List Segment
segments c = segments_of (heading c) c.lists c.target c.start (stops c)
