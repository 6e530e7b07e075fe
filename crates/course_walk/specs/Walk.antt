-- Working. Going along a course from one straight piece to the next.
use Rattle.std.specs.Prelude.{ℕ, Option, Some, None, IfSome, ◌+◌, ◌*◌, ◌-◌, ◌/◌, ◌^◌, min, ◌≤◌, ◌<◌, ◌≡◌, ◌||◌, List, ◌++◌, ltb, eqb, length}
use Rattle.level.specs.Choice.{pick}
use Rattle.course.specs.declared.Segment.{Segment}
use Rattle.course.specs.Recorded.{area}
use Rattle.course.specs.declared.Course.{Course}
use Rattle.course.specs.Lists.{Lists}
use Rattle.course.specs.declared.Heading.{Heading}
use Rattle.course.specs.declared.Heading.TheVariants.{Rising, Falling}
use Rattle.course.specs.Course.{Moment, toward, candidates, after, stops_from, segments_of}
use Rattle.course.specs.declared.Piece.{Piece}
use Rattle.course.specs.Headings.{Past, Short}
use Rattle.course.specs.Pieces.{piece, pieces_of}
use Rattle.course_rates.specs.declared.Route.{Route}
use Rattle.course_rates.specs.Ways.{target_of, lists_by}
use Rattle.course_walk.specs.declared.Place.{Place}
use Rattle.course_walk.specs.declared.Reached.{Reached}
use Rattle.course_stops.specs.Ahead.{segment_from}

-- room to move v by m: up within 64 bits, down to 0
abbrev pub Reaches : Heading → ℕ → ℕ → Type 0
Reaches Rising v m = v + m < 2 ^ 64
Reaches Falling v m = m ≤ v

abbrev pub moment_of : Place → Moment
moment_of p = record { level = p.level; left = p.left }

-- a place where no segment is known
abbrev pub unknown : Place → Reached
unknown p = record { place = p; rest = None }

-- where a course begins, at the second a
unfoldable pub beginning : Course → ℕ → Place
beginning c a = record { second = a; level = c.start.grains; left = 0 }

-- the straight piece from one place to another
unfoldable pub piece_between : Place → Place → Piece
piece_between p q = record { from = p.second; to = q.second; enter = p.level; leave = q.level }

-- the end of a hold, or of what the second n leaves of it
unfoldable pub after_hold : ℕ → Place → Place
after_hold n p = record { second = min (p.second + p.left) n; level = p.level; left = p.second + p.left - n }

-- at rest up to the second n
unfoldable pub after_rest : ℕ → Place → Place
after_rest n p = record { second = n; level = p.level; left = 0 }

-- what f seconds at its full rate leave of a segment
unfoldable pub rest_run : ℕ → Segment → Option Segment
rest_run f s = pick (eqb (f * s.rate) s.way) None (Some (record { way = s.way - f * s.rate; rate = s.rate; hold = s.hold }))

module _ (h : Heading) where
  -- f seconds along a segment at its full rate; if that is the whole way, its hold begins
  unfoldable pub after_run : ℕ → Place → Segment → Place
  after_run f p s = record { second = p.second + f; level = toward h p.level (f * s.rate); left = pick (eqb (f * s.rate) s.way) s.hold 0 }

  -- at the segment's stop, one second on
  unfoldable pub after_short : Place → Segment → Place
  after_short p s = record { second = p.second + 1; level = toward h p.level s.way; left = s.hold }

  -- along a segment: nothing moves at a rate of 0, and a way shorter than the rate takes a second
  unfoldable pub along : ℕ → Place → Segment → Place
  along n p s =
      pick (eqb s.rate 0) (after_rest n p)
      (pick (ltb s.way s.rate) (after_short p s) (after_run (min (s.way / s.rate) (n - p.second)) p s))

-- what is left of it then
unfoldable pub rest_along : ℕ → Place → Segment → Option Segment
rest_along n p s = pick (eqb s.rate 0) None (pick (ltb s.way s.rate) None (rest_run (min (s.way / s.rate) (n - p.second)) s))

module _ (h : Heading) (l : Lists) (t : ℕ) where
  -- a segment is the one that lies ahead of a place
  pub record SegmentAhead (p : Place) (s : Segment) : Type 0 where
    pub no_hold : p.left ≡ 0
    pub past : Past h p.level t
    pub is : s ≡ segment_from h l t p.level

  -- where a segment is known, it is the one that lies ahead
  abbrev pub Known : Reached → Type 0
  Known r = IfSome r.rest (SegmentAhead r.place)

  -- a place with the segment that lies ahead, unless the course holds there or is at its target
  unfoldable pub reached_at : Place → Reached
  reached_at p = record { place = p; rest = pick (ltb 0 p.left || eqb p.level t) None (Some (segment_from h l t p.level)) }

  -- the end of the straight piece that begins at p, cut at the second n
  unfoldable pub onward : ℕ → Place → Place
  onward n p = pick (ltb 0 p.left) (after_hold n p) (pick (eqb p.level t) (after_rest n p) (along h n p (segment_from h l t p.level)))

  -- where the rule of one second stands at the second n
  unfoldable pub standing : ℕ → Place → Place
  standing n p =
      let m : Moment = after h l t (n - p.second) (moment_of p) in
      record { second = n; level = m.level; left = m.left }

  -- the segments from the level v on
  unfoldable pub segments_from : ℕ → List Segment
  segments_from v = segments_of h l t v (stops_from h l t (length (candidates h l t)) v)

  -- the pieces from p on, cut at the second n: what is left of a hold, then those of the segments
  unfoldable pub pieces_left : ℕ → Place → List Piece
  pieces_left n p =
      let held : ℕ = min (p.second + p.left) n in
      piece p.second held p.level p.level ++ pieces_of h n held p.level (segments_from p.level)

  -- twice the area from p to the second n: the sum over seconds of the levels at start and end
  unfoldable pub twice_to : ℕ → Place → ℕ
  twice_to n p = area (λ k. (after h l t k (moment_of p)).level) 0 (n - p.second)

-- what going on asks for: a second n ahead, a level short of the target, and that a known segment is the one ahead
pub record WalkAhead (r : Route) (from : Reached) (n : ℕ) : Type 0 where
  pub before : from.place.second < n
  pub short : Short r.heading (target_of r) from.place.level
  pub known : Known r.heading (lists_by r) (target_of r) from

-- f seconds along a segment: they end within 32 bits and within the way, which the level has room for
pub record RunAhead (h : Heading) (p : Place) (s : Segment) (f : ℕ) : Type 0 where
  pub within : p.second + f < 2 ^ 32
  pub way : f * s.rate ≤ s.way
  pub room : Reaches h p.level s.way
