-- Believed: document 01, The printed day. The pieces of a course that the S lines print.
use Rattle.std.specs.Prelude.{ℕ, ◌+◌, ◌*◌, ◌-◌, ◌/◌, min, List, [], ◌∷◌, ◌++◌, Bool, ◌&&◌, not, leb, ltb, eqb}
use Rattle.level.specs.Choice.{pick}
use Rattle.course.specs.declared.Segment.{Segment}
use Rattle.course.specs.declared.Piece.{Piece}
use Rattle.course.specs.Lists.{Lists}
use Rattle.course.specs.declared.Heading.{Heading}
use Rattle.course.specs.Course.{Trajectory, Moment, heading, toward, gap, rate_at, next_stop, moment_at, segments}

-- the whole seconds that a segment's way takes: the rest of the last second is lost
unfoldable pub seconds : Segment → ℕ
seconds l = (l.way + (l.rate - 1)) / l.rate

-- "none of length 0"
unfoldable pub piece : ℕ → ℕ → ℕ → ℕ → List Piece
piece a b v w = pick (ltb a b) (record { from = a; to = b; enter = v; leave = w } ∷ []) []

-- "one for each run at full rate up to a stop, shorter last second, hold, and rest at target", from the second a at the level v,
-- cut at the second n
unfoldable pub pieces_of : Heading → ℕ → ℕ → ℕ → List Segment → List Piece
pieces_of h n a v [] = piece a n v v
pieces_of h n a v (l ∷ ls) =
    let full : ℕ = min (l.way / l.rate) (n - a) in
    let near : ℕ = toward h v (full * l.rate) in
    let stop : ℕ = toward h v l.way in
    let reached : ℕ = min (a + seconds l) n in
    let held : ℕ = min (a + (seconds l + l.hold)) n in
    piece a (a + full) v near ++ (piece (a + full) reached near stop ++ (piece reached held stop stop ++ pieces_of h n held stop ls))

-- the pieces of a course that lasts from the second a to the second n
unfoldable pub pieces_in : Trajectory → ℕ → ℕ → List Piece
pieces_in c a n = pieces_of (heading c) n a c.start (segments c)

-- ---- what an S line is of, second by second

-- what a second is part of. Kind 1, a run at full rate, and 2, the shorter last second, go up to the stop; 3, a hold, and 4, the rest, stand there
pub record Part : Type 0 where
  pub kind : ℕ
  pub stop : ℕ

-- the second that begins at the moment m: "run at full rate up to a stop, shorter last second, hold, and rest at target"
unfoldable pub part_from : Heading → Lists → ℕ → Moment → Part
part_from h l t m =
    pick (ltb 0 m.left) (record { kind = 3; stop = m.level })
    (pick (eqb m.level t) (record { kind = 4; stop = m.level })
    (pick (leb (rate_at h l m.level) (gap m.level (next_stop h l t m.level)))
    (record { kind = 1; stop = next_stop h l t m.level })
    (record { kind = 2; stop = next_stop h l t m.level })))

-- the second k of a course
unfoldable pub part_on : Trajectory → ℕ → Part
part_on c k = part_from (heading c) c.lists c.target (moment_at c k)

unfoldable pub same_part : Part → Part → Bool
same_part x y = eqb x.kind y.kind && eqb x.stop y.stop

-- whether another part begins at the second k of a course, k at least 1
unfoldable pub part_changes : Trajectory → ℕ → Bool
part_changes c k = not (same_part (part_on c (k - 1)) (part_on c k))
