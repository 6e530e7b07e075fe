-- Working. The twin by segments of what the paper says by the rule of one second: states and areas. (`found_same`, proofs/Whole, equates them.)
use Rattle.std.specs.Prelude.{ℕ, suc, ◌+◌, ◌*◌, ◌-◌, min, List, [], ◌∷◌, eqb}
use Rattle.level.specs.Choice.{pick}
use Rattle.level.specs.Numbers.{half_hour}
use Rattle.course.specs.declared.Segment.{Segment}
use Rattle.course.specs.Pieces.{seconds, pieces_in}
use Rattle.course.specs.Recorded.{recorded, twice_area}
use Rattle.course.specs.Course.{Trajectory, heading, toward, segments}
use Rattle.profile.specs.declared.State.{State}
use Rattle.profile.specs.State.{held}
use Rattle.profile.specs.Profile.{Span, Way}

-- ---- states

-- the second at which the last stop is reached
unfoldable pub arrival : List Segment → ℕ
arrival [] = 0
arrival (l ∷ []) = seconds l
arrival (l ∷ (m ∷ ls)) = seconds l + l.hold + arrival (m ∷ ls)

unfoldable pub state_on : Trajectory → List Segment → ℕ → ℕ → State
state_on c ls off k =
    let v : ℕ = toward (heading c) c.start (recorded ls k) in
    record { level = v; off = pick (eqb v 0) (held (pick (eqb c.start 0) (off + k) (k - arrival ls))) 0 }

unfoldable pub by_segments : Trajectory → ℕ → ℕ → State
by_segments c off k = state_on c (segments c) off k

-- ---- areas

-- up to the second x
unfoldable pub pieces_to : List Span → ℕ → ℕ
pieces_to [] x = 0
pieces_to (s ∷ ss) x = twice_area (pieces_in s.trajectory 0 (min s.end x - s.begin)) + pieces_to ss x

unfoldable pub twin_to : List Span → ℕ → ℕ
twin_to ss b = pieces_to ss (half_hour * b)

unfoldable pub twin_in : List Span → ℕ → ℕ
twin_in ss i = twin_to ss (suc i) - twin_to ss i

abbrev pub twin : Way
twin = record { look = by_segments; up_to = twin_to; within = twin_in }
