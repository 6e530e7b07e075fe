-- Working. The lines of a day, kind by kind, and what is left of each kind to print.
use Rattle.std.specs.Prelude.{ℕ, zero, suc, ◌-◌, ◌≤◌, ◌≡◌, List, [], eqb, take}
use Rattle.level.specs.Choice.{pick}
use Rattle.level.specs.Lists.{list_from}
use Rattle.level.specs.Numbers.{most_half_hours}
use Rattle.records.specs.declared.UnitData.{UnitData}
use Rattle.course.specs.declared.Course.{Course}
use Rattle.course.specs.Course.{trajectory_of}
use Rattle.course.specs.Pieces.{pieces_in}
use Rattle.profile.specs.declared.Closing.{Closing}
use Rattle.profile.specs.Profile.{spans_of, day_pieces, rounded}
use Rattle.profile.specs.Finding.{quantity_at}
use Rattle.course_rates.specs.declared.Route.{Route}
use Rattle.course_rates.specs.Ways.{target_of, lists_by}
use Rattle.course_walk.specs.declared.Place.{Place}
use Rattle.course_walk.specs.Walk.{pieces_left}
use Rattle.lines.specs.Lines.{s_line, e_line}
use Rattle.listing.specs.Listing.{f_lines, s_lines, run_lines, q_lines}

-- the F lines of the first n of some fates
abbrev pub fate_lines : ℕ → List ℕ → List ℕ
fate_lines n fates = f_lines 1 (take n fates)

-- the S line of the straight piece from one place of a course to another
unfoldable pub piece_line : Place → Place → List ℕ
piece_line p q = s_line p.second q.second p.level q.level

-- the S lines from the place p on, of a course on its route that lasts to the second n
abbrev pub lines_left : Route → ℕ → Place → List ℕ
lines_left r n p = s_lines (pieces_left r.heading (lists_by r) (target_of r) n p)

-- the S lines of a course that lasts to the second n
abbrev pub course_lines : UnitData → Course → ℕ → List ℕ
course_lines u c n = s_lines (pieces_in (trajectory_of u c) c.begin n)

-- the S lines of some courses, the last of which goes on to the day's end
unfoldable pub courses_lines : UnitData → ℕ → List Course → List ℕ
courses_lines u end cs = s_lines (day_pieces (spans_of u end cs))

-- the Q lines of a day of so many half-hours and these sums
abbrev pub quantity_lines : ℕ → List ℕ → List ℕ
quantity_lines halves sums = q_lines (list_from (quantity_at sums) 0 halves)

-- the Q lines of the half-hours from the boundary i on, n of them, where f gives the quantity of each; the working twin of `q_lines`
-- (listing/specs/Listing), by boundaries instead of a list of quantities
unfoldable pub runs_from : (ℕ → ℕ) → ℕ → ℕ → List ℕ
runs_from f i zero = []
runs_from f i (suc n) = run_lines (suc i) (suc i) (f i) (list_from f (suc i) n)

-- the boundary at which a run of the quantity k ends, from the boundary i on, with n half-hours left
unfoldable pub run_end : (ℕ → ℕ) → ℕ → ℕ → ℕ → ℕ
run_end f k i zero = i
run_end f k i (suc n) = pick (eqb (f i) k) (run_end f k (suc i) n) i

-- a run of the quantity kw, which twice the area `twice` gives, may go on from one boundary, at most to another
pub record RunAsked (twice kw from end : ℕ) : Type 0 where
  pub ordered : from ≤ end
  pub within : end ≤ most_half_hours
  pub quantity : kw ≡ rounded twice

-- it ends at the boundary r
pub record RunEnds (f : ℕ → ℕ) (kw from end r : ℕ) : Type 0 where
  pub at : r ≡ run_end f kw from (end - from)
  pub later : from ≤ r
  pub within : r ≤ end

-- the E line
unfoldable pub closing_line : Closing → List ℕ
closing_line e = e_line e.level.grains e.target e.heat e.off
