use Rattle.std.proofs.Common.{ℕ, ◌*◌, ◌-◌, List}
use Rattle.course_rates.specs.declared.Route.{Route}
use Rattle.course_walk.specs.declared.Reached.{Reached}
use Rattle.course_walk.specs.Walk.{beginning}
use Rattle.lines.proofs.Sinks.{Putting}
use Rattle.listing_parts.specs.Rest.{lines_left}
use Rattle.listing_parts.proofs.Laws.{CourseAt}
use Rattle.listing_parts.proofs.put_course.Given as goal

-- the course is followed up to `from`, and its lines are put up to there; each second to come has a line at most
pub record Progress {S : Type 0} (has_room : S → List ℕ → ℕ → Type 0) (takes : S → List ℕ → ℕ → S → Type 0) (r : Route) (n : ℕ)
    (before : S) (from : Reached) (now : S) : Type 0 where
  pub along : CourseAt r from
  pub lines : Putting has_room takes before (lines_left r n (beginning r.course r.course.begin)) (lines_left r n from.place) 369367187370
      (86 * (4294967295 - from.place.second)) now

abbrev pub invariant-loop-from : goal.invariant-loop-from
invariant-loop-from g l = Progress g.S.Sink.has_room g.S.Sink.takes l.r l.n l.initial.sink l.from l.sink

abbrev pub decreases-loop-from : goal.decreases-loop-from
decreases-loop-from g l = l.n - l.from.place.second
