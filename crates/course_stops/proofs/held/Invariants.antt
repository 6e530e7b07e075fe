use Rattle.std.proofs.Common.{◌≡◌, ◌+◌, ◌*◌, ◌^◌, ◌≤◌, map, drop}
use Rattle.course.specs.Lists.{in_grains}
use Rattle.course.specs.Course.{holding}
use Rattle.course_stops.proofs.held.Given as goal

abbrev pub invariant-loop-g : goal.invariant-loop-g
invariant-loop-g g l =
    (l.seconds + holding l.w (map in_grains (drop l.g-index l.g-items)) ≡ holding l.w (map in_grains (drop 0 l.g-items)))
    × (l.seconds ≤ l.g-index * (60 * 2 ^ 32))
