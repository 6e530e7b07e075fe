use Rattle.std.proofs.Common.{◌-◌}
use Rattle.profile_areas.specs.Passing.{summed, PassProgress}
use Rattle.profile_areas.proofs.pass_to.Given as goal

abbrev pub invariant-loop-at : goal.invariant-loop-at
invariant-loop-at l =
    PassProgress l.r l.fn.from.place l.begun l.n (summed l.fn.from.place.second l.fn.sums) l.sums l.at l.off

abbrev pub decreases-loop-at : goal.decreases-loop-at
decreases-loop-at l = l.n - l.at.place.second
