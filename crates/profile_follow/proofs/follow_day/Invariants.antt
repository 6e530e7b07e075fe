use Rattle.std.proofs.Common.{◌*◌}
use Rattle.level.specs.Numbers.{half_hour}
use Rattle.profile_follow.proofs.Turn.{FollowTurn}
use Rattle.profile_follow.proofs.follow_day.Given as goal

abbrev pub invariant-loop-o : goal.invariant-loop-o
invariant-loop-o l = FollowTurn l.o-index l.u (half_hour * l.halves) l.fn.first l.acts l.w l.g l.sums
