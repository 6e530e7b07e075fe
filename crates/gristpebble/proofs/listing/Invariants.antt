use Rattle.std.proofs.Common.{◌≡◌, length}
use Rattle.profile.specs.Profile.{paper}
use Rattle.day.specs.Day.{found_in}
use Rattle.listing.specs.Program.{ran_by}
use Rattle.gristpebble.proofs.Laws.{from}
use Rattle.gristpebble.proofs.listing.Given as goal

-- from here on the run comes to what the whole input comes to
abbrev pub invariant-loop-rest : goal.invariant-loop-rest
invariant-loop-rest l = from l.day l.rest ≡ ran_by (found_in paper) l.input

abbrev pub decreases-loop-rest : goal.decreases-loop-rest
decreases-loop-rest l = length l.rest
