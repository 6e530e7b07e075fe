use Rattle.std.proofs.Common.{ap, List, ℕ}
use Rattle.profile_follow.specs.Following.{ended}
use Rattle.profile_follow.proofs.Ending.{cleared}
use Rattle.profile_follow.proofs.end_day.Goals as goal

pub returns : goal.returns
unfolding ended
returns c =
    ap (λ (xs : List ℕ). record { walk = c.args.w; sums = xs; end = c.args.end })
    (cleared c.args.halves c.args.sums c.fill.new.self c.well_formed.1.0.1.0.1 c.requires (c.fill.ensures.after (λ y same. same)))
