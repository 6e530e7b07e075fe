use Rattle.std.proofs.Common.{Bool, ◌&&◌, sym, ap, ◌∙◌}
use Rattle.validation_groups.specs.Working.{time_at, latest_at, alone_at}
use Rattle.validation_groups.proofs.Order.{alone_latest, follows_is}
use Rattle.validation_groups.proofs.latest_of.Goals as goal

pub returns-then-stands_alone : goal.returns-then-stands_alone
returns-then-stands_alone c =
    let a = c.args in
    let e = ap (λ (b : Bool). b && alone_at a.os.now a.at) c.requires.told in
    alone_latest a.os.now a.at c.requires.here (sym e ∙ (sym c.stands_alone.ensures ∙ c.if-stands_alone.true))

pub returns-then-follows_time : goal.returns-then-follows_time
returns-then-follows_time c =
    let a = c.args in
    let f = follows_is a.os.now a.at (time_at a.os.now a.at) (sym c.follows_time.ensures ∙ c.if-follows_time.true) in
    c.requires.before_latest f.0 ∙ ap (latest_at a.os.now) f.1
