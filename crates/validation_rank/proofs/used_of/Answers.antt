use Rattle.std.proofs.Common.{rules}
use Rattle.validation_rank.proofs.Ranks.{used_best, used_none}
use Rattle.validation_rank.proofs.used_of.Goals as goal

pub returns-in_err-highest : goal.returns-in_err-highest
returns-in_err-highest c = λ g p q r. used_none g c.args.best p c.from_residual.result (search rules) (search rules)

pub returns : goal.returns
returns c = λ g p q r.
    used_best g c.args.best p c.in_ok-highest.highest c.merge.result _ _ c.or.result (search rules) c.or.ensures q r c.merge.ensures
