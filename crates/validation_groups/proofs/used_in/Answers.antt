use Rattle.std.proofs.Common.{sym, ◌∙◌}
use Rattle.validation_groups.proofs.Order.{from_rising}
use Rattle.validation_groups.proofs.used_in.Goals as goal

pub used_ordered-requires : goal.used_ordered-requires
used_ordered-requires c = (c.requires.few, from_rising c.args.os.now (sym c.requires.told ∙ c.if-ordered.true))
