use Rattle.std.proofs.Common.{sym}
use Rattle.listing_parts.proofs.Laws.{first_begins, none_begins}
use Rattle.listing_parts.proofs.end_of.Goals as goal

pub returns-in-Some : goal.returns-in-Some
returns-in-Some c = first_begins c.args.end c.args.later.now c.in-Some.next.now (sym c.in-Some.ensures.value)

pub returns-in-None : goal.returns-in-None
returns-in-None c = none_begins c.args.end c.args.later.now (sym c.in-None.ensures.value)
