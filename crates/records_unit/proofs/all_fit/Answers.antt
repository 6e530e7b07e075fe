use Rattle.std.proofs.Common.{rules, tests, true, ◌∙◌, arith}
use Rattle.std.proofs.lemmas.Iterator.{YieldsList-from_slice, YieldsList-from_zip}
use Rattle.std.proofs.lemmas.Iterator.Consumers.{fold_from_yields_List, YieldsList-at}
use Rattle.records.specs.Fields.{a_level, a_maximum, a_rate, a_hold, a_boundary, column_ranges, ramp_ranges, unit_ranges}
use Rattle.records_unit.proofs.Laws.{own_ranges, looked, all_looked}
use Rattle.records_unit.proofs.all_fit.Goals as goal

pub returns : goal.returns
unfolding own_ranges unit_ranges column_ranges ramp_ranges a_level a_maximum a_rate a_hold a_boundary
returns c =
    fold_from_yields_List _ looked true c.fold.result c.fold.ensures.ran
    (YieldsList-from_zip (YieldsList-at c.zip.ensures.first (YieldsList-from_slice (own_ranges unit_ranges) c.iter.ensures.rest))
    (YieldsList-from_slice c.args.ns.now cc))
    (λ a x b q k. search (rules, tests)) ∙ all_looked unit_ranges c.args.ns.now 0 true (omega arith)
