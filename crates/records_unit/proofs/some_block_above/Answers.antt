use Rattle.std.proofs.Common.{rules, tests, ltb, ◌∙◌}
use Rattle.std.proofs.lemmas.Iterator.{YieldsList-from_slice}
use Rattle.std.proofs.lemmas.Iterator.Search.{any_from_yields_List}
use Rattle.records.specs.declared.Column.{Column}
use Rattle.records_unit.proofs.Laws.{some_is}
use Rattle.records_unit.proofs.some_block_above.Goals as goal

pub returns : goal.returns
returns c =
    any_from_yields_List (λ (x : Column). ltb c.args.msg x.block) _ _ c.any.result c.any.ensures.ran (YieldsList-from_slice _ c.iter.ensures.rest)
    (λ x b q k. search (rules, tests)) ∙ some_is _ c.args.columns.now
