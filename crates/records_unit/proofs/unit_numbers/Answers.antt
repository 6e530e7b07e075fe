use Rattle.std.proofs.Common.{rules, tests, refl, arith}
use Rattle.records.specs.Records.{numbers}
use Rattle.records_unit.proofs.Laws.{made_from}
use Rattle.records_unit.proofs.unit_numbers.Goals as goal

pub returns : goal.returns
unfolding numbers
returns c =
    rw c.from_fn.ensures.items.long at (made_from _ _ c.args.body.now c.from_fn.result (λ i n q k. search (rules, tests)) 0 62
    (omega (arith, c.from_fn.ensures.items.long)) refl c.from_fn.ensures.items.each)
