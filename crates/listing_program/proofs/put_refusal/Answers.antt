use Rattle.std.proofs.Common.{sym, arith, rules}
use Rattle.lines.specs.Lines.{x_line}
use Rattle.listing_program.proofs.Laws.{all_written, none_written}
use Rattle.listing_program.proofs.put_refusal.Goals as goal

pub returns-then-out-measure : goal.returns-then-out-measure
returns-then-out-measure c =
    rw (sym c.number-number.ensures) (none_written (x_line c.number-number.result) c.args.out.now (omega (arith, c.put_x.ensures.count_is)))

pub returns : goal.returns
returns c =
    rw (sym c.number-number.ensures)
    (all_written (x_line c.number-number.result) c.args.out.now (omega (arith, c.put_x.ensures.count_is)) (search rules))
