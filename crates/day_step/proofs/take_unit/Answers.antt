use Rattle.std.proofs.Common.{◌≡◌, Err, arith}
use Rattle.day_step.proofs.Laws.{unit_refused, unit_taken}
use Rattle.day_step.proofs.take_unit.Goals as goal

pub returns-in_err-unit : goal.returns-in_err-unit
returns-in_err-unit c =
    let e : c.from_residual.result ≡ Err c.in_err-unit.field-0.0 = grind arith in
    rw e (unit_refused c.args.taken.now c.args.closed c.args.input.now _ (rw c.is_some.ensures at c.in_err-unit.ensures))

pub returns : goal.returns
returns c = unit_taken c.args.taken.now c.args.closed c.args.input.now _ (rw c.is_some.ensures at c.in_ok-unit.ensures)
