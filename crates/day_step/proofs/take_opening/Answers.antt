use Rattle.std.proofs.Common.{◌≡◌, Err, arith}
use Rattle.day_step.proofs.Laws.{opening_refused, opening_taken}
use Rattle.day_step.proofs.take_opening.Goals as goal

pub returns-in_err-opening : goal.returns-in_err-opening
returns-in_err-opening c =
    let e : c.from_residual.result ≡ Err c.in_err-opening.field-0.0 = grind arith in
    rw e (opening_refused c.args.taken.now c.args.closed c.args.input.now _
    (rw (c.as_ref-unit.ensures.value, c.is_some.ensures) at c.in_err-opening.ensures))

pub returns : goal.returns
returns c =
    opening_taken c.args.taken.now c.args.closed c.args.input.now _ _ c.from.ensures
    (rw (c.as_ref-unit.ensures.value, c.is_some.ensures) at c.in_ok-opening.ensures)
