use Rattle.std.proofs.Common.{◌≡◌, Err, arith}
use Rattle.day_step.proofs.Laws.{close_early, close_refused, close_is}
use Rattle.day_step.proofs.take_close.Goals as goal

pub returns-in_err-close_front : goal.returns-in_err-close_front
returns-in_err-close_front c =
    let e : c.from_residual.result ≡ Err c.in_err-close_front.field-0.0 = grind arith in
    rw e (close_early c.args.day.now _ (rw (c.is_some.ensures, c.is_some-2.ensures) at c.in_err-close_front.ensures))

pub returns-in_err-found : goal.returns-in_err-found
returns-in_err-found c =
    let e : c.from_residual-in_err-found.result ≡ Err c.in_err-found.field-0.0 = grind arith in
    rw e (close_refused c.args.day.now (rw (c.is_some.ensures, c.is_some-2.ensures) at c.in_ok-close_front.ensures) _ c.in_err-found.ensures)

pub returns : goal.returns
returns c = close_is c.args.day.now (rw (c.is_some.ensures, c.is_some-2.ensures) at c.in_ok-close_front.ensures) _ c.in_ok-found.ensures
