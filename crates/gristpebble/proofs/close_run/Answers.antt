use Rattle.std.proofs.Common.{◌≡◌, Err, length, refl, arith}
use borrow.Author.Tests.{leb-true}
use Rattle.listing.specs.Listing.{suffices}
use Rattle.gristpebble.specs.Ended.{open_day}
use Rattle.gristpebble.proofs.Ended.{ended_none, ended_close}
use Rattle.gristpebble.proofs.close_run.Goals as goal

pub returns-then-kind-ne4 : goal.returns-then-kind-ne4
returns-then-kind-ne4 c =
    let e = ended_none (open_day c.args.taken) c.args.kind c.if-kind-ne4.true in
    rw e (refl, refl)

pub returns-in_err-take_close : goal.returns-in_err-take_close
returns-in_err-take_close c =
    let e = ended_close (open_day c.args.taken) c.args.kind c.if-kind-ne4.false _ c.in_err-take_close.ensures in
    let r : c.from_residual.result ≡ Err c.in_err-take_close.field-0.0 = grind arith in
    rw (e, r) (refl, refl)

pub list_lent-requires : goal.list_lent-requires
list_lent-requires c =
    let e = ended_close (open_day c.args.taken) c.args.kind c.if-kind-ne4.false _ c.in_ok-take_close.ensures in
    let few = rw e at c.requires in
    λ f. omega (arith, leb-true suffices (length c.args.out.now) f, few refl)

pub returns : goal.returns
returns c =
    let e = ended_close (open_day c.args.taken) c.args.kind c.if-kind-ne4.false _ c.in_ok-take_close.ensures in
    rw e c.list_lent.ensures
