use Rattle.std.proofs.Common.{◌≡◌, Err, length, not, refl, ap, sym, ◌∙◌, arith}
use borrow.Author.Tests.{leb-true}
use Rattle.day.specs.declared.Day.{Day}
use Rattle.listing.specs.Listing.{suffices}
use Rattle.claims.proofs.Exported.{run_fits}
use Rattle.gristpebble.proofs.Laws.{from, run_first, run_last, run_refused, used_all, run_smaller, run_taken, gives}
use Rattle.gristpebble.proofs.listing.Goals as goal

pub loop-rest-init : goal.loop-rest-init
loop-rest-init c = ap (λ (d : Day). from d c.args.input.now) c.empty_day-day.ensures ∙ run_first c.args.input.now

pub returns-in_err-used : goal.returns-in_err-used
returns-in_err-used c =
    let e : c.from_residual.result ≡ Err c.in_err-used.field-0.0 = grind arith in
    let ran =
    sym (run_refused c.loop-rest.day c.loop-rest.rest.now (c.is_none.ensures ∙ ap not c.loop-rest-test.true) _ _ c.in_err-used.ensures)
    ∙ c.loop-rest.invariant in
    rw e (gives c.args.input.now c.args.out.now _ ran)

pub slice_bounds-rest-count : goal.slice_bounds-rest-count
slice_bounds-rest-count c = used_all c.loop-rest.day c.loop-rest.rest.now (c.is_none.ensures ∙ ap not c.loop-rest-test.true) _ _ c.in_ok-used.ensures

pub slice_bounds-rest-start : goal.slice_bounds-rest-start
slice_bounds-rest-start c =
    omega (arith, used_all c.loop-rest.day c.loop-rest.rest.now (c.is_none.ensures ∙ ap not c.loop-rest-test.true) _ _ c.in_ok-used.ensures)

pub loop-rest-smaller : goal.loop-rest-smaller
loop-rest-smaller c = run_smaller c.loop-rest.day c.loop-rest.rest.now (c.is_none.ensures ∙ ap not c.loop-rest-test.true) _ _ c.in_ok-used.ensures

pub loop-rest-preserved : goal.loop-rest-preserved
loop-rest-preserved c =
    sym (run_taken c.loop-rest.day c.loop-rest.rest.now (c.is_none.ensures ∙ ap not c.loop-rest-test.true) _ _ c.in_ok-used.ensures)
    ∙ c.loop-rest.invariant

pub list_lent-requires : goal.list_lent-requires
list_lent-requires c =
    let ran = sym (run_last c.loop-rest.day c.loop-rest.rest.now (c.is_none.ensures ∙ ap not c.loop-rest-test.false)) ∙ c.loop-rest.invariant in
    let fits = run_fits c.args.input.now _ ran refl in
    λ f. omega (arith, leb-true suffices (length c.args.out.now) f, fits.1)

pub returns : goal.returns
returns c =
    let ran = sym (run_last c.loop-rest.day c.loop-rest.rest.now (c.is_none.ensures ∙ ap not c.loop-rest-test.false)) ∙ c.loop-rest.invariant in
    let g = gives c.args.input.now c.args.out.now _ ran in
    (c.list_lent.ensures.0 ∙ g.0, c.list_lent.ensures.1 ∙ g.1)
