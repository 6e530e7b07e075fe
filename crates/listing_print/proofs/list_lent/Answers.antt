use Rattle.std.proofs.Common.{◌≤◌, length, ap, ◌∙◌, arith}
use Rattle.listing.specs.Listing.{printed_day}
use Rattle.listing_print.specs.Parts.{with_finding}
use Rattle.listing_print.proofs.Whole.{printed_is, ask_open, ask_short, ask_room}
use Rattle.listing_print.proofs.list_lent.Goals.{else-not-fits-via-then-not-fits+else-out-day_width, else-not-fits-via-else-not-fits}
use Rattle.listing_print.proofs.list_lent.Goals as goal

pub returns-in_default : goal.returns-in_default
returns-in_default c = ask_open c.args.day.now c.args.out.now c.in_default.is

pub returns-then-out-day_width : goal.returns-then-out-day_width
returns-then-out-day_width c =
    ask_short c.args.day.now c.args.out.now c.in-Some.is (omega (arith, ap length (printed_is c.args.day.now c.args.out.now c.in-Some.is), c.day_width.ensures, c.if-out-day_width.true))

pub returns : goal.returns
returns c =
    let d = c.args.day.now in
    let o = c.args.out.now in
    let fits : length (printed_day (with_finding d.taken c.in-Some.found)) ≤ length o =
    elim c.else-not-fits.branch [
      | else-not-fits-via-then-not-fits+else-out-day_width w ↦ omega (arith, ap length (printed_is d o c.in-Some.is))
      | else-not-fits-via-else-not-fits w ↦ omega (arith, ap length (printed_is d o c.in-Some.is), c.requires w.if-not-fits.false)
    ] in
    let a = ask_room d o c.in-Some.is fits in
    let p = c.put_day.ensures in
    (rw p.count_is a.0, p.bytes ∙ a.1)
