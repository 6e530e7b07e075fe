use Rattle.std.proofs.Common.{◌≡◌, ap, ◌∙◌, length, Bor, arith}
use Rattle.profile.specs.declared.Finding.{Finding}
use Rattle.day.specs.Day.{finding_in}
use Rattle.listing.specs.Listing.{printed_day}
use Rattle.listing_print.specs.Parts.{with_finding}
use Rattle.listing_print.proofs.Whole.{same_day, found_is}
use Rattle.listing_print.proofs.day_width.Goals as goal

pub returns : goal.returns
returns c =
    let d = c.args.day.now in
    let found : c.unwrap_or-found.result.now ≡ finding_in d =
    ap (λ (b : Bor Finding). b.now) c.unwrap_or-found.ensures ∙ found_is d c.as_ref.result _ c.as_ref.ensures.value c.none-none.ensures in
    omega (
      arith,
      c.put_lines.ensures.count_is,
      c.default-measure.ensures,
      ap (λ (f : Finding). length (printed_day (with_finding d.taken f))) found ∙ ap length (same_day d),
    )
