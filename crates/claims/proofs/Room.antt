-- A closed day is what the definitions give, figure by figure; its listing has at most 46,080 bytes.
use mathlib.Core.Path.{◌≡◌, ap, sym, ◌∙◌, subst}
use mathlib.Core.List.{List, [], ◌∷◌}
use mathlib.Core.Bool.{true}
use Prim.Native.Nat.{ℕ, zero, suc, ◌+◌, ◌≤◌, ◌<◌}
use native.Mathlib.Omega.{arith}
use lib.ListN.{length, take}
use borrow.Author.Tests.{le-ltb}
use Rattle.level.specs.Level.{grains}
use Rattle.level.specs.Lists.{All, filled, list_from}
use Rattle.level.specs.Bounds.{most_seconds}
use Rattle.level.specs.Numbers.{instruction_places, course_places}
use Rattle.records.specs.declared.UnitData.{UnitData}
use Rattle.std.specs.Prelude.{Ok}
use Rattle.records.specs.Records.{numbers}
use Rattle.course.specs.declared.Course.{Course}
use Rattle.course.specs.declared.Piece.{Piece}
use Rattle.profile.specs.declared.Taken.{Taken}
use Rattle.profile.specs.declared.Finding.{Finding}
use Rattle.profile.specs.declared.Closing.{Closing}
use Rattle.profile.specs.Profile.{spans_of, day_pieces, recorded_in, rounded, Found, closing_by}
use Rattle.course.specs.Course.{no_course}
use Rattle.profile.specs.Finding.{arrays_of, quantity_at}
use Rattle.profile.specs.Taken.{unit_or_zeros}
use Rattle.profile.proofs.Whole.{list_same}
use Rattle.profile.proofs.Most.{SpanBelow}
use Rattle.profile.proofs.Found.{spans, list_length, found_quantities, quantity_from_sums, levels_below, quantities_below}
use Rattle.profile.proofs.Room.{Sized, sized, PieceBelow, ClosingBelow, pieces_few, pieces_below, courses_few, fates_are_digits, fates_many, found_closing}
use Rattle.day.specs.declared.Day.{Day}
use Rattle.day.specs.Day.{half_hours, day_seconds, empty, fates_in, courses_in, quantities_in, closing_in, found_in, is_closed, finding_in}
use Rattle.listing.specs.Listing.{suffices, listing, printed_day, list_answer}
use Rattle.listing.proofs.Room.{enough}
use Rattle.claims.specs.Calls.{Call, day_after, records_of}
use Rattle.claims.specs.LetIn.{body_of_kind, unit_in, instructions_in, taken_in, found_from, spans_from}
use Rattle.level.proofs.Arrays.{filled_listed}
use Rattle.claims.proofs.Low.{capacity_low, maximum_low}
use Rattle.claims.proofs.Made.{Made, made_empty, taken_unit}
use Rattle.claims.proofs.Run.{made_after}
use Rattle.claims.proofs.Claim.{unit_is, unit_fields, start_keeps, sums_stored, chain, entered_are}

list_all : (P : ℕ → Type 0) (g : ℕ → ℕ) (a n : ℕ) → ((i : ℕ) → i < a + n → P (g i)) → All P (list_from g a n)
unfolding list_from
list_all P g a zero h = tt
list_all P g a (suc n) h = (h a (omega arith), list_all P g (suc a) n (λ i l. h i (omega arith)))

wide : (m : ℕ) → m ≤ 2000000 → grains m ≤ 120000000
unfolding grains
wide m h = omega arith

pieces_wider : (m : ℕ) (ps : List Piece) → m ≤ 120000000 → All (PieceBelow most_seconds m) ps → All (PieceBelow most_seconds 120000000) ps
pieces_wider m [] h b = tt
pieces_wider m (p ∷ ps) h b =
    (record { from = b.0.from; to = b.0.to; enter = omega (arith, b.0.enter); leave = omega (arith, b.0.leave) }, pieces_wider m ps h b.1)

all_wider : (m : ℕ) (qs : List ℕ) → m ≤ 2000000 → All (λ (q : ℕ). q ≤ m) qs → All (λ (q : ℕ). q ≤ 2000000) qs
all_wider m [] h b = tt
all_wider m (q ∷ qs) h b = (omega (arith, b.0), all_wider m qs h b.1)

-- ---- a closed day that the records rs made
module _ (d : Day) (rs : List (List ℕ)) (m : Made d rs) (c : is_closed d ≡ true) where
  abbrev f : Found
  f = found_from rs

  abbrev t : Taken
  t = taken_in rs

  abbrev ns : List ℕ
  ns = numbers (body_of_kind 1 rs) 62

  count_is : d.taken.count ≡ length (instructions_in rs)
  unfolding taken_in
  count_is = ap (λ (x : Taken). x.count) m.taken

  fates_are_many : length f.fates ≡ length (instructions_in rs)
  unfolding found_from found_in
  fates_are_many = fates_many half_hours t ∙ ap length (entered_are d rs m c)

  few : length f.courses ≤ course_places
  unfolding found_from found_in
  few = omega (arith, courses_few half_hours t, ap length (entered_are d rs m c), m.fits.few)

  -- "fates, profile, quantities and closing state" as defined from the records let in
  pub fates_stored : fates_in d ≡ f.fates
  unfolding fates_in arrays_of
  fates_stored =
      ap (λ (x : Finding). take d.taken.count x.fates) (m.stored c)
      ∙ (ap (λ (k : ℕ). take k (filled instruction_places 0 f.fates)) (count_is ∙ sym fates_are_many)
      ∙ filled_listed 0 instruction_places f.fates (omega (arith, fates_are_many, m.fits.few)))

  pub courses_stored : courses_in d ≡ f.courses
  unfolding courses_in arrays_of
  courses_stored = ap (λ (x : Finding). take x.started x.courses) (m.stored c) ∙ filled_listed no_course course_places f.courses few

  pub closing_stored : closing_in d ≡ closing_by f.last f.end
  unfolding arrays_of
  closing_stored = ap (λ (x : Finding). closing_by x.last x.end) (m.stored c)

  pub quantities_stored : quantities_in d ≡ f.quantities
  unfolding quantities_in quantity_at found_from found_in
  quantities_stored =
      ap (λ (l : List ℕ). list_from (quantity_at l) 0 half_hours) (sums_stored d rs m c)
      ∙ (list_same (quantity_at f.sums) (λ i. rounded (recorded_in (spans half_hours t) i)) 0 half_hours
      (λ i h. quantity_from_sums half_hours t i (omega arith))
      ∙ sym (found_quantities half_hours t))

  -- ---- figures
  capacity_fits : (unit_or_zeros t).capacity ≤ (unit_or_zeros t).maximum
  unfolding unit_in
  capacity_fits = rw (taken_unit rs) (capacity_low ns (unit_fields d rs m c))

  maximum_fits : (unit_in rs).maximum ≤ 2000000
  unfolding unit_in
  maximum_fits = maximum_low ns (unit_fields d rs m c)

  spans_low : All (SpanBelow (grains (unit_in rs).maximum)) (spans_of (unit_in rs) day_seconds f.courses)
  unfolding found_from found_in
  spans_low = subst (λ (u : UnitData). All (SpanBelow (grains u.maximum)) (spans_of u day_seconds f.courses)) (taken_unit rs)
      (levels_below half_hours t capacity_fits (start_keeps d rs m c))

  quantities_low : (i : ℕ) → i < half_hours → quantity_at (finding_in d).sums i ≤ (unit_in rs).maximum
  unfolding quantity_at found_from found_in
  quantities_low i h =
      rw (ap (λ (l : List ℕ). quantity_at l i) (sums_stored d rs m c) ∙ quantity_from_sums half_hours t i h)
      (subst (λ (u : UnitData). rounded (recorded_in (spans half_hours t) i) ≤ u.maximum) (taken_unit rs)
      (quantities_below half_hours t capacity_fits (start_keeps d rs m c) i))

  quantities_many : length (quantities_in d) ≡ half_hours
  unfolding quantities_in
  quantities_many = list_length (quantity_at (finding_in d).sums) 0 half_hours

  sizes : Sized (unit_in rs)
  unfolding unit_in
  sizes = sized ns

  -- no quantity of a closed day exceeds the short-term maximum
  pub no_quantity_above : All (λ (q : ℕ). q ≤ (unit_in rs).maximum) (quantities_in d)
  unfolding quantities_in
  no_quantity_above = list_all (λ (q : ℕ). q ≤ (unit_in rs).maximum) (quantity_at (finding_in d).sums) 0 half_hours (λ i h. quantities_low i h)

  abbrev closing : Closing
  closing = closing_by f.last f.end

  closing_low : ClosingBelow (unit_in rs).maximum closing
  unfolding found_from found_in
  closing_low = subst (λ (u : UnitData). ClosingBelow u.maximum closing) (taken_unit rs)
      (found_closing half_hours t capacity_fits (start_keeps d rs m c))

  fates_low : All (λ (x : ℕ). x ≤ 8) f.fates
  unfolding found_from found_in
  fates_low = fates_are_digits half_hours t

  pieces_low : All (PieceBelow day_seconds (grains (unit_in rs).maximum)) (day_pieces (spans_of (unit_in rs) day_seconds f.courses))
  unfolding spans_from
  pieces_low =
      pieces_below (grains (unit_in rs).maximum) 0 day_seconds day_seconds (omega arith) (spans_of (unit_in rs) day_seconds f.courses)
      (chain d rs m c) spans_low

  -- the printed day is what the definitions give from the records let in
  pub printed_is : printed_day d ≡ listing f.fates (day_pieces (spans_of (unit_in rs) day_seconds f.courses)) (quantities_in d) closing
  unfolding printed_day
  printed_is =
      ap (λ (x : List ℕ). listing x (day_pieces (spans_of (unit_or_zeros d.taken) day_seconds (courses_in d))) (quantities_in d) (closing_in d)) fates_stored
      ∙ (ap (λ (x : List Course). listing f.fates (day_pieces (spans_of (unit_or_zeros d.taken) day_seconds x)) (quantities_in d) (closing_in d))
      courses_stored
      ∙ (ap (λ (x : UnitData). listing f.fates (day_pieces (spans_of x day_seconds f.courses)) (quantities_in d) (closing_in d)) (unit_is d rs m c)
      ∙ ap (listing f.fates (day_pieces (spans_of (unit_in rs) day_seconds f.courses)) (quantities_in d)) closing_stored))

  -- "46,080 bytes always suffice"
  pub listing_fits : length (printed_day d) ≤ suffices
  listing_fits =
      let u : UnitData = unit_in rs in
      let ps : List Piece = day_pieces (spans_of u day_seconds f.courses) in
      omega (
        arith,
        ap length printed_is,
        enough f.fates ps (quantities_in d) closing u.maximum maximum_fits
            (omega (arith, fates_are_many, m.fits.few))
            (omega (arith, pieces_few u sizes day_seconds f.courses, few))
            (omega (arith, quantities_many))
            fates_low
            (pieces_wider (grains u.maximum) ps (wide u.maximum maximum_fits) pieces_low)
            (all_wider u.maximum (quantities_in d) maximum_fits no_quantity_above)
            closing_low,
      )

  -- so a slice of that length is always long enough
  pub always_listed : (o : List ℕ) → suffices ≤ length o → list_answer d o ≡ Ok tt
  unfolding list_answer
  always_listed o h = simp (c, le-ltb (length o) (length (printed_day d)) (omega (arith, listing_fits)))

-- over every list of calls that leaves the day closed
pub listing_suffices : (calls : List Call) → is_closed (day_after calls) ≡ true → length (printed_day (day_after calls)) ≤ suffices
listing_suffices calls c = listing_fits (day_after calls) (records_of calls) (made_after calls empty [] made_empty) c
