-- Demand 3, proved.
use mathlib.Core.Path.{◌≡◌, ap, sym, ◌∙◌, subst}
use mathlib.Core.List.{List, [], ◌∷◌}
use mathlib.Core.Bool.{true}
use Prim.Native.Nat.{ℕ, suc, ◌+◌, ◌-◌, ◌<◌}
use native.Mathlib.Omega.{arith}
use lib.ListN.{length, get_or}
use Rattle.level.specs.Lists.{All}
use Rattle.level.specs.Numbers.{instruction_places, boundary_places}
use Rattle.records.specs.declared.UnitData.{UnitData}
use Rattle.records.specs.declared.Instruction.{Instruction}
use Rattle.records.specs.Records.{numbers, no_instruction}
use Rattle.records.specs.Fields.{unit_answer}
use Rattle.std.specs.Prelude.{Ok}
use Rattle.validation.specs.Kept.{numbered, validated}
use Rattle.profile.specs.declared.Start.{Start}
use Rattle.profile.specs.declared.Taken.{Taken}
use Rattle.profile.specs.declared.Finding.{Finding}
use Rattle.profile.specs.Bounds.{Low}
use Rattle.profile.specs.Profile.{Span, spans_of, day_pieces, recorded_to, recorded_in, rounded, Chain}
use Rattle.profile.specs.Finding.{arrays_of, quantity_at}
use Rattle.profile.specs.Taken.{start_of, entered, unit_or_zeros, start_or_zeros}
use Rattle.profile.specs.Starts.{CoursesStart}
use Rattle.profile.proofs.Starts.{courses_start}
use Rattle.profile.proofs.Rates.{Fit, fit_of}
use Rattle.profile.proofs.Near.{Drives, spans_drive, quantities_near, moves, starts_recorded, all_map}
use Rattle.profile.proofs.Found.{spans, list_length, list_at, found_tiles, found_sums, quantity_from_sums}
use Rattle.day.specs.declared.Day.{Day}
use Rattle.day.specs.Day.{half_hours, day_seconds, empty, fates_in, courses_in, quantities_in, closing_in, found_in, is_closed, finding_in}
use Rattle.listing.specs.Listing.{printed_day}
use Rattle.listing.specs.Reader.{printed_at, first_of, printed_kw}
use Rattle.listing.proofs.Read.{printed, printed_kw_lem}
use Rattle.claims.specs.Calls.{day_after, records_of, listings_of}
use Rattle.claims.specs.LetIn.{body_of_kind, unit_in, opening_in, instructions_in, taken_in, found_from, spans_from}
use Rattle.claims.specs.Demand3.{Near, Single, Demand3, Demand3Claim}
use Rattle.claims.specs.Demand3Whole.{Demand3Whole, Demand3WholeClaim}
use Rattle.level.proofs.Arrays.{filled_whole, filled_listed}
use Rattle.claims.proofs.Made.{Made, made_empty, taken_unit, taken_start, keeps}
use Rattle.claims.proofs.Run.{made_after, wrote_are}

-- ---- a closed day that the records rs made
module _ (d : Day) (rs : List (List ℕ)) (m : Made d rs) (c : is_closed d ≡ true) where
  pub unit_is : unit_or_zeros d.taken ≡ unit_in rs
  unit_is = ap (λ (t : Taken). unit_or_zeros t) m.taken ∙ taken_unit rs

  pub unit_fields : unit_answer (numbers (body_of_kind 1 rs) 62) ≡ Ok tt
  unit_fields = m.fits.unit (keeps rs m.fits (m.started c)).0

  pub start_keeps : Low (unit_or_zeros (taken_in rs)) (start_or_zeros (taken_in rs))
  start_keeps = (keeps rs m.fits (m.started c)).1

  spans_are : spans half_hours (taken_in rs) ≡ spans_from rs
  unfolding spans_from found_from found_in
  spans_are = ap (λ (u : UnitData). spans_of u day_seconds (found_from rs).courses) (taken_unit rs)

  -- the sums that it holds are those that the definitions give from the records let in
  pub sums_stored : (finding_in d).sums ≡ (found_from rs).sums
  unfolding arrays_of found_from found_in
  sums_stored =
      ap (λ (f : Finding). f.sums) (m.stored c)
      ∙ filled_whole 0 boundary_places (found_from rs).sums
      (ap length (found_sums half_hours (taken_in rs)) ∙ list_length (recorded_to (spans half_hours (taken_in rs))) 0 (suc half_hours))

  fit : Fit (unit_in rs)
  unfolding unit_in
  fit = fit_of (numbers (body_of_kind 1 rs) 62) unit_fields

  pub chain : Chain 0 (spans_from rs) day_seconds
  chain = subst (λ (ss : List Span). Chain 0 ss day_seconds) spans_are (found_tiles half_hours (taken_in rs))

  pub drives : Drives (spans_from rs)
  unfolding spans_from
  drives = spans_drive (unit_in rs) fit day_seconds (found_from rs).courses

  quantity_is : (i : ℕ) → i < half_hours → get_or (quantities_in d) i 0 ≡ rounded (recorded_in (spans_from rs) i)
  unfolding quantities_in quantity_at found_from found_in
  quantity_is i h =
      list_at (quantity_at (finding_in d).sums) 0 half_hours i h
      ∙ (ap (quantity_at (finding_in d).sums) {x = 0 + i} {y = i} (omega arith)
      ∙ (ap (λ (l : List ℕ). quantity_at l i) sums_stored
      ∙ (quantity_from_sums half_hours (taken_in rs) i h ∙ ap (λ (ss : List Span). rounded (recorded_in ss i)) spans_are)))

  many : length (quantities_in d) ≡ half_hours
  unfolding quantities_in
  many = list_length (quantity_at (finding_in d).sums) 0 half_hours

  stored : Near (spans_from rs) (λ i. get_or (quantities_in d) i 0)
  stored = quantities_near half_hours (spans_from rs) chain drives (λ i. get_or (quantities_in d) i 0) quantity_is

  printed_near : (w : List ℕ) → w ≡ printed_day d → Near (spans_from rs) (λ i. printed_kw w (suc i))
  unfolding printed_day
  printed_near w e =
      quantities_near half_hours (spans_from rs) chain drives (λ i. printed_kw w (suc i))
      (λ i h. ap (λ (v : List ℕ). printed_kw v (suc i)) e
      ∙ (printed_kw_lem (fates_in d) (day_pieces (spans_of (unit_or_zeros d.taken) day_seconds (courses_in d))) (quantities_in d) (closing_in d) i (omega (arith, many))
      ∙ quantity_is i h))

  one_each : (w : List ℕ) → w ≡ printed_day d → Single w
  unfolding printed_day printed_kw
  one_each w e h lo hi =
      let f : printed_at w h ≡ get_or (quantities_in d) (h - 1) 0 ∷ [] =
      ap (λ (v : List ℕ). printed_at v h) e
      ∙ printed (fates_in d) (day_pieces (spans_of (unit_or_zeros d.taken) day_seconds (courses_in d))) (quantities_in d) (closing_in d) h lo (omega (arith, many))
      in
      f ∙ ap (λ (l : List ℕ). first_of l ∷ []) (sym f)

  -- the instructions that close goes by are those let in
  pub entered_are : entered (taken_in rs) ≡ instructions_in rs
  unfolding entered taken_in
  entered_are = filled_listed no_instruction instruction_places (instructions_in rs) m.fits.few

  courses_begin :
      CoursesStart (unit_in rs) (validated day_seconds (numbered 1 (instructions_in rs))).acts (opening_in rs).level (found_from rs).courses
  unfolding found_from found_in start_of
  courses_begin =
      subst (λ (is : List Instruction).
      CoursesStart (unit_in rs) (validated day_seconds (numbered 1 is)).acts (opening_in rs).level (found_from rs).courses)
      entered_are
      (subst (λ (u : UnitData).
      CoursesStart u (validated day_seconds (numbered 1 (entered (taken_in rs)))).acts (opening_in rs).level (found_from rs).courses) (taken_unit rs)
      (subst (λ (s : Start).
      CoursesStart (unit_or_zeros (taken_in rs)) (validated day_seconds (numbered 1 (entered (taken_in rs)))).acts s.level (found_from rs).courses)
      (taken_start rs) (courses_start half_hours (taken_in rs))))

  demand : (ws : List (List ℕ)) → All (λ w. w ≡ printed_day d) ws → Demand3 (spans_from rs) (quantities_in d) ws
  demand ws a = record {
    stored = stored;
    printed = all_map (λ w. w ≡ printed_day d) (λ w. Near (spans_from rs) (λ i. printed_kw w (suc i))) printed_near ws a;
    single = all_map (λ w. w ≡ printed_day d) Single one_each ws a;
    begins = starts_recorded 0 day_seconds (spans_from rs) chain;
    rises = λ t h. (moves 0 day_seconds (spans_from rs) chain t (omega arith) h).0;
    falls = λ t h. (moves 0 day_seconds (spans_from rs) chain t (omega arith) h).1;
  }

  demand_whole : (ws : List (List ℕ)) → All (λ w. w ≡ printed_day d) ws → Demand3Whole rs (quantities_in d) ws
  demand_whole ws a = record {
    demand3 = demand ws a;
    fill = chain;
    starts = courses_begin;
  }

-- over every list of calls from the empty day
pub demand3 : Demand3Claim
demand3 calls c = demand (day_after calls) (records_of calls) (made_after calls empty [] made_empty) c (listings_of calls) (wrote_are calls empty)

-- with where each course starts
pub demand3_whole : Demand3WholeClaim
demand3_whole calls c = demand_whole (day_after calls) (records_of calls) (made_after calls empty [] made_empty) c (listings_of calls) (wrote_are calls empty)
