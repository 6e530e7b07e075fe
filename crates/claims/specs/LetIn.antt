-- Believed: document 01, The printed day (demand 3). What the rules yield from the records that the refusals let in, and from nothing else.
use Rattle.std.specs.Prelude.{ℕ, List, [], map, Bool, eqb, length, get_or, None, Some}
use Rattle.level.specs.Choice.{pick}
use Rattle.level.specs.Lists.{those, some, filled}
use Rattle.level.specs.Numbers.{instruction_places}
use Rattle.records.specs.declared.UnitData.{UnitData}
use Rattle.records.specs.declared.Opening.{Opening}
use Rattle.records.specs.declared.Instruction.{Instruction}
use Rattle.records.specs.Records.{numbers, unit_of, opening_of, instruction_of, no_instruction}
use Rattle.profile.specs.declared.Taken.{Taken}
use Rattle.profile.specs.Taken.{start_of}
use Rattle.profile.specs.Profile.{Span, Found, spans_of, day_pieces, paper, closing_by}
use Rattle.day.specs.Day.{day_seconds, found_in}
use Rattle.day.specs.Step.{kind_of, body_of}
use Rattle.listing.specs.Listing.{listing}

-- the records of the kind k
unfoldable pub of_kind : ℕ → List (List ℕ) → List (List ℕ)
of_kind k rs = those (λ r. eqb (kind_of r) k) rs

-- whether there is one; the body of the first
unfoldable pub has_kind : ℕ → List (List ℕ) → Bool
has_kind k rs = some (λ r. eqb (kind_of r) k) rs

unfoldable pub body_of_kind : ℕ → List (List ℕ) → List ℕ
body_of_kind k rs = body_of (get_or (of_kind k rs) 0 [])

unfoldable pub unit_in : List (List ℕ) → UnitData
unit_in rs = unit_of (numbers (body_of_kind 1 rs) 62)

unfoldable pub opening_in : List (List ℕ) → Opening
opening_in rs = opening_of (body_of_kind 2 rs)

unfoldable pub instructions_in : List (List ℕ) → List Instruction
instructions_in rs = map (λ r. instruction_of (body_of r)) (of_kind 3 rs)

-- what was taken
unfoldable pub taken_in : List (List ℕ) → Taken
taken_in rs = record {
  unit = pick (has_kind 1 rs) (Some (unit_in rs)) None;
  start = pick (has_kind 2 rs) (Some (start_of (opening_in rs))) None;
  count = length (instructions_in rs);
  instructions = filled instruction_places no_instruction (instructions_in rs);
}

-- what close finds from them
unfoldable pub found_from : List (List ℕ) → Found
found_from rs = found_in paper (taken_in rs)

-- "The day's courses .. are those that the rules above yield from the records that the refusals below let in", each for as long as it lasts
unfoldable pub spans_from : List (List ℕ) → List Span
spans_from rs = spans_of (unit_in rs) day_seconds (found_from rs).courses

-- the listing of the day that they make, byte by byte
unfoldable pub listing_from : List (List ℕ) → List ℕ
listing_from rs =
    let f : Found = found_from rs in
    listing f.fates (day_pieces (spans_from rs)) f.quantities (closing_by f.last f.end)
