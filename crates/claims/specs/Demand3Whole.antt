-- Believed: document 01, The printed day (demand 3). Demand 3 with where each course starts: over every list of calls from the empty day.
use Rattle.std.specs.Prelude.{ℕ, ◌≡◌, List, true}
use Rattle.validation.specs.Kept.{numbered, validated}
use Rattle.profile.specs.Profile.{Chain}
use Rattle.profile.specs.Starts.{CoursesStart}
use Rattle.day.specs.Day.{day_seconds, quantities_in, is_closed}
use Rattle.claims.specs.Calls.{Call, day_after, records_of, listings_of}
use Rattle.claims.specs.LetIn.{unit_in, opening_in, instructions_in, found_from, spans_from}
use Rattle.claims.specs.Demand3.{Demand3}

-- of the records rs let in, the quantities of the day that they leave, and the bytes that its accepted listings wrote
pub record Demand3Whole (rs : List (List ℕ)) (quantities : List ℕ) (listings : List (List ℕ)) : Type 0 where
  pub demand3 : Demand3 (spans_from rs) quantities listings
  -- the courses fill the day
  pub fill : Chain 0 (spans_from rs) day_seconds
  -- "The exact profile starts each course at the level we recorded": each where the one before ends, or at the step from 0, or at 0 for a TRIP;
  -- the first at the opening's level, or at its step
  pub starts :
      CoursesStart (unit_in rs) (validated day_seconds (numbered 1 (instructions_in rs))).acts (opening_in rs).level (found_from rs).courses

abbrev pub Demand3WholeClaim : Type 0
Demand3WholeClaim =
    (calls : List Call) → is_closed (day_after calls) ≡ true → Demand3Whole (records_of calls) (quantities_in (day_after calls)) (listings_of calls)
