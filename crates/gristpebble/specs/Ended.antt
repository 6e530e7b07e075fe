-- Working. Where a run of records ends: at a close, or at a kind that is none.
use Rattle.std.specs.Prelude.{ℕ, None, Err, eqb}
use Rattle.level.specs.Choice.{pick}
use Rattle.records.specs.declared.Refusal.TheVariants.{UnknownKind}
use Rattle.profile.specs.declared.Taken.{Taken}
use Rattle.profile.specs.Profile.{paper}
use Rattle.day.specs.declared.Day.{Day}
use Rattle.day.specs.declared.Stepped.{Stepped}
use Rattle.day.specs.Day.{found_in}
use Rattle.listing.specs.Program.{Ran}
use Rattle.day_step.specs.Taking.{close_taken}

-- the day that has taken this and is not closed
abbrev pub open_day : Taken → Day
open_day t = record { taken = t; found = None }

abbrev pub after_step : Stepped → Ran
after_step t = record { answer = t.answer; day = t.day }

-- of a record of the kind k, a close or none
unfoldable pub ended_by : Day → ℕ → Ran
ended_by d k = pick (eqb k 4) (after_step (close_taken (found_in paper) d)) (record { answer = Err UnknownKind; day = d })
