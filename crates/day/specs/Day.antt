-- Believed: document 01, Units and records. The day: what was let in, and once it is closed, what close found.
use Rattle.std.specs.Prelude.{ℕ, ◌*◌, List, Bool, eqb, take, None, Some}
use Rattle.std.specs.Option.{is_some, unwrap_or}
use Rattle.level.specs.Choice.{pick}
use Rattle.level.specs.Lists.{list_from}
use Rattle.level.specs.Numbers.{half_hour, most_half_hours}
use Rattle.course.specs.declared.Course.{Course}
use Rattle.profile.specs.declared.Closing.{Closing}
use Rattle.profile.specs.declared.Finding.{Finding}
use Rattle.profile.specs.declared.Taken.{Taken}
use Rattle.profile.specs.Taken.{no_taken, taken_with}
use Rattle.profile.specs.Profile.{Way, Found, found, closing_by}
use Rattle.profile.specs.Finding.{no_finding, arrays_of, quantity_at}
use Rattle.day.specs.declared.Day.{Day}

-- "the day is 0 to 86,400, a half-hour 1,800"; "half-hours 1 to 48"
abbrev pub half_hours : ℕ
half_hours = most_half_hours

abbrev pub day_seconds : ℕ
day_seconds = half_hour * half_hours

-- what close finds from what was taken
unfoldable pub found_in : Way → Taken → Found
found_in w t = found w half_hours t

-- "an empty day, one that has taken no record"
unfoldable pub empty : Day
empty = record { taken = no_taken; found = None }

-- closed: close has found something
abbrev pub is_closed : Day → Bool
is_closed d = is_some d.found

-- with a record of the kind k and the body b; close, kind 4, stores what find gives
unfoldable pub day_with : (Taken → Found) → Day → ℕ → List ℕ → Day
day_with find d k b = record {
  taken = taken_with d.taken k b;
  found = pick (eqb k 4) (Some (arrays_of (find d.taken))) d.found;
}

-- what a closed day holds; zeros before it is closed
abbrev pub finding_in : Day → Finding
finding_in d = unwrap_or d.found no_finding

unfoldable pub fates_in : Day → List ℕ
fates_in d = take d.taken.count (finding_in d).fates

unfoldable pub courses_in : Day → List Course
courses_in d = take (finding_in d).started (finding_in d).courses

unfoldable pub quantities_in : Day → List ℕ
quantities_in d = list_from (quantity_at (finding_in d).sums) 0 half_hours

abbrev pub closing_in : Day → Closing
closing_in d = closing_by (finding_in d).last (finding_in d).end
