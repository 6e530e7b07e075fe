-- Working. The parts of a listing.
use Rattle.std.specs.Prelude.{ℕ, ◌+◌, ◌*◌, List, take, Some}
use Rattle.level.specs.Numbers.{most_half_hours, instruction_places, course_places}
use Rattle.profile.specs.declared.Taken.{Taken}
use Rattle.profile.specs.declared.Finding.{Finding}
use Rattle.profile.specs.Taken.{unit_or_zeros}
use Rattle.day.specs.declared.Day.{Day}
use Rattle.day.specs.Day.{half_hours, day_seconds, closing_in, finding_in}
use Rattle.listing_parts.specs.Rest.{fate_lines, courses_lines, quantity_lines, closing_line}

-- the closed day of what was let in and what close found
abbrev pub with_finding : Taken → Finding → Day
with_finding t f = record { taken = t; found = Some f }

-- the F, S and Q lines of a day, and its E line
abbrev pub lines_f : Day → List ℕ
lines_f d = fate_lines d.taken.count (finding_in d).fates

abbrev pub lines_s : Day → List ℕ
lines_s d = courses_lines (unit_or_zeros d.taken) day_seconds (take (finding_in d).started (finding_in d).courses)

abbrev pub lines_q : Day → List ℕ
lines_q d = quantity_lines half_hours (finding_in d).sums

abbrev pub line_e : Day → List ℕ
line_e d = closing_line (closing_in d)

-- more bytes than they ever have: 44 an F line, 86 an S line of each second of each course, 65 a Q line, 86 the E line
abbrev pub most_f : ℕ
most_f = 44 * instruction_places

abbrev pub most_s : ℕ
most_s = 369367187370 * course_places

abbrev pub most_q : ℕ
most_q = 65 * most_half_hours

abbrev pub most_e : ℕ
most_e = 86

abbrev pub most_bytes : ℕ
most_bytes = most_f + (most_s + (most_q + most_e))
