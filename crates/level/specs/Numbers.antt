-- Believed: document 01, Units and records. Numbers that more than one place needs, each said once; `level/src` has the same as constants.
use Rattle.std.specs.Prelude.{ℕ, suc}

-- "a half-hour 1,800" seconds
abbrev pub half_hour : ℕ
half_hour = 1800

-- the half-hours of the longest day that there is; its boundaries are one more
abbrev pub most_half_hours : ℕ
most_half_hours = 48

abbrev pub boundary_places : ℕ
boundary_places = suc most_half_hours

-- "At most 40 instructions"; a course for each of them, and that of the start
abbrev pub instruction_places : ℕ
instruction_places = 40

abbrev pub course_places : ℕ
course_places = suc instruction_places
