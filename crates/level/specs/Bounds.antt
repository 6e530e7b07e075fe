-- Working. Bounds that proofs and the contracts of code need.
use Rattle.std.specs.Prelude.{ℕ, ◌*◌, ◌^◌}
use Rattle.level.specs.Numbers.{half_hour, most_half_hours}

-- every level (grains) of a course lies below this: a figure of 32 bits of kW comes to at most 60 * 2^32 grains, which is below 2^38
abbrev pub level_bound : ℕ
level_bound = 2 ^ 38

-- the seconds of the longest day that there is
abbrev pub most_seconds : ℕ
most_seconds = half_hour * most_half_hours
