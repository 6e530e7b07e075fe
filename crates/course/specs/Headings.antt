-- Working. Facts of direction, for both headings at once.
use Rattle.std.specs.Prelude.{ℕ, ◌+◌, ◌≤◌, ◌<◌, ◌≡◌, Bool, ltb}
use Rattle.course.specs.declared.Heading.{Heading}
use Rattle.course.specs.declared.Heading.TheVariants.{Rising, Falling}

-- w lies strictly past v; v has not gone past t
abbrev pub Past : Heading → ℕ → ℕ → Type 0
Past Rising v w = v < w
Past Falling v w = w < v

abbrev pub Short : Heading → ℕ → ℕ → Type 0
Short Rising t v = v ≤ t
Short Falling t v = t ≤ v

abbrev pub past : Heading → ℕ → ℕ → Bool
past Rising v w = ltb v w
past Falling v w = ltb w v

-- w is v moved by m, and nothing is cut off
abbrev pub Along : Heading → ℕ → ℕ → ℕ → Type 0
Along Rising v m w = w ≡ v + m
Along Falling v m w = w + m ≡ v
