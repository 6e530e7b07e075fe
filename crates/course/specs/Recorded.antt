-- Working. Segments as whole seconds record them, straight lines within a second, and what the theorems ask of segments.
use Rattle.std.specs.Prelude.{ℕ, suc, ◌+◌, ◌*◌, ◌-◌, ◌/◌, ◌%◌, min, ◌≤◌, List, [], ◌∷◌}
use Rattle.std.specs.Int.{◌∣◌}
use Rattle.level.specs.Lists.{sum}
use Rattle.course.specs.declared.Segment.{Segment}
use Rattle.course.specs.declared.Piece.{Piece}
use Rattle.course.specs.Pieces.{seconds}

-- recorded progress after k whole seconds
unfoldable pub recorded : List Segment → ℕ → ℕ
recorded [] k = 0
recorded (l ∷ ls) k = min (k * l.rate) l.way + recorded ls (k - (seconds l + l.hold))

-- the ways added up
unfoldable pub whole_way : List Segment → ℕ
whole_way [] = 0
whole_way (l ∷ ls) = l.way + whole_way ls

-- twice the area under f over n steps from a, by trapezia
unfoldable pub area : (ℕ → ℕ) → ℕ → ℕ → ℕ
area f a n = sum (λ j. f j + f (suc j)) a n

-- a function of whole seconds, times p, read at ticks by a straight line within each second
unfoldable pub between : ℕ → (ℕ → ℕ) → ℕ → ℕ
between p f j = p * f (j / p) + j % p * (f (suc (j / p)) - f (j / p))

-- recorded progress read at ticks
unfoldable pub recorded_tick : ℕ → List Segment → ℕ → ℕ
recorded_tick p ls j = between p (recorded ls) j

-- what the theorems ask of segments: some way, a rate of at least 1
pub record SegmentValid (l : Segment) : Type 0 where
  pub some_way : 1 ≤ l.way
  pub some_rate : 1 ≤ l.rate

abbrev pub Valid : List Segment → Type 0
Valid [] = Unit {0}
Valid (l ∷ ls) = SegmentValid l × Valid ls

-- the same, and each rate divides p
pub record SegmentOk (p : ℕ) (l : Segment) : Type 0 where
  pub some_way : 1 ≤ l.way
  pub some_rate : 1 ≤ l.rate
  pub divides : l.rate ∣ p

abbrev pub Ok : ℕ → List Segment → Type 0
Ok p [] = Unit {0}
Ok p (l ∷ ls) = SegmentOk p l × Ok p ls

-- twice the area of pieces: time by the sum of the levels at the two ends
unfoldable pub twice_area : List Piece → ℕ
twice_area [] = 0
twice_area (p ∷ ps) = (p.to - p.from) * (p.enter + p.leave) + twice_area ps
