-- The definitions on literals.
use mathlib.Core.Path.{◌≡◌, refl}
use mathlib.Core.List.{[], ◌∷◌}
use Prim.Native.Nat.{ℕ, ◌*◌}
use Rattle.course.specs.Pieces.{seconds, piece, pieces_of, pieces_in}
use Rattle.level.specs.Lists.{those}
use Rattle.course.specs.Lists.{Rates, Lists}
use Rattle.course.specs.Course.{Trajectory, heading, counting, toward, gap, in_use, passed, breaks_in_use, triggers, nearest, holding, rate_at, candidates, next_stop, hold_at, arrived, second, after, stops_from, segments_of, moment_at, level_at, stops, segments}

abbrev flat : Rates
flat = record { rates = 1 ∷ 1 ∷ 1 ∷ []; breaks = 0 ∷ 0 ∷ [] }

abbrev unit : ℕ → Lists
unit r =
    record {
      msg = 6000000;
      column = flat;
      soaks = record { level = 0; minutes = 0 } ∷ record { level = 0; minutes = 0 } ∷ [];
      up = record { rates = r ∷ 1 ∷ 1 ∷ 1 ∷ 1 ∷ []; breaks = 24000000 ∷ 24000000 ∷ 24000000 ∷ 24000000 ∷ [] };
      dwells = record { level = 0; minutes = 0 } ∷ [];
      down = record { rates = 1 ∷ 1 ∷ 1 ∷ 1 ∷ 1 ∷ []; breaks = 0 ∷ 0 ∷ 0 ∷ 0 ∷ [] };
      deload = record { rates = 1 ∷ 1 ∷ []; breaks = 0 ∷ [] };
    }

abbrev paper : Trajectory
paper = record { start = 6000000; target = 103000 * 60; lists = unit 1000 }

paper_levels : level_at paper 0 ∷ level_at paper 179 ∷ level_at paper 180 ∷ level_at paper 181 ∷ [] ≡ 6000000 ∷ 6179000 ∷ 6180000 ∷ 6180000 ∷ []
unfolding level_at moment_at after second arrived rate_at next_stop candidates hold_at holding nearest triggers counting breaks_in_use those passed in_use gap
    toward heading
paper_levels = refl

abbrev short : Trajectory
short = record { start = 6000000; target = 6030000; lists = unit 7000 }

short_levels : level_at short 4 ∷ level_at short 5 ∷ level_at short 6 ∷ [] ≡ 6028000 ∷ 6030000 ∷ 6030000 ∷ []
unfolding level_at moment_at after second arrived rate_at next_stop candidates hold_at holding nearest triggers counting breaks_in_use those passed in_use gap
    toward heading
short_levels = refl

short_stops : stops short ≡ 6030000 ∷ []
unfolding stops stops_from rate_at next_stop candidates hold_at holding nearest triggers counting breaks_in_use those passed in_use gap toward heading
short_stops = refl

-- the listing's course: the S lines from its acting second 120 on, less 120
paper_pieces : pieces_in paper 0 86280 ≡ record { from = 0; to = 180; enter = 6000000; leave = 6180000 } ∷ record
    { from = 180; to = 86280; enter = 6180000; leave = 6180000 } ∷ []
unfolding level_at moment_at after second arrived rate_at next_stop candidates hold_at holding nearest triggers counting breaks_in_use those passed in_use gap
    toward heading stops stops_from segments segments_of pieces_in pieces_of piece seconds
paper_pieces = refl

-- five seconds, the last moving 2,000
short_pieces : pieces_in short 0 10 ≡
    record { from = 0; to = 4; enter = 6000000; leave = 6028000 } ∷ record { from = 4; to = 5; enter = 6028000; leave = 6030000 } ∷
    record { from = 5; to = 10; enter = 6030000; leave = 6030000 } ∷ []
unfolding level_at moment_at after second arrived rate_at next_stop candidates hold_at holding nearest triggers counting breaks_in_use those passed in_use gap
    toward heading stops stops_from segments segments_of pieces_in pieces_of piece seconds
short_pieces = refl

-- down to a dwell's own level: it holds at the two dwells of 800, added, and not at the target
abbrev fall : Trajectory
fall = record {
  start = 1000;
  target = 600;
  lists = record {
    msg = 600;
    column = flat;
    soaks = [];
    up = flat;
    dwells = record { level = 600; minutes = 5 } ∷ record { level = 800; minutes = 1 } ∷ record { level = 800; minutes = 2 } ∷ [];
    down = record { rates = 30 ∷ 50 ∷ 70 ∷ []; breaks = 700 ∷ 900 ∷ [] };
    deload = flat;
  };
}

fall_pieces : pieces_in fall 0 600 ≡
    record { from = 0; to = 1; enter = 1000; leave = 930 } ∷ record { from = 1; to = 2; enter = 930; leave = 900 } ∷
    record { from = 2; to = 4; enter = 900; leave = 800 } ∷ record { from = 4; to = 184; enter = 800; leave = 800 } ∷
    record { from = 184; to = 186; enter = 800; leave = 700 } ∷ record { from = 186; to = 189; enter = 700; leave = 610 } ∷
    record { from = 189; to = 190; enter = 610; leave = 600 } ∷ record { from = 190; to = 600; enter = 600; leave = 600 } ∷ []
unfolding level_at moment_at after second arrived rate_at next_stop candidates hold_at holding nearest triggers counting breaks_in_use those passed in_use gap
    toward heading stops stops_from segments segments_of pieces_in pieces_of piece seconds
fall_pieces = refl
