-- Believed: document 01, Try. The starred cases: the bytes sent, and what is asked of the day.
use Rattle.std.specs.Prelude.{ℕ, ◌/◌, ◌%◌, List, [], ◌∷◌, ◌++◌, get_or, replicate}
use Rattle.records.specs.declared.Effect.{Effect}
use Rattle.records.specs.declared.Effect.TheVariants.{Trip, Mwof, Sync, Fail}
use Rattle.records.specs.Answers.{number_of}
use Rattle.records.specs.Codes.{code_number}
use Rattle.course.specs.declared.Piece.{Piece}
use Rattle.profile.specs.declared.Taken.{Taken}
use Rattle.profile.specs.Profile.{Found, spans_of, day_pieces}
use Rattle.profile.specs.Taken.{unit_or_zeros}
use Rattle.day.specs.declared.Day.{Day}
use Rattle.day.specs.Day.{day_seconds, empty, fates_in, courses_in, quantities_in}
use Rattle.day.specs.Step.{answer_by, step_by}
use Rattle.listing.specs.Listing.{printed_day}

-- a number in four bytes, big-endian; several
unfoldable pub word : ℕ → List ℕ
word n = n / 16777216 % 256 ∷ n / 65536 % 256 ∷ n / 256 % 256 ∷ n % 256 ∷ []

unfoldable pub words : List ℕ → List ℕ
words [] = []
words (n ∷ ns) = word n ++ words ns

-- a start-up column with rates of 1 and nothing else
unfoldable pub plain_column : List ℕ
plain_column = 0 ∷ 1 ∷ 1 ∷ 1 ∷ 0 ∷ 0 ∷ 0 ∷ 0 ∷ 0 ∷ 0 ∷ []

-- "capacity and short-term maximum 400,000, MSG 100,000, ramp-up rate 1 1,000, ramp-up breaks 400,000, other rates 1, the rest 0";
-- with another ramp-up rate 1 where a case gives one
unfoldable pub unit_record : ℕ → List ℕ
unit_record rate =
    1
    ∷ words
    ((400000 ∷ 400000 ∷ 100000 ∷ 0 ∷ 0 ∷ [])
    ++ (plain_column ++ (plain_column ++ (plain_column
    ++ ((rate ∷ 1 ∷ 1 ∷ 1 ∷ 1 ∷ 400000 ∷ 400000 ∷ 400000 ∷ 400000 ∷ [])
    ++ (replicate 6 0
    ++ ((1 ∷ 1 ∷ 1 ∷ 1 ∷ 1 ∷ 0 ∷ 0 ∷ 0 ∷ 0 ∷ []) ++ (1 ∷ 1 ∷ 0 ∷ []))))))))

-- level (grains) and target (kW), heat 1, seconds off 0
unfoldable pub opening_record : ℕ → ℕ → List ℕ
opening_record level target = 2 ∷ words (level ∷ target ∷ 1 ∷ 0 ∷ [])

-- code, effective time, level; issued at 0, no rates
unfoldable pub instruction_record : Effect → ℕ → ℕ → List ℕ
instruction_record c t level = 3 ∷ (words (t ∷ 0 ∷ []) ++ (code_number c ∷ words (level ∷ 0 ∷ 0 ∷ [])))

-- "The listing's unit and opening serve where none is given"
unfoldable pub usual : List (List ℕ) → List (List ℕ)
usual rs = unit_record 1000 ∷ opening_record 6000000 100000 ∷ rs

unfoldable pub trip_at : ℕ → List (List ℕ)
trip_at t = unit_record 1000 ∷ opening_record 60 1 ∷ instruction_record Trip t 0 ∷ []

unfoldable pub fail_at : ℕ → List (List ℕ)
fail_at t = instruction_record Sync 3600 0 ∷ instruction_record Mwof 5000 103000 ∷ instruction_record Fail t 0 ∷ []

-- seconds and levels of pieces
unfoldable pub figures : List Piece → List ℕ
figures [] = []
figures (p ∷ ps) = p.from ∷ p.to ∷ p.enter ∷ p.leave ∷ figures ps

-- ---- what is asked, find giving what close finds from what was taken
module _ (find : Taken → Found) where
  -- the day after some records, from a day on; the same with the close, from the empty day
  unfoldable pub sent : Day → List (List ℕ) → Day
  sent d [] = d
  sent d (r ∷ rs) = sent (step_by find d r).day rs

  unfoldable pub closed_by : List (List ℕ) → Day
  closed_by rs = sent empty (rs ++ ((4 ∷ []) ∷ []))

  unfoldable pub fates_by : List (List ℕ) → List ℕ
  fates_by rs = fates_in (closed_by rs)

  unfoldable pub first_quantity : List (List ℕ) → List ℕ
  first_quantity rs = get_or (quantities_in (closed_by rs)) 0 0 ∷ []

  unfoldable pub pieces_by : List (List ℕ) → List ℕ
  pieces_by rs = let d : Day = closed_by rs in figures (day_pieces (spans_of (unit_or_zeros d.taken) day_seconds (courses_in d)))

  -- the number of the answer that a record gets after others
  unfoldable pub answer_after : List (List ℕ) → List ℕ → List ℕ
  answer_after rs s = number_of (answer_by find (sent empty rs) s) ∷ []

  unfoldable pub starred : List (List ℕ)
  starred =
      printed_day (closed_by (usual (instruction_record Mwof 0 103000 ∷ [])))
      ∷ first_quantity (trip_at 900)
      ∷ first_quantity (trip_at 899)
      ∷ fates_by (usual (fail_at 7200))
      ∷ fates_by (unit_record 1000 ∷ opening_record 0 0 ∷ fail_at 7201)
      ∷ fates_by (usual (instruction_record Mwof 100 103000 ∷ instruction_record Trip 220 0 ∷ []))
      ∷ fates_by (usual (instruction_record Mwof 100 103000 ∷ instruction_record Trip 221 0 ∷ []))
      ∷ pieces_by (unit_record 7000 ∷ opening_record 6000000 100000 ∷ instruction_record Mwof 0 100500 ∷ [])
      ∷ answer_after (usual []) (instruction_record Mwof 86399 0)
      ∷ answer_after (usual []) (instruction_record Mwof 86400 0)
      ∷ fates_by (usual (instruction_record Mwof 86279 103000 ∷ []))
      ∷ fates_by (usual (instruction_record Mwof 86280 103000 ∷ []))
      ∷ []
