-- Believed: document 01, A course, second by second; The printed day. The day's courses, areas, quantities, pieces and closing state.
use Rattle.std.specs.Prelude.{ℕ, suc, ◌+◌, ◌*◌, ◌-◌, ◌/◌, ◌≤◌, ◌<◌, List, [], ◌∷◌, ◌++◌, map, ◌≡◌, Bool, true, false, ◌&&◌, ◌||◌, ltb, eqb}
use Rattle.level.specs.Lists.{some, sum, list_from}
use Rattle.level.specs.Numbers.{half_hour}
use Rattle.records.specs.declared.UnitData.{UnitData}
use Rattle.course.specs.declared.Course.{Course}
use Rattle.course.specs.Course.{Trajectory, trajectory_of, level_at, rate_on}
use Rattle.course.specs.declared.Piece.{Piece}
use Rattle.course.specs.Pieces.{pieces_in, part_changes}
use Rattle.validation.specs.declared.Numbered.{Numbered}
use Rattle.validation.specs.Kept.{Validated, numbered, validated, fates_of}
use Rattle.profile.specs.declared.UnderWay.{UnderWay}
use Rattle.profile.specs.declared.Closing.{Closing}
use Rattle.profile.specs.declared.State.{State}
use Rattle.profile.specs.State.{by_rule}
use Rattle.profile.specs.Effects.{Followed, start_course, follow, state_at}
use Rattle.profile.specs.declared.Taken.{Taken}
use Rattle.profile.specs.Taken.{entered, unit_or_zeros, start_or_zeros}

-- "A course lasts from its acting second (the opening's from 0) to that of the next fate-0 instruction, else to the day's end"
pub record Span : Type 0 where
  pub begin : ℕ
  pub end : ℕ
  pub trajectory : Trajectory

-- where the first of some courses begins, else the day's end
unfoldable pub begin_of : ℕ → List Course → ℕ
begin_of end [] = end
begin_of end (c ∷ cs) = c.begin

unfoldable pub spans_of : UnitData → ℕ → List Course → List Span
spans_of u end [] = []
spans_of u end (c ∷ cs) = record { begin = c.begin; end = begin_of end cs; trajectory = trajectory_of u c } ∷ spans_of u end cs

-- courses follow each other without gap or overlap from one second to another
abbrev pub Chain : ℕ → List Span → ℕ → Type 0
Chain from [] to = from ≡ to
Chain from (s ∷ ss) to = (s.begin ≡ from) × (from ≤ s.end) × Chain s.end ss to

-- what g says of the course in force at the second t, so many seconds after it began
unfoldable pub in_force : (Trajectory → ℕ → ℕ) → List Span → ℕ → ℕ
in_force g [] t = 0
in_force g (s ∷ ss) t = elim (ltb t s.end) [ true ↦ g s.trajectory (t - s.begin) | false ↦ in_force g ss t ]

-- "the level at start (after any step) and end (before any)" of a second; the rate in force where it began
unfoldable pub level_starting : List Span → ℕ → ℕ
level_starting ss t = in_force level_at ss t

unfoldable pub level_ending : List Span → ℕ → ℕ
level_ending ss t = in_force (λ c k. level_at c (suc k)) ss t

unfoldable pub rate_starting : List Span → ℕ → ℕ
rate_starting ss t = in_force rate_on ss t

-- "Twice the recorded area is the sum over seconds": over n seconds from the second a
unfoldable pub recorded_twice : List Span → ℕ → ℕ → ℕ
recorded_twice ss a n = sum (λ t. level_starting ss t + level_ending ss t) a n

-- from 0 to the half-hour boundary b; in the half-hour from the boundary i on
unfoldable pub recorded_to : List Span → ℕ → ℕ
recorded_to ss b = recorded_twice ss 0 (half_hour * b)

unfoldable pub recorded_in : List Span → ℕ → ℕ
recorded_in ss i = recorded_twice ss (half_hour * i) half_hour

-- "The quantity in kW is the floor of (that + 108,000)/216,000"
unfoldable pub rounded : ℕ → ℕ
rounded twice = (twice + 108000) / 216000

-- the day's pieces: "cut besides only by fate-0 instructions and the day's end"
unfoldable pub day_pieces : List Span → List Piece
day_pieces [] = []
day_pieces (s ∷ ss) = pieces_in s.trajectory s.begin s.end ++ day_pieces ss

-- where the profile is cut: at the second t a course begins, or another part of the one that goes on
unfoldable pub cuts_in : Span → ℕ → Bool
cuts_in s t = ltb t s.end && (eqb t s.begin || (ltb s.begin t && part_changes s.trajectory (t - s.begin)))

unfoldable pub cut_at : List Span → ℕ → Bool
cut_at ss t = some (λ s. cuts_in s t) ss

-- pieces follow each other from the second a to the second b without gap or overlap, none of them empty
abbrev pub Joined : ℕ → List Piece → ℕ → Type 0
Joined a [] b = a ≡ b
Joined a (p ∷ ps) b = (p.from ≡ a) × (a < p.to) × Joined p.to ps b

-- the level v at the second t lies on the straight line of the piece p
abbrev pub OnLine : Piece → ℕ → ℕ → Type 0
OnLine p t v = v * (p.to - p.from) ≡ p.enter * (p.to - t) + p.leave * (t - p.from)

-- what close finds: fates by number, courses, twice the recorded area from 0 to each boundary, quantities, the last course, the state at the end
pub record Found : Type 0 where
  pub fates : List ℕ
  pub courses : List Course
  pub sums : List ℕ
  pub quantities : List ℕ
  pub last : UnderWay
  pub end : State

-- how states and areas are got: by the rule of one second, as the paper says, or by segments
pub record Way : Type 0 where
  pub look : Trajectory → ℕ → ℕ → State
  pub up_to : List Span → ℕ → ℕ
  pub within : List Span → ℕ → ℕ

abbrev pub paper : Way
paper = record { look = by_rule; up_to = recorded_to; within = recorded_in }

abbrev pub course_of : UnderWay → Course
course_of c = c.course

-- the last of some courses, the first being c
unfoldable pub last_of : UnderWay → List UnderWay → UnderWay
last_of c [] = c
last_of c (d ∷ ds) = last_of d ds

-- the closing state: "level target heat off" of the last course at the day's end
abbrev pub closing_by : UnderWay → State → Closing
closing_by c s = record { level = record { grains = s.level }; target = c.course.target; heat = c.course.heat; off = s.off }

module _ (w : Way) where
  -- of a day of n half-hours that starts with the course first
  unfoldable pub found_by : ℕ → UnitData → UnderWay → List Numbered → Validated → Followed → Found
  found_by n u first os v f =
      let cs : List Course = map course_of f.courses in
      let ss : List Span = spans_of u (half_hour * n) cs in
      let last : UnderWay = last_of first f.courses in
      record {
        fates = fates_of os (f.marks ++ v.marks) os;
        courses = cs;
        sums = list_from (w.up_to ss) 0 (suc n);
        quantities = list_from (λ i. rounded (w.within ss i)) 0 n;
        last = last;
        end = state_at w.look u last (half_hour * n);
      }

  -- from what was taken
  unfoldable pub found : ℕ → Taken → Found
  found n t =
      let os : List Numbered = numbered 1 (entered t) in
      let v : Validated = validated (half_hour * n) os in
      let u : UnitData = unit_or_zeros t in
      let first : UnderWay = start_course u (start_or_zeros t) in
      found_by n u first os v (follow w.look u first v.acts)
