-- Believed: document 01, What each does at its acting second (Table 7). Its outcome, the course that it begins, and all that act, one after another.
use Rattle.std.specs.Prelude.{ℕ, ◌*◌, ◌-◌, min, max, List, [], ◌∷◌, Bool, true, false, ◌&&◌, ◌||◌, not, leb, ltb, eqb, get_or, Option, Some, None}
use Rattle.level.specs.Choice.{pick}
use Rattle.level.specs.declared.Level.{Level}
use Rattle.level.specs.Level.{grains}
use Rattle.records.specs.declared.Effect.{Effect}
use Rattle.records.specs.declared.Effect.TheVariants.{Trip, Mwof, Mxon, Sync, Mxof, Desy, Fail}
use Rattle.records.specs.declared.UnitData.{UnitData}
use Rattle.records.specs.declared.Instruction.{Instruction}
use Rattle.course.specs.declared.Course.{Course}
use Rattle.course.specs.Lists.{column_for}
use Rattle.course.specs.Course.{Trajectory, trajectory_of}
use Rattle.validation.specs.declared.Numbered.{Numbered}
use Rattle.validation.specs.Kept.{Mark, mark, acting}
use Rattle.profile.specs.declared.UnderWay.{UnderWay}
use Rattle.profile.specs.declared.State.{State}
use Rattle.profile.specs.declared.Setting.{Setting}
use Rattle.profile.specs.declared.Start.{Start}

-- "column by seconds off: hot up to the hot boundary, else warm up to the warm one, else cold"
unfoldable pub heat_by : UnitData → ℕ → ℕ
heat_by u off = pick (leb off (60 * u.hot)) 1 (pick (leb off (60 * u.warm)) 2 3)

-- what an instruction comes to: fate 7, and the course under way goes on (`None`); or fate 0, and what it sets
abbrev pub Outcome : Type 0
Outcome = Option Setting

-- fate 7 where the test holds, else fate 0 and what is set
abbrev pub unless : Bool → Setting → Outcome
unless true g = None
unless false g = Some g

-- on the unit u, with the course now under way, of the instruction i, read with s
module _ (u : UnitData) (now : UnderWay) (i : Instruction) (s : State) where
  -- "Column and heat stay until the next start"
  abbrev pub heat_now : ℕ
  heat_now = now.course.heat

  -- "MWOF(x): target the smaller of x and capacity; from 0 with the cold column"
  unfoldable pub mwof_target : ℕ
  mwof_target = min i.level u.capacity

  abbrev pub mwof_heat : ℕ
  mwof_heat = pick (eqb s.level 0) 3 heat_now

  -- "SYNC: target the larger of its x (0 if none) and MSG, at most capacity"
  unfoldable pub sync_target : ℕ
  sync_target = min (max i.level u.msg) u.capacity

  -- "MXON: .. ramp-up rate 5 for all five", "MXOF: .. ramp-down rate 1 for all five"
  abbrev pub mxon_rate : ℕ
  mxon_rate = get_or u.up.rates 4 0

  abbrev pub mxof_rate : ℕ
  mxof_rate = get_or u.down.rates 0 0

  -- "Fate 7, and the course under way goes on: at level 0, MWOF(0), DESY, TRIP, MXON; above 0, SYNC; MXON while maximised; MXOF when not.
  -- Otherwise fate 0 and a new course: DESY: target 0. TRIP: level 0 at that second, target 0. MXON: target the short-term maximum; ramp-up
  -- rate 5 for all five. MXOF: target that of the last MWOF or SYNC with fate 0, or the opening target; ramp-down rate 1 for all five.
  -- MXON turns maximised on; any other fate-0 instruction turns it off." (FAIL never acts.)
  unfoldable pub outcome_by : Effect → Outcome
  outcome_by Trip = unless (eqb s.level 0)
      (record { from = 0; target = 0; heat = heat_now; up = i.up; down = i.down; maximised = false; ordered = now.ordered })
  outcome_by Mwof = unless (eqb s.level 0 && eqb i.level 0)
      (record { from = s.level; target = mwof_target; heat = mwof_heat; up = i.up; down = i.down; maximised = false; ordered = mwof_target })
  outcome_by Mxon = unless (eqb s.level 0 || now.maximised)
      (record { from = s.level; target = u.maximum; heat = heat_now; up = mxon_rate; down = i.down; maximised = true; ordered = now.ordered })
  outcome_by Sync = unless (ltb 0 s.level)
      (record { from = s.level; target = sync_target; heat = heat_by u s.off; up = i.up; down = i.down; maximised = false; ordered = sync_target })
  outcome_by Mxof = unless (not now.maximised)
      (record { from = s.level; target = now.ordered; heat = heat_now; up = i.up; down = mxof_rate; maximised = false; ordered = now.ordered })
  outcome_by Desy = unless (eqb s.level 0)
      (record { from = s.level; target = 0; heat = heat_now; up = i.up; down = i.down; maximised = false; ordered = now.ordered })
  outcome_by Fail = None

  abbrev pub outcome : Outcome
  outcome = outcome_by i.meaning.effect

-- "At level 0 with a target above 0 the level goes at once to the smaller of block load and target .. That is the course's start"
unfoldable pub stepped : ℕ → ℕ → ℕ → ℕ
stepped block target v = pick (eqb v 0 && ltb 0 target) (min block target) v

-- the course that a setting makes at a second, and where it starts
abbrev pub start_level : UnitData → Setting → Level
start_level u g = record { grains = stepped (grains (column_for u g.heat).block) (grains g.target) g.from }

unfoldable pub course_from : UnitData → ℕ → Setting → Course
course_from u begin g = record { begin = begin; start = start_level u g; target = g.target; heat = g.heat; up = g.up; down = g.down }

-- it under way, the unit having been off so many seconds where it began
unfoldable pub under_way : UnitData → ℕ → Setting → ℕ → UnderWay
under_way u begin g off = record { course = course_from u begin g; maximised = g.maximised; ordered = g.ordered; off = off }

-- the course that the start of a day sets going at 06:00
unfoldable pub start_course : UnitData → Start → UnderWay
start_course u o =
    under_way u 0
    (record { from = o.level; target = o.target; heat = o.heat; up = o.up; down = o.down; maximised = o.maximised; ordered = o.ordered })
    o.off

-- "Otherwise fate 0 and a new course": the one that o begins with what it sets
unfoldable pub begun : UnitData → Numbered → Setting → State → UnderWay
begun u o g s = under_way u (acting o) g s.off

-- all that act, one after another: their fates, and the day's courses, both in order
pub record Followed : Type 0 where
  pub marks : List Mark
  pub courses : List UnderWay

unfoldable pub goes_on : Numbered → Followed → Followed
goes_on o f = record { marks = mark 7 o ∷ f.marks; courses = f.courses }

unfoldable pub replaces : UnderWay → Numbered → Followed → Followed
replaces now o f = record { marks = mark 0 o ∷ f.marks; courses = now ∷ f.courses }

-- look gives the state so many seconds after a trajectory began with so many seconds off
module _ (look : Trajectory → ℕ → ℕ → State) (u : UnitData) where
  -- "Read with the level just before": the state at the second t
  unfoldable pub state_at : UnderWay → ℕ → State
  state_at now t = look (trajectory_of u now.course) now.off (t - now.course.begin)

  unfoldable pub follow : UnderWay → List Numbered → Followed
  follow now [] = record { marks = []; courses = now ∷ [] }
  follow now (o ∷ os) =
      let s : State = state_at now (acting o) in
      elim (outcome u now o.instruction s) [
        | None ↦ goes_on o (follow now os)
        | Some g ↦ replaces now o (follow (begun u o g s) os)
      ]
