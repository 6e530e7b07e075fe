-- Believed: document 01, What each does at its acting second. The level just before and the seconds off, so many seconds after a course began.
use Rattle.std.specs.Prelude.{ℕ, zero, suc, min, ◌&&◌, eqb}
use Rattle.level.specs.Choice.{pick}
use Rattle.profile.specs.declared.State.{State}
use Rattle.course.specs.Course.{Trajectory, Moment, heading, second}

-- ".. held at 10,000,000"
unfoldable pub held : ℕ → ℕ
held n = min n 10000000

-- a moment of a course, and the seconds off
pub record Watch : Type 0 where
  pub moment : Moment
  pub off : ℕ

-- "Seconds off count from reaching 0": one more for a second that begins and ends at 0
unfoldable pub watch_next : Watch → Moment → Watch
watch_next w m = record { moment = m; off = pick (eqb w.moment.level 0 && eqb m.level 0) (held (suc w.off)) 0 }

-- k seconds after a course began with so many seconds off; above 0 there are none
unfoldable pub watch : Trajectory → ℕ → ℕ → Watch
watch c off zero = record { moment = record { level = c.start; left = 0 }; off = pick (eqb c.start 0) (held off) 0 }
watch c off (suc k) = let w : Watch = watch c off k in watch_next w (second (heading c) c.lists c.target w.moment)

unfoldable pub by_rule : Trajectory → ℕ → ℕ → State
by_rule c off k = let w : Watch = watch c off k in record { level = w.moment.level; off = w.off }
