-- Working. The seconds off, from one straight piece of a course to the next.
use Rattle.std.specs.Prelude.{ℕ, ◌+◌, ◌-◌, ◌&&◌, eqb}
use Rattle.level.specs.Choice.{pick}
use Rattle.course.specs.declared.Course.{Course}
use Rattle.course_walk.specs.declared.Place.{Place}
use Rattle.profile.specs.State.{held}

-- where a course begins; above 0 there are none
unfoldable pub off_starting : Course → ℕ → ℕ
off_starting c off = pick (eqb c.start.grains 0) (held off) 0

-- at the end of a straight piece from p to q, from those at its beginning: more only where the level is 0 from end to end
unfoldable pub off_between : Place → Place → ℕ → ℕ
off_between p q off = pick (eqb p.level 0 && eqb q.level 0) (held (off + (q.second - p.second))) 0
