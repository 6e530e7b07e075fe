-- Working. The walk over the instructions that act, as lists with room: what `follow` says, one instruction after another.
use Rattle.std.specs.Prelude.{ℕ, List, map}
use Rattle.level.specs.Few.{few_of, with_one}
use Rattle.level.specs.Numbers.{instruction_places, course_places}
use Rattle.records.specs.declared.UnitData.{UnitData}
use Rattle.validation.specs.declared.Numbered.{Numbered}
use Rattle.validation.specs.Kept.{Mark}
use Rattle.profile.specs.declared.UnderWay.{UnderWay}
use Rattle.profile.specs.State.{by_rule}
use Rattle.profile.specs.Effects.{Followed, follow}
use Rattle.profile.specs.Profile.{course_of, last_of}
use Rattle.course.specs.Course.{no_course}
use Rattle.profile_follow.specs.declared.Walk.{Walk}

abbrev pub fate_in : Mark → ℕ
fate_in m = m.fate

-- what it holds of marks and courses, now being the last of these
unfoldable pub walk_of : UnderWay → Followed → Walk
walk_of now f = record {
  now = now;
  courses = few_of course_places no_course (map course_of f.courses);
  fates = few_of instruction_places 0 (map fate_in f.marks);
}

-- the first so many that act, followed from the course now
unfoldable pub walk_all : UnitData → UnderWay → List Numbered → Walk
walk_all u now os = walk_of (last_of now (follow by_rule u now os).courses) (follow by_rule u now os)

-- one more: fate 7, and the course under way goes on
unfoldable pub went_on : Walk → Walk
went_on w = record { now = w.now; courses = w.courses; fates = with_one w.fates 7 }

-- fate 0, and a new course
unfoldable pub replaced_by : Walk → UnderWay → Walk
replaced_by w next = record { now = next; courses = with_one w.courses next.course; fates = with_one w.fates 0 }
