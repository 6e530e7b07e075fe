-- Working. The segment that lies ahead of a level.
use Rattle.std.specs.Prelude.{ℕ}
use Rattle.course.specs.declared.Segment.{Segment}
use Rattle.course.specs.Lists.{Lists}
use Rattle.course.specs.declared.Heading.{Heading}
use Rattle.course.specs.Course.{gap, rate_at, next_stop, hold_at}

module _ (h : Heading) (l : Lists) (t : ℕ) where
  -- the segment from v to w: way, rate, and the hold there
  unfoldable pub segment_to : ℕ → ℕ → Segment
  segment_to v w = record { way = gap v w; rate = rate_at h l v; hold = hold_at h l t w }

  -- the segment from v to its next stop
  unfoldable pub segment_from : ℕ → Segment
  segment_from v = segment_to v (next_stop h l t v)
