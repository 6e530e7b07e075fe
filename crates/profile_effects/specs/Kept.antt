-- Working. What the effects (Table 7) have in common.
use Rattle.std.specs.Prelude.{false}
use Rattle.records.specs.declared.Instruction.{Instruction}
use Rattle.profile.specs.declared.UnderWay.{UnderWay}
use Rattle.profile.specs.declared.State.{State}
use Rattle.profile.specs.declared.Setting.{Setting}

-- what an instruction would set that goes on as before
abbrev pub kept : UnderWay → Instruction → State → Setting
kept now i s = record {
  from = s.level;
  target = now.course.target;
  heat = now.course.heat;
  up = i.up;
  down = i.down;
  maximised = false;
  ordered = now.ordered;
}
