use Rattle.std.proofs.Common.{◌<◌, length, get_or, option_to_list, ap, ◌∙◌, arith}
use Rattle.std.proofs.lemmas.List.{drop_all}
use Rattle.level.specs.Lists.{those}
use Rattle.validation.specs.Kept.{group, or_else}
use Rattle.validation_rank.proofs.Ranks.{or_listed}
use Rattle.validation_groups.specs.Working.{no_numbered}
use Rattle.validation_groups.proofs.Laws.{in_group, walked_more, walked_all, pass_other, pass_gone, look_at}
use Rattle.validation_groups.proofs.used_at.Goals as goal
use Rattle.validation_groups.proofs.used_at.Goals.{then-i-t-via-then-i-t, then-i-t-via-else-i-t+then-i-latest}

pub loop-o-preserved-then-i-t : goal.loop-o-preserved-then-i-t
loop-o-preserved-then-i-t c =
    let os = c.args.os.now in
    let l = c.loop-o in
    let h : l.o-index < length os = omega arith in
    let e = c.latest_at-latest.ensures in
    elim c.then-i-t.branch [
      | then-i-t-via-then-i-t w ↦ pass_other os c.args.t c.latest_at-latest.result l.o-index e h l.invariant w.if-i-t.true
      | then-i-t-via-else-i-t+then-i-latest w ↦
          pass_gone os c.args.t c.latest_at-latest.result l.o-index e h l.invariant w.if-i-t.false w.if-i-latest.true
    ]

pub loop-o-preserved : goal.loop-o-preserved
loop-o-preserved c =
    let os = c.args.os.now in
    let l = c.loop-o in
    let h : l.o-index < length os = omega arith in
    walked_more (get_or os l.o-index no_numbered) c.better-best.ensures
    (ap option_to_list c.or-sync.ensures
    ∙ (or_listed l.sync c.of_code.result ∙ ap (or_else (option_to_list l.sync)) c.of_code.ensures))
    (ap option_to_list c.or-desy.ensures
    ∙ (or_listed l.desy c.of_code-in-loop-o.result ∙ ap (or_else (option_to_list l.desy)) c.of_code-in-loop-o.ensures))
    (look_at os c.args.t c.latest_at-latest.result l.o-index c.latest_at-latest.ensures h l.invariant c.if-i-t.false c.if-i-latest.false)

pub returns : goal.returns
unfolding group in_group those
returns c =
    let os = c.args.os.now in
    let w = walked_all (rw (drop_all c.loop-o.o-index os (omega arith)) at c.loop-o.invariant) in
    c.used_of.ensures (group os c.args.t) w.0 w.1 w.2
