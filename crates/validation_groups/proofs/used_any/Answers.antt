use Rattle.std.proofs.Common.{◌≡◌, ◌+◌, ◌-◌, length, sym, ap, ◌∙◌, arith}
use Rattle.validation.specs.Kept.{used, used_from}
use Rattle.validation_groups.proofs.Laws.{joined, joined_count, begun_none, begun_group, begun_all, used_stop, picked_none}
use Rattle.validation_groups.proofs.used_any.Goals as goal
use Rattle.validation_groups.proofs.used_any.Goals.{in-Some, in_default}

pub loop-init : goal.loop-init
unfolding used
loop-init c =
    let os = c.args.os.now in
    let z : length os - 0 ≡ length os = omega arith in
    rw c.none-out.ensures (record { few = omega arith; begun = rw z (begun_none (used_from c.args.end os (length os) 0)) })

pub returns-then-end-next : goal.returns-then-end-next
returns-then-end-next c =
    let os = c.args.os.now in
    let l = c.loop in
    let told = c.next_time-next.ensures in
    begun_all (rw (used_stop c.args.end os (length os - l.counter) l.t (rw told at c.if-end-next.true)) at l.invariant.begun)

pub loop-preserved : goal.loop-preserved
loop-preserved c =
    let os = c.args.os.now in
    let l = c.loop in
    let told = c.next_time-next.ensures in
    let e : c.match-used_at.out ≡ joined l.out c.used_at.result = elim c.match-used_at.branch [
      | in-Some w ↦ w.out-is ∙ (w.push.ensures ∙ sym (ap (joined l.out) w.in-Some.is))
      | in_default w ↦ w.out-is ∙ sym (ap (joined l.out) (picked_none c.used_at.result w.in_default.not-Some))
    ] in
    rw e (record {
      few = omega (arith, joined_count l.out c.used_at.result);
      begun =
          begun_group c.args.end os (length os - l.counter) (length os - (l.counter + 1)) l.t c.next_time-next.result c.used_at.result
          (omega arith) told (omega arith) c.used_at.ensures l.invariant.begun;
    })

pub returns : goal.returns
unfolding used_from
returns c =
    let z : length c.args.os.now - c.loop.counter ≡ 0 = omega arith in
    begun_all (rw z at c.loop.invariant.begun)
