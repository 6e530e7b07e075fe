use Rattle.std.proofs.Common.{rules, ◌≡◌, ◌<◌, true, false, length, get_or, sym, ap, ◌∙◌, arith, length-append, option_to_list}
use Rattle.records.specs.declared.Effect.TheVariants.{Fail}
use Rattle.records.specs.Codes.{same}
use Rattle.validation.specs.Kept.{effect_of, repeats}
use Rattle.validation_groups.specs.Working.{no_numbered}
use Rattle.validation_sequence.proofs.Stack.{repeats_last}
use Rattle.validation_sequence.proofs.Places.{places_few, places_more}
use Rattle.validation_sequence.proofs.Steps.{check_fail, check_repeat, check_keep, checks_none, checks_more}
use Rattle.validation_sequence.proofs.check_all.Goals as goal
use Rattle.validation_sequence.proofs.check_all.Goals.{then-eq, else-eq+then-is_repeat, else-eq+else-is_repeat}

pub loop-o-init : goal.loop-o-init
loop-o-init c = rw (c.none-kept.ensures, c.new-syncs.ensures, c.requires.unsettled) (checks_none c.args.used.now)

pub fail_one-requires : goal.fail_one-requires
fail_one-requires c = c.loop-o.invariant.noted

pub note_sync-requires : goal.note_sync-requires
note_sync-requires c =
    let l = c.loop-o in
    rw l.invariant.noted (omega (arith, places_few 0 l.kept.these, l.invariant.fewer, c.requires.few))

pub loop-o-preserved : goal.loop-o-preserved
loop-o-preserved c =
    let used = c.args.used.now in
    let l = c.loop-o in
    let o = get_or used l.o-index no_numbered in
    let ks = l.kept.these in
    let here : l.o-index < length used = omega arith in
    let t = l.invariant.tracks in
    elim c.if-eq.branch [
      | then-eq w ↦
          let f = w.fail_one.ensures.failed in
          let e : same (effect_of o) Fail ≡ true = search rules in
          rw (w.kept-is, w.syncs-is, w.fates-is) (checks_more here (omega (arith, f.fewer, l.invariant.fewer)) f.long w.fail_one.ensures.noted
          (check_fail ks l.fates o _ t _ _ e f))
      | else-eq+then-is_repeat w ↦
          let e : same (effect_of o) Fail ≡ false = search rules in
          let told = sym w.is_repeat.ensures ∙ w.if-is_repeat.true in
          let r = sym (repeats_last o ks)
          ∙ ap (λ k. repeats o (option_to_list k)) (sym (rw w.as_slice.ensures.value at w.last.ensures.value)) ∙ told in
          rw (w.kept-is, w.syncs-is, w.fates-is) (checks_more here (omega (arith, l.invariant.fewer)) w.put_fate.ensures.long l.invariant.noted
          (rw w.put_fate.ensures.value (check_repeat ks l.fates o _ t e r)))
      | else-eq+else-is_repeat w ↦
          let e : same (effect_of o) Fail ≡ false = search rules in
          let told = sym w.is_repeat.ensures ∙ w.if-is_repeat.false in
          let r = sym (repeats_last o ks)
          ∙ ap (λ k. repeats o (option_to_list k)) (sym (rw w.as_slice.ensures.value at w.last.ensures.value)) ∙ told in
          rw (w.kept-is, w.syncs-is, w.fates-is, w.push.ensures) (checks_more here (simp length-append (omega (arith, l.invariant.fewer))) l.invariant.long
          (rw (w.note_sync.ensures, w.len.ensures.value, l.invariant.noted) (sym (places_more ks o))) (check_keep ks l.fates o _ t e r))
    ]
