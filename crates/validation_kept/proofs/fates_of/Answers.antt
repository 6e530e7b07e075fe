use Rattle.std.proofs.Common.{◌≡◌, ℕ, ◌+◌, ◌-◌, Bool, List, set, get_or, refl, sym, ap, ◌∙◌, arith}
use borrow.Author.Tests.{lt-ltb, le-ltb}
use Rattle.level.specs.Choice.{pick}
use Rattle.level.specs.Lists.{filled}
use Rattle.validation.specs.Kept.{superseded}
use Rattle.validation_groups.specs.Working.{no_numbered, issue_time_of}
use Rattle.validation_kept.specs.Late.{fates_to}
use Rattle.validation_kept.proofs.Late.{superseded_told, fates_more}
use Rattle.validation_kept.proofs.fates_of.Goals as goal
use Rattle.validation_kept.proofs.fates_of.Goals.{then-superseded, else-superseded}

pub loop-i-init : goal.loop-i-init
unfolding filled fates_to
loop-i-init c = record { fates_are = refl; latest_is = λ h. absurd (omega arith) }

pub loop-i-preserved : goal.loop-i-preserved
loop-i-preserved c =
    let all = c.args.all.now in
    let l = c.loop-i in
    let o = get_or all l.i no_numbered in
    let latest = c.latest_of-latest.result in
    let other = get_or c.args.later.now l.i 0 in
    let told = superseded_told all l.i latest c.latest_of-latest.ensures in
    let fate : c.if-superseded.out ≡ pick (superseded all o) 1 other = elim c.if-superseded.branch [
      | then-superseded w ↦ w.out-is ∙ ap (λ (b : Bool). pick b 1 other) (sym (lt-ltb (issue_time_of o) latest w.if-superseded.true) ∙ told)
      | else-superseded w ↦ w.out-is ∙ ap (λ (b : Bool). pick b 1 other) (sym (le-ltb (issue_time_of o) latest w.if-superseded.false) ∙ told)
    ] in
    let p : l.i + 1 - 1 ≡ l.i = omega arith in
    record {
      fates_are = ap (λ (fs : List ℕ). set fs l.i c.if-superseded.out) l.invariant.fates_are
          ∙ fates_more all c.args.later.now l.i c.if-superseded.out (omega arith) fate;
      latest_is = λ h. rw p c.latest_of-latest.ensures;
    }
