use Rattle.std.proofs.Common.{◌≡◌, length, take, ap, ◌∙◌, arith}
use Rattle.level.specs.Few.{Few}
use Rattle.level.specs.Numbers.{instruction_places}
use Rattle.level.specs.Lists.{filled}
use Rattle.validation.specs.declared.Numbered.{Numbered}
use Rattle.validation.specs.Kept.{numbered, check, used, actors, late_marks}
use Rattle.validation_groups.specs.Working.{sequence_of}
use Rattle.validation_sequence.specs.Working.{none_checked, Tracks}
use Rattle.validation_kept.specs.Late.{settled, fates_to}
use Rattle.validation_kept.proofs.Whole.{validation_is, none_entered}
use Rattle.validation_kept.proofs.validate.Goals as goal

pub returns-then-count-eq0 : goal.returns-then-count-eq0
returns-then-count-eq0 c = rw c.none.ensures (none_entered c.args.instructions c.args.count c.args.end c.if-count-eq0.true)

pub returns : goal.returns
returns c =
    let a = c.args in
    let end = a.end in
    let n = c.min.result in
    let os = numbered 1 (take n a.instructions) in
    let kept = c.check_all-kept.result.these in
    let marks = c.check_all-kept.new.fates in
    let all : c.as_slice-all.result.now ≡ os = c.as_slice-all.ensures.value ∙ ap (λ (v : Few Numbered). v.these) c.number_all-entered.ensures in
    let tracks : Tracks kept marks (check none_checked (used end os)) =
    rw (c.as_slice.ensures.value, c.used_in-used.ensures.exactly, all) at c.check_all-kept.ensures.tracks in
    let late = c.late_fates-late.ensures in
    let later : c.settle_late-later.result ≡ settled marks (late_marks end kept) = c.settle_late-later.ensures end late in
    let fates : c.fates_of-fates.result ≡ filled instruction_places 0 (fates_to os (settled marks (late_marks end kept)) (length os)) =
    rw (all, later) at c.fates_of-fates.ensures in
    let acts : c.acts_of-acts.result ≡ sequence_of (actors end kept) = c.acts_of-acts.ensures end late in
    (λ j. record { fates = fates j; acts = acts j }) ∙ validation_is a.instructions a.count n (omega arith) c.min.ensures end kept marks tracks
