use Rattle.std.proofs.Common.{arith}
use Rattle.std.proofs.lemmas.List.{take_rest}
use Rattle.std.proofs.lemmas.Option.{MatchOption-at_some}
use Rattle.validation_sequence.specs.Working.{NoneWithinHour, LatestWithinHour}
use Rattle.validation_sequence.proofs.Places.{places_before}
use Rattle.validation_sequence.proofs.Steps.{at_default, failed_off, failed_void}
use Rattle.validation_sequence.proofs.fail_one.Goals as goal
use Rattle.validation_sequence.proofs.fail_one.Goals.{in-Some, in_default}

pub returns-clause-failed : goal.returns-clause-failed
returns-clause-failed c =
    let a = c.args in
    let ks = a.kept.now.these in
    let o = a.o.now in
    let found = c.sync_within_hour in
    let near = rw c.as_slice.ensures.value at found.ensures in
    elim c.match-sync_within_hour.branch [
      | in-Some w ↦
          let latest = MatchOption-at_some (NoneWithinHour ks o) (LatestWithinHour ks o) w.in-Some.at w.in-Some.is near in
          rw (c.put_fate.ensures.value, w.kept-is, w.truncate.ensures, w.fates-is) (failed_void ks a.fates.now o w.in-Some.at w.void_all.new.fates
          w.void_all.ensures.long latest (rw (w.as_slice-in-Some.ensures.value, take_rest ks w.in-Some.at) at w.void_all.ensures.value))
      | in_default w ↦
          let none = at_default found.result (NoneWithinHour ks o) (LatestWithinHour ks o) w.in_default.not-Some near in
          rw (c.put_fate.ensures.value, w.kept-is, w.fates-is) (failed_off ks a.fates.now o (omega arith) none)
    ]

pub returns-clause-noted : goal.returns-clause-noted
returns-clause-noted c =
    let ks = c.args.kept.now.these in
    let o = c.args.o.now in
    let found = c.sync_within_hour in
    let near = rw c.as_slice.ensures.value at found.ensures in
    elim c.match-sync_within_hour.branch [
      | in-Some w ↦
          let latest = MatchOption-at_some (NoneWithinHour ks o) (LatestWithinHour ks o) w.in-Some.at w.in-Some.is near in
          rw (w.kept-is, w.truncate.ensures, w.syncs-is, w.truncate-in-Some.ensures, w.saturating_sub.ensures, w.len.ensures.value, c.requires)
          (places_before ks w.in-Some.at latest.latest)
      | in_default w ↦ rw (w.kept-is, w.syncs-is) c.requires
    ]
