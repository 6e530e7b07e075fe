use Rattle.std.proofs.Common.{◌∙◌, refl, ap, arith, length, length-append}
use Rattle.profile_follow.specs.declared.Walk.{Walk}
use Rattle.profile_follow.specs.Walk.{walk_of, went_on, replaced_by}
use Rattle.profile_follow.proofs.Steps.{progress_start, progress_on, progress_new, progress_end}
use Rattle.profile_follow.proofs.Turn.{one_acts, none_left, within_day, course_ahead, gone_on, cut_at, piece_ahead, state_there, acts_now}
use Rattle.profile_follow.proofs.follow_day.Goals as goal
use Rattle.profile_follow.proofs.follow_day.Goals.{in-None, in-Some}

pub loop-o-init : goal.loop-o-init
unfolding walk_of
loop-o-init c = record {
  acted = ap (λ (x : Walk). length x.fates.these) c.begin-w.ensures;
  progress = progress_start {u = c.args.u} c.begin-w.ensures c.set_out-g.ensures
      c.requires.ordered c.requires.starts;
}

pub overflow_cast-t : goal.overflow_cast-t
overflow_cast-t c =
    let soon = within_day c.requires.long (one_acts c.loop-o.invariant c.loop-o-test.true) in
    omega arith

pub pass_to-s-requires : goal.pass_to-s-requires
pass_to-s-requires c = course_ahead c.requires.long (one_acts c.loop-o.invariant c.loop-o-test.true) c.acting-t.ensures.0

pub note_piece-requires : goal.note_piece-requires
note_piece-requires c =
    piece_ahead c.requires.long (one_acts c.loop-o.invariant c.loop-o-test.true) c.acting-t.ensures.0 c.pass_to-s.ensures

pub loop-o-preserved : goal.loop-o-preserved
unfolding went_on replaced_by
loop-o-preserved c =
    let x = acts_now c.requires.long (one_acts c.loop-o.invariant c.loop-o-test.true) c.acting-t.ensures.0 c.pass_to-s.ensures
    c.state_at-state.ensures in
    elim c.match-outcome_of.branch [
      | in-None w ↦ rw (w.w-is, w.g-is, w.sums-is, w.further-g.ensures, w.go_on.ensures) (record {
        acted = simp length-append (omega (arith, c.loop-o.invariant.acted));
        progress = progress_on x.progress (x.comes c.outcome_of.ensures w.in-None.is);
      })
      | in-Some w ↦
          rw (w.w-is, w.g-is, w.sums-is, w.replace.ensures) (record {
            acted = simp length-append (omega (arith, c.loop-o.invariant.acted));
            progress = progress_new x.progress (x.comes c.outcome_of.ensures w.in-Some.is) x.cut
                (x.begins w.in-Some.set w.begin_course-next.ensures) w.set_out-g-in-Some.ensures w.note_piece.ensures;
          })
    ]

pub note_piece-requires-2 : goal.note_piece-requires-2
note_piece-requires-2 c = piece_ahead c.requires.long (none_left c.loop-o.invariant c.loop-o-test.false) refl c.pass_to-s-2.ensures

pub returns : goal.returns
returns c =
    let f = none_left c.loop-o.invariant c.loop-o-test.false in
    progress_end (gone_on c.requires.long f refl c.pass_to-s-2.ensures) c.requires.long
    (cut_at c.requires.long f refl c.pass_to-s-2.ensures) c.note_piece-2.ensures
    (c.state_at.ensures ∙ state_there c.requires.long f refl c.pass_to-s-2.ensures) c.end_day.ensures
