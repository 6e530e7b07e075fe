use Rattle.std.proofs.Common.{arith}
use Rattle.profile_areas.proofs.Areas.{step_straight}
use Rattle.profile_areas.proofs.Pass.{progress_start, next_piece, progress_cut, progress_more}
use Rattle.profile_areas.proofs.pass_to.Goals as goal

pub loop-at-init : goal.loop-at-init
loop-at-init c = progress_start c.requires

pub off_between-later-requires : goal.off_between-later-requires
off_between-later-requires c =
    let to = c.walk_on-next.ensures in
    let x = next_piece c.loop-at.invariant c.loop-at-test.true to.onward to.low in
    omega (arith, x.step.later)

pub returns-then-n-q : goal.returns-then-n-q
returns-then-n-q c =
    let to = c.walk_on-next.ensures in
    let x = next_piece c.loop-at.invariant c.loop-at-test.true to.onward to.low in
    progress_cut c.loop-at.invariant x c.off_between-later.ensures (omega arith)

pub note_piece-requires : goal.note_piece-requires
note_piece-requires c =
    let to = c.walk_on-next.ensures in
    let x = next_piece c.loop-at.invariant c.loop-at-test.true to.onward to.low in
    record {
      straight = λ lt. step_straight x.step;
      later = omega (arith, x.step.later);
      within = omega (arith, x.step.within, c.requires.within);
      low = c.loop-at.invariant.low;
      low_too = x.low;
      fits = c.loop-at.invariant.fits;
    }

pub loop-at-smaller : goal.loop-at-smaller
loop-at-smaller c =
    let to = c.walk_on-next.ensures in
    let x = next_piece c.loop-at.invariant c.loop-at-test.true to.onward to.low in
    omega (arith, x.step.later, x.step.within)

pub loop-at-preserved : goal.loop-at-preserved
loop-at-preserved c =
    let to = c.walk_on-next.ensures in
    let x = next_piece c.loop-at.invariant c.loop-at-test.true to.onward to.low in
    progress_more c.loop-at.invariant x c.off_between-later.ensures (omega arith) to.known c.note_piece.ensures
