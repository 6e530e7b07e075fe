use Rattle.std.proofs.Common.{◌*◌, ◌<◌, refl, arith}
use Rattle.level.specs.Numbers.{half_hour}
use Rattle.profile_areas.proofs.Lines.{line_begun, line_step, line_further}
use Rattle.profile_areas.proofs.Sums.note_line.Goals as goal

pub loop-half-init : goal.loop-half-init
loop-half-init c = line_begun c.requires refl

pub moved-w-requires : goal.moved-w-requires
moved-w-requires c =
    let left : half_hour * c.loop-half.half < c.args.to = omega arith in
    (line_step c.requires c.loop-half.invariant left c.min-n.ensures refl).reaches

pub overflow_add-self : goal.overflow_add-self
overflow_add-self c =
    let left : half_hour * c.loop-half.half < c.args.to = omega arith in
    let f = line_step c.requires c.loop-half.invariant left c.min-n.ensures c.moved-w.ensures in
    omega (arith, f.low, f.low_too)

pub overflow_mul-self : goal.overflow_mul-self
overflow_mul-self c =
    let left : half_hour * c.loop-half.half < c.args.to = omega arith in
    let f = line_step c.requires c.loop-half.invariant left c.min-n.ensures c.moved-w.ensures in
    omega (arith, f.fits)

-- the new total
pub overflow_add-self-in-loop-half : goal.overflow_add-self-in-loop-half
overflow_add-self-in-loop-half c =
    let left : half_hour * c.loop-half.half < c.args.to = omega arith in
    let f = line_step c.requires c.loop-half.invariant left c.min-n.ensures c.moved-w.ensures in
    omega (arith, f.fits)

pub loop-half-preserved : goal.loop-half-preserved
loop-half-preserved c =
    let left : half_hour * c.loop-half.half < c.args.to = omega arith in
    line_further c.requires c.loop-half.invariant left c.min-n.ensures c.moved-w.ensures
