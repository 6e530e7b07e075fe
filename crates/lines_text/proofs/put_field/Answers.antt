use Rattle.std.proofs.Common.{arith, length-set, length-take, length-drop}
use Rattle.lines.specs.Text.{field}
use Rattle.lines.specs.Filled.{filled_more}
use Rattle.lines.proofs.Sinks.{filled_byte, filled_tail, filled_front}
use Rattle.lines_text.proofs.put_field.Goals as goal

pub bounds-out-0 : goal.bounds-out-0
unfolding field
bounds-out-0 c = omega arith

pub slice_bounds-put_decimal-count : goal.slice_bounds-put_decimal-count
unfolding field
slice_bounds-put_decimal-count c = simp length-set (omega arith)

pub slice_bounds-put_decimal-start : goal.slice_bounds-put_decimal-start
unfolding field
slice_bounds-put_decimal-start c = simp length-set (omega arith)

pub put_decimal-n-requires : goal.put_decimal-n-requires
unfolding field
put_decimal-n-requires c = simp (length-take, length-drop, length-set) (omega arith)

pub returns : goal.returns
unfolding field
returns c =
    let blank = filled_byte c.args.out.now 0 32 (omega arith) in
    let w = filled_front (filled_more blank (filled_tail (simp length-set (omega arith)) c.put_decimal-n.ensures)) in
    record { count_is = omega (arith, w.count_is); bytes = w.bytes }
