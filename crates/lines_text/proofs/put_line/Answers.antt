use Rattle.std.proofs.Common.{◌<◌, ◌≤◌, ◌+◌, refl, List, ℕ, length, get_or, arith, length-take, length-drop}
use Rattle.lines.specs.Text.{field, line}
use Rattle.lines.proofs.Laying.{line_left, number_next, feed_next}
use Rattle.lines.proofs.Sinks.{Putting, slice, fits, fills, filling, put_none, put_next, put_more, put_all, filled_byte, filled_tail, filled_front}
use Rattle.lines_text.proofs.put_line.Goals as goal

-- what comes next of a line has room from the byte `at` on
number_room : (vs : List ℕ) (letter i at : ℕ) (o out : List ℕ) → i < length vs →
    Putting fits fills (slice o 0) (line letter vs) (line_left vs i) 0 0 (slice out at) → at + length (field (get_or vs i 0)) ≤ length out
number_room vs letter i at o out h p = put_next filling {j = 0} (number_next vs i h) p (omega arith)

feed_room : (vs : List ℕ) (letter i at : ℕ) (o out : List ℕ) → length vs ≤ i →
    Putting fits fills (slice o 0) (line letter vs) (line_left vs i) 0 0 (slice out at) → at < length out
feed_room vs letter i at o out h p =
    let r : at + 1 ≤ length out = put_next filling {j = 0} (feed_next vs i h) p (omega arith) in
    omega arith

pub bounds-out-0 : goal.bounds-out-0
unfolding line
bounds-out-0 c = omega arith

pub loop-v-init : goal.loop-v-init
unfolding line
loop-v-init c =
    let o = c.args.out.now in
    let letter = filled_byte o 0 c.args.letter (omega arith) in
    record {
      within = omega arith;
      lines = put_more filling {j = 0} {l = 0} (record { parts = refl }) (put_none filling (omega arith) (omega arith)) (omega arith) letter;
    }

pub put_field-at-requires : goal.put_field-at-requires
put_field-at-requires c = simp (length-take, length-drop) (omega (arith, number_room _ _ _ _ _ _ c.loop-v-test.true c.loop-v.invariant.lines))

pub loop-v-preserved : goal.loop-v-preserved
loop-v-preserved c =
    let p = c.loop-v.invariant.lines in
    let number = filled_tail (number_room _ _ _ _ _ _ c.loop-v-test.true p) c.put_field-at.ensures in
    record {
      within = omega arith;
      lines = put_more filling {j = 0} (number_next c.args.vs.now c.loop-v.v-index c.loop-v-test.true) p (omega arith) number;
    }

pub returns : goal.returns
returns c =
    let p = c.loop-v.invariant.lines in
    let next = feed_next c.args.vs.now c.loop-v.v-index (omega arith) in
    let feed = filled_byte c.loop-v.out c.loop-v.at 10 (feed_room c.args.vs.now c.args.letter c.loop-v.v-index _ _ _ (omega arith) p) in
    filled_front (put_all filling refl (put_more filling {j = 0} {k = 0} next p (omega arith) feed))
