use Rattle.listing_print.proofs.Whole.{room_f, room_s, room_q, room_e, put_day}
use Rattle.listing_print.proofs.put_lines.Goals as goal

pub put_fates-requires : goal.put_fates-requires
put_fates-requires g c = room_f g.met.S.Sink.laws _ c.requires

pub put_courses-requires : goal.put_courses-requires
put_courses-requires g c = room_s g.met.S.Sink.laws _ c.requires c.unit_or_zeros.ensures c.put_fates.ensures

pub put_quantities-requires-clause-room : goal.put_quantities-requires-clause-room
put_quantities-requires-clause-room g c = room_q g.met.S.Sink.laws _ c.requires c.put_fates.ensures (rw c.unit_or_zeros.ensures at c.put_courses.ensures)

pub put_closing-requires : goal.put_closing-requires
put_closing-requires g c =
    room_e g.met.S.Sink.laws _ c.requires c.closing_of.ensures c.put_fates.ensures (rw c.unit_or_zeros.ensures at c.put_courses.ensures)
    c.put_quantities.ensures

pub returns : goal.returns
returns g c =
    put_day g.met.S.Sink.laws _ c.requires c.closing_of.ensures c.put_fates.ensures (rw c.unit_or_zeros.ensures at c.put_courses.ensures)
    c.put_quantities.ensures c.put_closing.ensures
