use Rattle.std.proofs.Common.{ℕ, ◌-◌, subst, arith}
use Rattle.profile_areas.specs.Passing.{summed, Noted, piece_rate, piece_from}
use Rattle.profile_areas.proofs.Adding.{noted_none}
use Rattle.profile_areas.proofs.Lines.{line_none, piece_noted}
use Rattle.profile_areas.proofs.Sums.note_piece.Goals as goal

pub returns-then-q-p : goal.returns-then-q-p
returns-then-q-p c =
    let a = c.args in
    let p = a.p in
    let f = piece_from a.heading p a.q in
    subst (λ (i : ℕ). Noted f (summed p.second a.self.now) (summed i a.self.now)) (omega (arith, c.requires.later, c.if-q-p.true))
    (noted_none f (λ i le. line_none a.heading p.level (piece_rate p a.q) (i - p.second) (omega arith)) c.requires.fits)

pub returns-else-half-q : goal.returns-else-half-q
returns-else-half-q c = piece_noted c.requires c.if-q-p.false c.if-half-q.false
