-- The pieces of a day begin just where a course begins or its part changes.
use mathlib.Core.Path.{◌≡◌, refl, ap, ◌∙◌}
use mathlib.Core.List.{List, [], ◌∷◌}
use mathlib.Core.Bool.{Bool, ◌||◌}
use Prim.Native.Nat.{ℕ}
use native.Mathlib.Omega.{arith}
use lib.Dec.{eqb}
use Rattle.level.specs.Lists.{some}
use Rattle.level.proofs.Lists.{some_append}
use Rattle.course.specs.declared.Piece.{Piece}
use Rattle.course.specs.Pieces.{pieces_in}
use Rattle.course.proofs.Parts.{pieces_cut}
use Rattle.profile.specs.Profile.{Span, Chain, day_pieces, cuts_in, cut_at}
use Rattle.profile.proofs.Near.{Drives}

pub day_cuts : (from to : ℕ) (ss : List Span) → Chain from ss to → Drives ss → (t : ℕ) →
    some (λ (p : Piece). eqb t p.from) (day_pieces ss) ≡ cut_at ss t
unfolding day_pieces cuts_in cut_at some
day_cuts from to [] c d t = refl
day_cuts from to (s ∷ ss) c d t =
    some_append (λ (p : Piece). eqb t p.from) (pieces_in s.trajectory s.begin s.end) (day_pieces ss)
    ∙ ap (λ (b : Bool). b || some (λ (p : Piece). eqb t p.from) (day_pieces ss))
    (pieces_cut s.trajectory d.0 s.begin s.end (omega (arith, c.0, c.1)) t)
    ∙ ap (λ (b : Bool). cuts_in s t || b) (day_cuts s.end to ss c.2 d.1 t)
