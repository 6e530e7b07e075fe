-- "46,080 bytes always suffice".
use Prim.Native.Nat.{ℕ, suc, ◌+◌, ◌*◌, ◌<◌, ◌≤◌}
use mathlib.Core.List.{List, [], ◌∷◌}
use native.Mathlib.Omega.{arith}
use lib.Dec.{eqb}
use lib.ListN.{length, length-append}
use Rattle.level.specs.Level.{grains}
use Rattle.level.specs.Lists.{All}
use Rattle.level.specs.Bounds.{most_seconds}
use Rattle.level.specs.Numbers.{most_half_hours, instruction_places}
use Rattle.course.specs.declared.Piece.{Piece}
use Rattle.profile.specs.declared.Closing.{Closing}
use Rattle.profile.proofs.Room.{PieceBelow, ClosingBelow}
use Rattle.lines.specs.Lines.{q_line, e_line}
use Rattle.lines.proofs.Widths.{f_length, s_length, q_length, e_length}
use Rattle.lines.proofs.Decimals.{decimal_width}
use Rattle.listing.specs.Listing.{f_lines, s_lines, run_lines, q_lines, listing, suffices}
use Rattle.level.proofs.Lists.{by_bool}

f_width : (n : ℕ) (fates : List ℕ) → n + length fates ≤ 100 → All (λ (f : ℕ). f ≤ 8) fates → length (f_lines n fates) ≤ 7 * length fates
unfolding f_lines
f_width n [] h b = omega arith
f_width n (f ∷ fates) h b =
    simp length-append (omega (
      arith,
      f_width (suc n) fates (omega arith) b.1,
      f_length n f,
      decimal_width 1 n (omega arith),
      decimal_width 0 f (omega (arith, b.0)),
    ))

s_width : (ps : List Piece) → All (PieceBelow most_seconds 120000000) ps → length (s_lines ps) ≤ 34 * length ps
unfolding s_lines
s_width [] b = omega arith
s_width (p ∷ ps) b =
    simp length-append (omega (
      arith,
      s_width ps b.1,
      s_length p.from p.to p.enter p.leave,
      decimal_width 4 p.from (omega (arith, b.0.from)),
      decimal_width 4 p.to (omega (arith, b.0.to)),
      decimal_width 8 p.enter (omega (arith, b.0.enter)),
      decimal_width 8 p.leave (omega (arith, b.0.leave)),
    ))

q_width : (first last k : ℕ) → first < 100 → last < 100 → k ≤ 2000000 → length (q_line first last k) ≤ 16
q_width first last k f l h = omega (arith, q_length first last k, decimal_width 1 first f, decimal_width 1 last l, decimal_width 6 k (omega arith))

runs_width : (first last k : ℕ) (qs : List ℕ) → first ≤ last → last + length qs < 100 → k ≤ 2000000 → All (λ (q : ℕ). q ≤ 2000000) qs →
    length (run_lines first last k qs) ≤ 16 * suc (length qs)
unfolding run_lines
runs_width first last k [] p r h b = omega (arith, q_width first last k (omega arith) (omega arith) h)
runs_width first last k (x ∷ qs) p r h b =
    by_bool (eqb x k)
    (λ e. simp e (omega (arith, runs_width first (suc last) k qs (omega arith) (omega arith) h b.1)))
    (λ e. simp (e, length-append) (omega (
      arith,
      q_width first last k (omega arith) (omega arith) h,
      runs_width (suc last) (suc last) x qs (omega arith) (omega arith) b.0 b.1,
    )))

qs_width : (qs : List ℕ) → length qs ≤ most_half_hours → All (λ (q : ℕ). q ≤ 2000000) qs → length (q_lines qs) ≤ 16 * length qs
unfolding q_lines
qs_width [] l b = omega arith
qs_width (q ∷ qs) l b = runs_width 1 1 q qs (omega arith) (omega arith) b.0 b.1

e_width : (m : ℕ) (e : Closing) → m ≤ 2000000 → ClosingBelow m e → length (e_line e.level.grains e.target e.heat e.off) ≤ 31
unfolding grains
e_width m e h b =
    omega (
      arith,
      e_length e.level.grains e.target e.heat e.off,
      decimal_width 8 e.level.grains (omega (arith, b.level)),
      decimal_width 6 e.target (omega (arith, b.target)),
      decimal_width 0 e.heat (omega (arith, b.heat)),
      decimal_width 7 e.off (omega (arith, b.off)),
    )

pub enough : (fates : List ℕ) (ps : List Piece) (qs : List ℕ) (e : Closing) (m : ℕ) → m ≤ 2000000
    → length fates ≤ instruction_places → length ps ≤ 1312 → length qs ≤ most_half_hours → All (λ (f : ℕ). f ≤ 8) fates → All
    (PieceBelow most_seconds 120000000) ps → All (λ (q : ℕ). q ≤ 2000000) qs → ClosingBelow m e
    → length (listing fates ps qs e) ≤ suffices
unfolding listing
enough fates ps qs e m h f p q bf bp bq be =
    simp length-append (omega (arith, f_width 1 fates (omega arith) bf, s_width ps bp, qs_width qs q bq, e_width m e h be))
