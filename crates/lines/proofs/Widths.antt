-- The width of each kind of line.
use mathlib.Core.Path.{◌≡◌}
use Prim.Native.Nat.{ℕ, ◌+◌}
use lib.ListN.{length}
use Rattle.lines.specs.Text.{decimal}
use Rattle.lines.specs.Lines.{f_line, s_line, q_line, e_line, x_line}
use Rattle.lines.proofs.Decimals.{line_one, line_two, line_three, line_four}

pub f_length : (n fate : ℕ) → length (f_line n fate) ≡ length (decimal n) + length (decimal fate) + 4
unfolding f_line
f_length n fate = line_two 70 n fate

pub s_length : (from to enter leave : ℕ) →
    length (s_line from to enter leave) ≡ length (decimal from) + length (decimal to) + length (decimal enter) + length (decimal leave) + 6
unfolding s_line
s_length from to enter leave = line_four 83 from to enter leave

pub q_length : (first last kw : ℕ) → length (q_line first last kw) ≡ length (decimal first) + length (decimal last) + length (decimal kw) + 5
unfolding q_line
q_length first last kw = line_three 81 first last kw

pub e_length : (level target heat off : ℕ) →
    length (e_line level target heat off) ≡ length (decimal level) + length (decimal target) + length (decimal heat) + length (decimal off) + 6
unfolding e_line
e_length level target heat off = line_four 69 level target heat off

pub x_length : (n : ℕ) → length (x_line n) ≡ length (decimal n) + 3
unfolding x_line
x_length n = line_one 88 n
