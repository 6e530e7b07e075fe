-- Believed: document 01, The printed day. The four kinds of line, and the line of a refusal.
use Rattle.std.specs.Prelude.{ℕ, List, [], ◌∷◌}
use Rattle.lines.specs.Text.{line}

-- "F n fate"
unfoldable pub f_line : ℕ → ℕ → List ℕ
f_line n fate = line 70 (n ∷ fate ∷ [])

-- "S from to level level (seconds, grains)"
unfoldable pub s_line : ℕ → ℕ → ℕ → ℕ → List ℕ
s_line from to enter leave = line 83 (from ∷ to ∷ enter ∷ leave ∷ [])

-- "Q first last kW"
unfoldable pub q_line : ℕ → ℕ → ℕ → List ℕ
q_line first last kw = line 81 (first ∷ last ∷ kw ∷ [])

-- "E level target heat off (grains, kW, heat, seconds)"
unfoldable pub e_line : ℕ → ℕ → ℕ → ℕ → List ℕ
e_line level target heat off = line 69 (level ∷ target ∷ heat ∷ off ∷ [])

-- "the line X n", of the listing program
unfoldable pub x_line : ℕ → List ℕ
x_line n = line 88 (n ∷ [])
