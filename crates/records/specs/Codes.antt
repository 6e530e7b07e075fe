-- Believed: document 01, Units and records. "one byte of code, 1 to 7 in the order TRIP, MWOF, MXON, SYNC, MXOF, DESY, FAIL".
use Rattle.std.specs.Prelude.{ℕ, Bool, true, false, eqb, Option, Some, None}
use Rattle.level.specs.Choice.{pick}
use Rattle.records.specs.declared.Effect.{Effect}
use Rattle.records.specs.declared.Effect.TheVariants.{Trip, Mwof, Mxon, Sync, Mxof, Desy, Fail}
use Rattle.records.specs.declared.Meaning.{Meaning}

-- lag, rank and effect of a code byte. The lag is 120 s for MWOF, MXON, MXOF, DESY (P.11.9); the rank is the code's order
unfoldable pub meaning_of : ℕ → Option Meaning
meaning_of n =
    pick (eqb n 1) (Some (record { lag = 0; rank = 1; effect = Trip }))
    (pick (eqb n 2) (Some (record { lag = 120; rank = 2; effect = Mwof }))
    (pick (eqb n 3) (Some (record { lag = 120; rank = 3; effect = Mxon }))
    (pick (eqb n 4) (Some (record { lag = 0; rank = 4; effect = Sync }))
    (pick (eqb n 5) (Some (record { lag = 120; rank = 5; effect = Mxof }))
    (pick (eqb n 6) (Some (record { lag = 120; rank = 6; effect = Desy }))
    (pick (eqb n 7) (Some (record { lag = 0; rank = 7; effect = Fail }))
    None))))))

-- a byte outside 1 to 7 has no meaning, and its instruction is refused; here it reads like the last
abbrev pub meaning_in : Option Meaning → Meaning
meaning_in (Some m) = m
meaning_in None = record { lag = 0; rank = 7; effect = Fail }

abbrev pub is_unknown : Option Meaning → Bool
is_unknown (Some m) = false
is_unknown None = true

-- the paper's number of each code
abbrev pub code_number : Effect → ℕ
code_number Trip = 1
code_number Mwof = 2
code_number Mxon = 3
code_number Sync = 4
code_number Mxof = 5
code_number Desy = 6
code_number Fail = 7

-- whether two are the same code
abbrev pub same : Effect → Effect → Bool
same c d = eqb (code_number c) (code_number d)
