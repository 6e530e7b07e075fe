-- Working. The fates of those that act, laid over those that validation gave.
use Rattle.std.specs.Prelude.{ℕ, ◌-◌, List, [], ◌∷◌, leb, eqb, length, get_or, set}
use Rattle.level.specs.Choice.{pick}
use Rattle.validation.specs.declared.Numbered.{Numbered}
use Rattle.validation.specs.Kept.{Mark}

-- one fate laid over: a number that none has, and a fate of 1, change nothing
unfoldable pub over_fate : List ℕ → ℕ → ℕ → List ℕ
over_fate fates number fate =
    pick (eqb number 0) fates
    (pick (leb (length fates) (number - 1)) fates
    (pick (eqb (get_or fates (number - 1) 0) 1) fates
    (set fates (number - 1) fate)))

-- several, the first of them last
unfoldable pub over_all : List ℕ → List Mark → List ℕ
over_all fates [] = fates
over_all fates (m ∷ ms) = over_fate (over_all fates ms) m.number m.fate

-- those that act, each with its fate
unfoldable pub marks_of : List Numbered → List ℕ → List Mark
marks_of [] xs = []
marks_of (o ∷ os) [] = []
marks_of (o ∷ os) (x ∷ xs) = record { number = o.number; fate = x } ∷ marks_of os xs
