-- Working. What the code of step 4 works with, beside the definitions.
use Rattle.std.specs.Prelude.{ℕ, zero, suc, ◌+◌, ◌-◌, ◌<◌, min, ◌≡◌, List, [], ◌∷◌, ◌++◌, leb, eqb, length, drop, set, get_or}
use Rattle.level.specs.Choice.{pick}
use Rattle.validation.specs.declared.Numbered.{Numbered}
use Rattle.validation.specs.Kept.{Mark, acting, superseded, late_fate, late_marks}
use Rattle.validation_groups.specs.Working.{no_numbered}

-- later than any acting time: what two numbers of 32 bits cannot add up to
abbrev pub never : ℕ
never = 8589934592

-- the earliest acting time of these; where there is none, one later than any
unfoldable pub earliest_acting : List Numbered → ℕ
earliest_acting [] = never
earliest_acting (o ∷ os) = min (earliest_acting os) (acting o)

-- the fate of one that acts at the time own, by the earliest acting time of those after it: `late_fate` of the validation, over the times
-- (`late_is`, proofs/Late, equates them)
unfoldable pub late_fate_by : ℕ → ℕ → ℕ → ℕ
late_fate_by end own earliest = pick (leb earliest own) 6 (pick (leb end own) 8 0)

-- these are step 4's fates of the kept ones, by their places
abbrev pub LateFates : ℕ → List Numbered → List ℕ → Type 0
LateFates end ks fates = (i : ℕ) → i < length ks → get_or fates i 0 ≡ late_fate end (get_or ks i no_numbered) (drop (i + 1) ks)

-- a fate where none is settled; the marks in turn
unfoldable pub settle_fate : List ℕ → ℕ → ℕ → List ℕ
settle_fate fates number fate = pick (eqb number 0) fates (pick (eqb (get_or fates (number - 1) 0) 2) (set fates (number - 1) fate) fates)

unfoldable pub settled : List ℕ → List Mark → List ℕ
settled fates [] = fates
settled fates (m ∷ ms) = settled (settle_fate fates m.number m.fate) ms

-- these are the fates `before`, with step 4's of the kept ones, whose fates stand by their places
abbrev pub SettledBy : List Numbered → List ℕ → List ℕ → List ℕ → Type 0
SettledBy ks late before fates = (end : ℕ) → LateFates end ks late → fates ≡ settled before (late_marks end ks)

-- the first i fates, by what the later steps say
unfoldable pub fates_to : List Numbered → List ℕ → ℕ → List ℕ
fates_to all later zero = []
fates_to all later (suc i) = fates_to all later i ++ (pick (superseded all (get_or all i no_numbered)) 1 (get_or later i 0) ∷ [])
