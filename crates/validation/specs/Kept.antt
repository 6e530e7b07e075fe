-- Believed: document 01, Which instructions are kept (P.12, P.13). "Each instruction gets one fate; the first step that settles it counts."
use Rattle.std.specs.Prelude.{ℕ, zero, suc, ◌+◌, min, List, [], ◌∷◌, ◌++◌, map, Bool, true, false, ◌&&◌, ◌||◌, not, leb, ltb, eqb, length}
use Rattle.level.specs.Choice.{pick}
use Rattle.level.specs.Lists.{those, some}
use Rattle.records.specs.declared.Effect.{Effect}
use Rattle.records.specs.declared.Effect.TheVariants.{Trip, Mwof, Sync, Desy, Fail}
use Rattle.records.specs.declared.Instruction.{Instruction}
use Rattle.records.specs.Codes.{same}
use Rattle.validation.specs.declared.Numbered.{Numbered}

-- "They are numbered from 1 as entered": from n on
unfoldable pub numbered : ℕ → List Instruction → List Numbered
numbered n [] = []
numbered n (i ∷ is) = record { number = n; instruction = i } ∷ numbered (suc n) is

-- what the steps ask of one
abbrev pub effective_of : Numbered → ℕ
effective_of o = o.instruction.effective

abbrev pub level_of : Numbered → ℕ
level_of o = o.instruction.level

abbrev pub effect_of : Numbered → Effect
effect_of o = o.instruction.meaning.effect

-- the fate of the instruction of that number
pub record Mark : Type 0 where
  pub number : ℕ
  pub fate : ℕ

abbrev pub mark : ℕ → Numbered → Mark
mark fate o = record { number = o.number; fate = fate }

-- ---- 1. "Of equal effective times only the latest issue time stays; others get fate 1."

unfoldable pub superseded : List Numbered → Numbered → Bool
superseded os o = some (λ (x : Numbered). eqb (effective_of x) (effective_of o) && ltb o.instruction.issue x.instruction.issue) os

-- those left at the effective time t
unfoldable pub group : List Numbered → ℕ → List Numbered
group os t = those (λ (o : Numbered). eqb (effective_of o) t && not (superseded os o)) os

-- ---- 2. "The highest ranked is used .. All others: fate 2."

-- x, entered after o, goes before it: it ranks higher, or both are MWOF and its level is larger.
-- ("the largest MWOF level stays, the earliest entered on a tie; of any other code the earliest entered")
unfoldable pub goes_before : Numbered → Numbered → Bool
goes_before x o =
    ltb x.instruction.meaning.rank o.instruction.meaning.rank
    || ((same (effect_of x) Mwof && same (effect_of o) Mwof) && ltb (level_of o) (level_of x))

unfoldable pub highest : Numbered → List Numbered → Numbered
highest o [] = o
highest o (x ∷ xs) = highest (pick (goes_before x o) x o) xs

-- the first, or none; the first of one list, else of the other
abbrev pub first_one : List Numbered → List Numbered
first_one [] = []
first_one (x ∷ xs) = x ∷ []

abbrev pub or_else : List Numbered → List Numbered → List Numbered
or_else [] ys = ys
or_else (x ∷ xs) ys = x ∷ xs

-- the earliest entered of a code, where that code is present
unfoldable pub present : Effect → List Numbered → List Numbered
present c g = first_one (those (λ (o : Numbered). same (effect_of o) c) g)

-- "The carrier is then the SYNC or DESY, with the MWOF's rates" and its level
abbrev pub with_figures : Instruction → Instruction → Instruction
with_figures m c = record { effective = c.effective; issue = c.issue; meaning = c.meaning; level = m.level; up = m.up; down = m.down }

unfoldable pub carrying : Numbered → Numbered → Numbered
carrying m c = record { number = c.number; instruction = with_figures m.instruction c.instruction }

-- "If that is MWOF(x) and SYNC is present, SYNC(x) is used, else with DESY present DESY(x)"
unfoldable pub merged : List Numbered → Numbered → List Numbered
merged g o = pick (same (effect_of o) Mwof) (or_else (map (carrying o) (or_else (present Sync g) (present Desy g))) (o ∷ [])) (o ∷ [])

-- the one that is used of a group
unfoldable pub used_of : List Numbered → List Numbered
used_of [] = []
used_of (o ∷ os) = merged (o ∷ os) (highest o os)

-- ---- 3. "In time order, against the last kept one"

-- the least effective time from t on; the day's end where there is none
unfoldable pub next_time : ℕ → List Numbered → ℕ → ℕ
next_time end [] t = end
next_time end (o ∷ os) t = pick (leb t (effective_of o)) (min (effective_of o) (next_time end os t)) (next_time end os t)

-- those used at the effective times from t on, in time order, n at most
unfoldable pub used_from : ℕ → List Numbered → ℕ → ℕ → List Numbered
used_from end os zero t = []
used_from end os (suc n) t = elim (ltb (next_time end os t) end) [
  | true ↦ used_of (group os (next_time end os t)) ++ used_from end os n (suc (next_time end os t))
  | false ↦ []
]

unfoldable pub used : ℕ → List Numbered → List Numbered
used end os = used_from end os (length os) 0

-- "SYNC after SYNC, DESY after DESY, TRIP after TRIP get fate 3"; the kept ones stand latest first
unfoldable pub repeats : Numbered → List Numbered → Bool
repeats o [] = false
repeats o (k ∷ ks) = same (effect_of o) (effect_of k) && (same (effect_of o) Sync || (same (effect_of o) Desy || same (effect_of o) Trip))

-- "If the latest kept SYNC is at most 3,600 s earlier" than the time t
unfoldable pub sync_within_hour : ℕ → List Numbered → Bool
sync_within_hour t [] = false
sync_within_hour t (k ∷ ks) = pick (same (effect_of k) Sync) (leb t (effective_of k + 3600)) (sync_within_hour t ks)

-- "that SYNC and all kept after it"; those kept before it
unfoldable pub from_sync : List Numbered → List Numbered
from_sync [] = []
from_sync (k ∷ ks) = pick (same (effect_of k) Sync) (k ∷ []) (k ∷ from_sync ks)

unfoldable pub before_sync : List Numbered → List Numbered
before_sync [] = []
before_sync (k ∷ ks) = pick (same (effect_of k) Sync) ks (before_sync ks)

-- what step 3 comes to: the list, latest first, and the fates settled
pub record Checked : Type 0 where
  pub kept : List Numbered
  pub marks : List Mark

-- "FAIL always gets fate 5. If the latest kept SYNC is at most 3,600 s earlier, that SYNC and all kept after it get fate 4 and leave the list."
unfoldable pub failed : Checked → Numbered → Checked
failed s o =
    pick (sync_within_hour (effective_of o) s.kept)
    (record { kept = before_sync s.kept; marks = mark 5 o ∷ (map (mark 4) (from_sync s.kept) ++ s.marks) })
    (record { kept = s.kept; marks = mark 5 o ∷ s.marks })

unfoldable pub check_one : Checked → Numbered → Checked
check_one s o =
    pick (same (effect_of o) Fail) (failed s o)
    (pick (repeats o s.kept) (record { kept = s.kept; marks = mark 3 o ∷ s.marks })
    (record { kept = o ∷ s.kept; marks = s.marks }))

unfoldable pub check : Checked → List Numbered → Checked
check s [] = s
check s (o ∷ os) = check (check_one s o) os

-- ---- 4. "Acting time is effective time, plus 120 s for MWOF, MXON, MXOF, DESY (P.11.9)."

unfoldable pub acting : Numbered → ℕ
acting o = effective_of o + o.instruction.meaning.lag

-- "One that a later kept one equals or precedes in acting time"
unfoldable pub overtaken : Numbered → List Numbered → Bool
overtaken o later = some (λ (l : Numbered). leb (acting l) (acting o)) later

-- ".. gets fate 6 (house). Acting at 86,400 or later, if not overtaken: fate 8." 0 where it acts
unfoldable pub late_fate : ℕ → Numbered → List Numbered → ℕ
late_fate end o later = pick (overtaken o later) 6 (pick (leb end (acting o)) 8 0)

-- the kept ones in time order: those that act, and the fates of the rest
unfoldable pub actors : ℕ → List Numbered → List Numbered
actors end [] = []
actors end (o ∷ os) = pick (eqb (late_fate end o os) 0) (o ∷ actors end os) (actors end os)

unfoldable pub late_marks : ℕ → List Numbered → List Mark
late_marks end [] = []
late_marks end (o ∷ os) = mark (late_fate end o os) o ∷ late_marks end os

-- latest first, turned into time order, before ys
unfoldable pub turned : List Numbered → List Numbered → List Numbered
turned [] ys = ys
turned (x ∷ xs) ys = turned xs (x ∷ ys)

-- the four steps together: those that act, in time order, and the fates settled
pub record Validated : Type 0 where
  pub acts : List Numbered
  pub marks : List Mark

unfoldable pub kept_of : ℕ → Checked → Validated
kept_of end s = record { acts = actors end (turned s.kept []); marks = s.marks ++ late_marks end (turned s.kept []) }

-- in a day of so many seconds
unfoldable pub validated : ℕ → List Numbered → Validated
validated end os = kept_of end (check (record { kept = []; marks = [] }) (used end os))

-- the fate among marks; 2 where there is none: another of its group was used
unfoldable pub fate_among : ℕ → List Mark → ℕ
fate_among n [] = 2
fate_among n (m ∷ ms) = pick (eqb m.number n) m.fate (fate_among n ms)

-- by number: 1 where step 1 settles it, else what the later steps say
unfoldable pub fates_of : List Numbered → List Mark → List Numbered → List ℕ
fates_of all ms [] = []
fates_of all ms (o ∷ os) = pick (superseded all o) 1 (fate_among o.number ms) ∷ fates_of all ms os
