-- Fates of steps 1 to 4, by computation: a case for each sentence that the laws do not see. The expected fates are document 01's, or its readings'.
use mathlib.Core.Path.{◌≡◌, refl}
use mathlib.Core.List.{List, [], ◌∷◌}
use Prim.Native.Nat.{ℕ}
use Rattle.level.specs.Lists.{those, some}
use Rattle.level.specs.Bounds.{most_seconds}
use Rattle.records.specs.declared.Effect.{Effect}
use Rattle.records.specs.declared.Effect.TheVariants.{Trip, Mwof, Mxon, Sync, Desy, Fail}
use Rattle.records.specs.declared.Instruction.{Instruction}
use Rattle.records.specs.Codes.{meaning_of, meaning_in, code_number}
use Rattle.validation.specs.declared.Numbered.{Numbered}
use Rattle.validation.specs.Kept.{level_of, numbered, superseded, group, goes_before, highest, present, carrying, merged, used_of, next_time, used_from, used, repeats, sync_within_hour, from_sync, before_sync, failed, check_one, check, acting, overtaken, late_fate, actors, late_marks, turned, kept_of, validated, fate_among, fates_of}

-- effective time, issue time, code, level
unfoldable order : ℕ → ℕ → Effect → ℕ → Instruction
order t i c x = record { effective = t; issue = i; meaning = meaning_in (meaning_of (code_number c)); level = x; up = 0; down = 0 }

unfoldable fates : List Instruction → List ℕ
fates is = fates_of (numbered 1 is) (validated most_seconds (numbered 1 is)).marks (numbered 1 is)

-- number, acting time and level of each that acts
unfoldable acts : List Numbered → List ℕ
acts [] = []
acts (o ∷ os) = o.number ∷ acting o ∷ level_of o ∷ acts os

unfoldable worked : List (List ℕ)
worked =
    fates (order 3600 0 Sync 0 ∷ order 5000 0 Mwof 1 ∷ order 7200 0 Fail 0 ∷ [])  -- within the hour
    ∷ fates (order 3600 0 Sync 0 ∷ order 5000 0 Mwof 1 ∷ order 7201 0 Fail 0 ∷ [])  -- past it
    ∷ fates (order 100 0 Sync 0 ∷ order 3000 0 Sync 0 ∷ order 3701 0 Fail 0 ∷ [])  -- not timed from an ignored SYNC
    ∷ fates (order 100 0 Mwof 1 ∷ order 220 0 Trip 0 ∷ [])  -- overtaken at the same second
    ∷ fates (order 100 0 Mwof 1 ∷ order 221 0 Trip 0 ∷ [])
    ∷ fates (order 100 0 Sync 0 ∷ order 150 0 Trip 0 ∷ [])  -- SYNC has no lag
    ∷ fates (order 86279 0 Mwof 1 ∷ [])
    ∷ fates (order 86280 0 Mwof 1 ∷ [])
    ∷ fates (order 50 0 Mwof 7 ∷ order 50 1 Mwof 3 ∷ order 50 1 Mwof 5 ∷ order 50 1 Desy 0 ∷ order 50 1 Sync 0 ∷ order 50 1 Mwof 5 ∷ [])  -- SYNC(5)
    ∷ acts (validated most_seconds (numbered 1 (order 50 0 Mwof 7 ∷ order 50 1 Mwof 3 ∷ order 50 1 Mwof 5 ∷ order 50 1 Desy 0 ∷ order 50 1 Sync 0 ∷
    order 50 1 Mwof 5 ∷ []))).acts
    ∷ fates (order 10 0 Desy 0 ∷ order 20 0 Sync 0 ∷ order 30 0 Fail 0 ∷ order 40 0 Desy 0 ∷ [])  -- against the last kept one
    ∷ fates (order 100 0 Desy 0 ∷ order 200 0 Sync 0 ∷ [])  -- overtaken, whatever becomes of the later one
    ∷ fates (order 50 0 Mwof 7 ∷ order 50 0 Mxon 0 ∷ order 50 0 Sync 0 ∷ [])  -- rank first, then merge
    ∷ fates (order 50 0 Mxon 0 ∷ order 50 0 Sync 0 ∷ [])
    ∷ fates (order 50 0 Fail 0 ∷ order 50 0 Sync 0 ∷ [])  -- FAIL is last
    ∷ []

worked_are : worked ≡
    (4 ∷ 4 ∷ 5 ∷ []) ∷ (0 ∷ 0 ∷ 5 ∷ []) ∷ (0 ∷ 3 ∷ 5 ∷ []) ∷ (6 ∷ 0 ∷ []) ∷ (0 ∷ 0 ∷ []) ∷ (0 ∷ 0 ∷ []) ∷ (0 ∷ []) ∷ (8 ∷ [])
    ∷ (1 ∷ 2 ∷ 2 ∷ 2 ∷ 0 ∷ 2 ∷ []) ∷ (5 ∷ 50 ∷ 5 ∷ []) ∷ (0 ∷ 4 ∷ 5 ∷ 3 ∷ []) ∷ (6 ∷ 0 ∷ []) ∷ (2 ∷ 2 ∷ 0 ∷ []) ∷ (0 ∷ 2 ∷ []) ∷ (2 ∷ 0 ∷ []) ∷ []
unfolding order fates acts worked those some numbered superseded group goes_before highest present carrying merged used_of next_time used_from used
    repeats sync_within_hour from_sync before_sync failed check_one check acting overtaken late_fate actors late_marks turned kept_of validated fate_among
    fates_of meaning_of
worked_are = refl
