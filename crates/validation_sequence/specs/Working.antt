-- Working. What the code of step 3 works with, beside the definitions.
use Rattle.std.specs.Prelude.{ℕ, ◌+◌, ◌-◌, ◌<◌, ◌≤◌, ◌≡◌, List, [], ◌∷◌, true, false, eqb, length, set, get_or, replicate}
use Rattle.level.specs.Choice.{pick}
use Rattle.level.specs.Numbers.{instruction_places}
use Rattle.records.specs.declared.Effect.TheVariants.{Sync}
use Rattle.records.specs.Codes.{same}
use Rattle.validation.specs.declared.Numbered.{Numbered}
use Rattle.validation.specs.Kept.{effect_of, effective_of, Mark, Checked, turned, failed, sync_within_hour}
use Rattle.validation_groups.specs.Working.{no_numbered}

-- ---- the kept ones stand in time order, the latest last; fates by number, 2 where none is settled

-- one fate set; the marks set, the first of them last
unfoldable pub set_fate : List ℕ → ℕ → ℕ → List ℕ
set_fate fates number fate = pick (eqb number 0) fates (set fates (number - 1) fate)

unfoldable pub marked : List ℕ → List Mark → List ℕ
marked fates [] = fates
marked fates (m ∷ ms) = set_fate (marked fates ms) m.number m.fate

abbrev pub none_checked : Checked
none_checked = record { kept = []; marks = [] }

-- these say what the definition's lists say
pub record Tracks (kept : List Numbered) (fates : List ℕ) (m : Checked) : Type 0 where
  pub stack : turned kept [] ≡ m.kept
  pub settled : fates ≡ marked (replicate instruction_places 2) m.marks

-- no SYNC from a place on; none at all; the latest stands at this place
abbrev pub NoSyncFrom : List Numbered → ℕ → Type 0
NoSyncFrom ks i = (j : ℕ) → i ≤ j → j < length ks → same (effect_of (get_or ks j no_numbered)) Sync ≡ false

abbrev pub NoSync : List Numbered → Type 0
NoSync ks = NoSyncFrom ks 0

pub record LatestSync (ks : List Numbered) (at : ℕ) : Type 0 where
  pub here : at < length ks
  pub is : same (effect_of (get_or ks at no_numbered)) Sync ≡ true
  pub after : NoSyncFrom ks (at + 1)

-- the places of the SYNCs among these, of which the first stands at the place i
unfoldable pub sync_places : ℕ → List Numbered → List ℕ
sync_places i [] = []
sync_places i (k ∷ ks) = pick (same (effect_of k) Sync) (i ∷ sync_places (i + 1) ks) (sync_places (i + 1) ks)

-- the latest SYNC is not within the hour, or is, and stands at this place
abbrev pub NoneWithinHour : List Numbered → Numbered → Type 0
NoneWithinHour ks o = sync_within_hour (effective_of o) (turned ks []) ≡ false

pub record LatestWithinHour (ks : List Numbered) (o : Numbered) (at : ℕ) : Type 0 where
  pub latest : LatestSync ks at
  pub near : sync_within_hour (effective_of o) (turned ks []) ≡ true

-- after a FAIL: the kept ones and the fates are those of the definition
pub record FailedOne (kept : List Numbered) (fates : List ℕ) (o : Numbered) (next_kept : List Numbered) (next : List ℕ) : Type 0 where
  pub fewer : length next_kept ≤ length kept
  pub long : length next ≡ instruction_places
  pub follows : (m : Checked) → Tracks kept fates m → Tracks next_kept next (failed m o)

-- step 3 sets out: at most forty, and no fate is settled
pub record SetsOut (used : List Numbered) (fates : List ℕ) : Type 0 where
  pub few : length used ≤ instruction_places
  pub unsettled : fates ≡ replicate instruction_places 2

-- step 3 has come to this
pub record StepThree (kept : List Numbered) (fates : List ℕ) (m : Checked) : Type 0 where
  pub few : length kept ≤ instruction_places
  pub tracks : Tracks kept fates m
