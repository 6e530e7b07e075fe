-- Working. What the code of steps 1 and 2 works with, beside the definitions.
use Rattle.std.specs.Prelude.{ℕ, ◌+◌, ◌-◌, ◌<◌, ◌≤◌, max, ◌≡◌, List, [], ◌∷◌, Bool, true, ◌&&◌, not, leb, ltb, eqb, length, get_or, fold}
use Rattle.level.specs.Choice.{pick}
use Rattle.level.specs.Few.{Few, few_of}
use Rattle.level.specs.Numbers.{instruction_places}
use Rattle.records.specs.declared.Instruction.{Instruction}
use Rattle.records.specs.Records.{no_instruction}
use Rattle.validation.specs.declared.Numbered.{Numbered}
use Rattle.validation.specs.Kept.{effective_of}

-- a place that holds none
abbrev pub no_numbered : Numbered
no_numbered = record { number = 0; instruction = no_instruction }

-- the sequence that holds these
abbrev pub sequence_of : List Numbered → Few Numbered
sequence_of xs = few_of instruction_places no_numbered xs

abbrev pub issue_time_of : Numbered → ℕ
issue_time_of o = o.instruction.issue

-- the effective time at a place
abbrev pub time_at : List Numbered → ℕ → ℕ
time_at os i = effective_of (get_or os i no_numbered)

-- the latest so far, with one more looked at; the latest issue time of those at the effective time t, 0 where there is none
unfoldable pub later_of : ℕ → ℕ → Numbered → ℕ
later_of t best o = pick (eqb (effective_of o) t) (max best (issue_time_of o)) best

abbrev pub latest_at : List Numbered → ℕ → ℕ
latest_at os t = fold (later_of t) 0 os

-- each time is at least the one before it, the first at least `before`; so stand they all
unfoldable pub rising_from : ℕ → List Numbered → Bool
rising_from before [] = true
rising_from before (o ∷ os) = leb before (effective_of o) && rising_from (effective_of o) os

abbrev pub in_time_order : List Numbered → Bool
in_time_order os = rising_from 0 os

-- so stand any two of them
abbrev pub Rising : List Numbered → Type 0
Rising os = (i j : ℕ) → i ≤ j → j < length os → time_at os i ≤ time_at os j

-- at most forty, and whether they stand in time order
pub record UsedAsked (os : List Numbered) (ordered : Bool) : Type 0 where
  pub few : length os ≤ instruction_places
  pub told : ordered ≡ in_time_order os

-- there is such a place, and it has the time t
unfoldable pub has_time_at : List Numbered → ℕ → ℕ → Bool
has_time_at os at t = ltb at (length os) && eqb (time_at os at) t

-- the place before, where there is one, has the time t
unfoldable pub follows_time : List Numbered → ℕ → ℕ → Bool
follows_time os at t = ltb 0 at && eqb (time_at os (at - 1)) t

-- neither the next place nor the one before has the time at a place
unfoldable pub alone_at : List Numbered → ℕ → Bool
alone_at os at = not (has_time_at os (at + 1) (time_at os at)) && not (follows_time os at (time_at os at))

-- a place, whether they stand in time order, and the latest issue time for the place before
pub record LatestAsked (os : List Numbered) (at : ℕ) (ordered : Bool) (before : ℕ) : Type 0 where
  pub here : at < length os
  pub told : ordered ≡ in_time_order os
  pub before_latest : 0 < at → before ≡ latest_at os (time_at os (at - 1))

-- the instruction at the place i, from 0, with its number
abbrev pub numbered_at : ℕ → Instruction → Numbered
numbered_at i x = record { number = i + 1; instruction = x }

-- two have one effective time
abbrev pub same_time : Numbered → Numbered → Bool
same_time x y = eqb (effective_of x) (effective_of y)
