-- Believed: document 01, The printed day (demand 3). A list of calls: what day it leaves, which records it lets in, what its accepted listings write.
use Rattle.std.specs.Prelude.{ℕ, List, [], ◌∷◌, take}
use Rattle.level.specs.Choice.{pick}
use Rattle.records.specs.Answers.{accepted}
use Rattle.day.specs.declared.Day.{Day}
use Rattle.day.specs.Day.{empty}
use Rattle.day.specs.Step.{step_of}
use Rattle.listing.specs.Listing.{list_of, count_of, lent_after}

-- "The calls are taking a record, close among them, and asking for a listing": a call is sent a slice or lent one, of any length and content
pub data Call : Type 0 where
  sends : List ℕ → Call
  asks : List ℕ → Call

-- "Each later one gets the day that the call before returned or left": the day after the calls
unfoldable pub after_calls : Day → List Call → Day
after_calls d [] = d
after_calls d (sends s ∷ cs) = after_calls (step_of d s).day cs
after_calls d (asks o ∷ cs) = after_calls d cs

-- the records let in, as bytes, in order
unfoldable pub let_in : Day → List Call → List (List ℕ)
let_in d [] = []
let_in d (sends s ∷ cs) =
    pick (accepted (step_of d s).answer) (take (step_of d s).used s ∷ let_in (step_of d s).day cs) (let_in (step_of d s).day cs)
let_in d (asks o ∷ cs) = let_in d cs

-- the bytes that each accepted listing wrote: the first of the lent slice, as many as it says
unfoldable pub wrote : Day → List Call → List (List ℕ)
wrote d [] = []
wrote d (sends s ∷ cs) = wrote (step_of d s).day cs
wrote d (asks o ∷ cs) = pick (accepted (list_of d o)) (take (count_of (list_of d o)) (lent_after d o) ∷ wrote d cs) (wrote d cs)

-- "The first gets an empty day"
abbrev pub day_after : List Call → Day
day_after calls = after_calls empty calls

abbrev pub records_of : List Call → List (List ℕ)
records_of calls = let_in empty calls

abbrev pub listings_of : List Call → List (List ℕ)
listings_of calls = wrote empty calls
