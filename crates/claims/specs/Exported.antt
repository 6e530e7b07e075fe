-- Believed: document 01, The printed day (all demands). The exported function: what it returns and writes is what a list of calls gives.
use Rattle.std.specs.Prelude.{ℕ, zero, suc, ◌*◌, ◌≤◌, ◌≡◌, List, [], ◌∷◌, ◌++◌, true, ◌&&◌, not, eqb, length, take, drop}
use Rattle.level.specs.Choice.{pick}
use Rattle.records.specs.Answers.{number_of, accepted}
use Rattle.day.specs.declared.Day.{Day}
use Rattle.day.specs.Day.{empty, quantities_in, is_closed}
use Rattle.day.specs.Step.{step_of}
use Rattle.listing.specs.Listing.{suffices, list_of}
use Rattle.listing.specs.Result.{listed_result, listed_lent}
use Rattle.claims.specs.Calls.{Call, sends, asks, day_after, records_of, listings_of}
use Rattle.claims.specs.Conditions.{first_number, record_rulings, listing_rulings}
use Rattle.claims.specs.Demand2.{Demand2}
use Rattle.claims.specs.Demand3Whole.{Demand3Whole}

-- each record in turn: a call with what is left of the bytes s, from the day d on, up to close or the first refusal, n at most
unfoldable pub in_turn : ℕ → Day → List ℕ → List Call
in_turn zero d s = []
in_turn (suc n) d s =
    sends s
    ∷ pick (accepted (step_of d s).answer && not (is_closed (step_of d s).day)) (in_turn n (step_of d s).day (drop (step_of d s).used s)) []

-- from the empty day, then the listing into the lent slice o; a record has at least one byte
unfoldable pub calls_for : List ℕ → List ℕ → List Call
calls_for s o = in_turn (suc (length s)) empty s ++ (asks o ∷ [])

-- the numbers of the answers that calls get, 0 for an acceptance; the first that is a refusal's
unfoldable pub numbers_of : Day → List Call → List ℕ
numbers_of d [] = []
numbers_of d (sends s ∷ cs) = number_of (step_of d s).answer ∷ numbers_of (step_of d s).day cs
numbers_of d (asks o ∷ cs) = number_of (list_of d o) ∷ numbers_of d cs

unfoldable pub first_refused : List ℕ → ℕ
first_refused [] = 0
first_refused (n ∷ ns) = pick (eqb n 0) (first_refused ns) n

unfoldable pub refused_with : List ℕ → List ℕ → ℕ
refused_with s o = first_refused (numbers_of empty (calls_for s o))

-- the numbers that the paper's conditions give, call by call, each from the records let in by the calls before it and from what is sent or lent
unfoldable pub ruled : List Call → List Call → List ℕ
ruled before [] = []
ruled before (sends s ∷ cs) = first_number (record_rulings (records_of before) s) ∷ ruled (before ++ (sends s ∷ [])) cs
ruled before (asks o ∷ cs) = first_number (listing_rulings (records_of before) o) ∷ ruled (before ++ (asks o ∷ [])) cs

-- `listed_result` and `listed_lent` are the contract of `gristpebble_listing`: what it returns, and the lent slice after it. The bytes written
abbrev pub written : List ℕ → List ℕ → List ℕ
written s o = take (listed_result s o) (listed_lent s o)

-- where no call is refused: a count of bytes, far below the refusals' results, so many as were written; the calls' one listing wrote them, every
-- other byte is as it was, and demands 2 and 3 hold of the calls and of the bytes written
pub record Wrote (s o : List ℕ) : Type 0 where
  pub closed : is_closed (day_after (calls_for s o)) ≡ true
  pub count : listed_result s o ≤ suffices
  pub whole : length (written s o) ≡ listed_result s o
  pub listing : listings_of (calls_for s o) ≡ written s o ∷ []
  pub others : drop (listed_result s o) (listed_lent s o) ≡ drop (listed_result s o) o
  pub demand2 : Demand2 (records_of (calls_for s o)) (day_after (calls_for s o)) (written s o ∷ [])
  pub demand3 : Demand3Whole (records_of (calls_for s o)) (quantities_in (day_after (calls_for s o))) (written s o ∷ [])

-- for all bytes s and any lent slice o
pub record Exported (s o : List ℕ) : Type 0 where
  -- demand 1 of each call: the number that it gets is that of the first condition that holds
  pub demand1 : numbers_of empty (calls_for s o) ≡ ruled [] (calls_for s o)
  -- where a call is refused: the number of the first that is, times 2^32, and the lent slice as it was
  pub refused : 1 ≤ refused_with s o → (listed_result s o ≡ refused_with s o * 4294967296) × (listed_lent s o ≡ o)
  pub wrote : refused_with s o ≡ 0 → Wrote s o

abbrev pub ExportedClaim : Type 0
ExportedClaim = (s o : List ℕ) → Exported s o
