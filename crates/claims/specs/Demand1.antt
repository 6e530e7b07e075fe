-- Believed: document 01, Refusals (demand 1). Whole: over every list of calls and every further call, from what was sent and let in.
use Rattle.std.specs.Prelude.{ℕ, ◌≤◌, ◌≡◌, List}
use Rattle.records.specs.Answers.{number_of}
use Rattle.day.specs.Step.{step_of}
use Rattle.listing.specs.Listing.{list_of, count_of, lent_after}
use Rattle.claims.specs.Calls.{Call, day_after, records_of}
use Rattle.claims.specs.Conditions.{first_number, record_rulings, listing_rulings}

-- of one more call after some: bytes s sent, "well formed or not, in any order", or a slice o lent for a listing
pub record Demand1 (calls : List Call) : Type 0 where
  -- "Whoever sends a record .. gets an acceptance or one numbered refusal from the paper's two lists, under the condition written there and under
  -- no other": the number, by `refusal_number`, is that of the first condition that holds of the records let in and the bytes sent, or 0
  pub sent : (s : List ℕ) → number_of (step_of (day_after calls) s).answer ≡ first_number (record_rulings (records_of calls) s)
  -- the same of a listing: 25, 26
  pub asked : (o : List ℕ) → number_of (list_of (day_after calls) o) ≡ first_number (listing_rulings (records_of calls) o)
  -- "a refusal changes neither the day nor the lent bytes"; of what was sent nothing is used, and of a listing no byte counted
  pub day_kept : (s : List ℕ) → 1 ≤ number_of (step_of (day_after calls) s).answer → (step_of (day_after calls) s).day ≡ day_after calls
  pub none_used : (s : List ℕ) → 1 ≤ number_of (step_of (day_after calls) s).answer → (step_of (day_after calls) s).used ≡ 0
  pub lent_kept : (o : List ℕ) → 1 ≤ number_of (list_of (day_after calls) o) → lent_after (day_after calls) o ≡ o
  pub none_counted : (o : List ℕ) → 1 ≤ number_of (list_of (day_after calls) o) → count_of (list_of (day_after calls) o) ≡ 0

-- "and every call ends": `step_of` and `list_of` are the contracts of `day_step::step` and `listing_print::list`, which are for every value, and
-- the prover shows of every function that it ends
abbrev pub Demand1Claim : Type 0
Demand1Claim = (calls : List Call) → Demand1 calls
