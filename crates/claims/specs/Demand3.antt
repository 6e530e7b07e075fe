-- Believed: document 01, The printed day (demand 3). Whole: over every list of calls from the empty day, from the bytes taken to the bytes printed.
use Rattle.std.specs.Prelude.{ℕ, suc, ◌+◌, ◌*◌, ◌-◌, ◌≤◌, ◌<◌, ◌≡◌, List, [], ◌∷◌, true, get_or}
use Rattle.level.specs.Lists.{All, sum}
use Rattle.profile.specs.Profile.{Span, level_starting, level_ending, rate_starting}
use Rattle.profile.specs.Allowance.{allowance, exact_area, Within}
use Rattle.day.specs.Day.{half_hours, day_seconds, quantities_in, is_closed}
use Rattle.listing.specs.Reader.{printed_at, printed_kw}
use Rattle.claims.specs.Calls.{Call, day_after, records_of, listings_of}
use Rattle.claims.specs.LetIn.{spans_from}

-- "between any two of its half-hour boundaries": for quantities q, q i that of the half-hour from the boundary i on,
-- "Their sum times 216,000 differs from twice the exact area in grain-seconds by at most 108,000 for each half-hour plus, for each
-- course having time there, twice its number of stops times its distance in grains"
abbrev pub Near : List Span → (ℕ → ℕ) → Type 0
Near ss q =
    (a b : ℕ) → a ≤ b → b ≤ half_hours → Within (216000 * sum q a (b - a)) (exact_area ss a b) (108000 * (b - a) + allowance ss a b)

-- the bytes w print one quantity for each half-hour
abbrev pub Single : List ℕ → Type 0
Single w = (h : ℕ) → 1 ≤ h → h ≤ half_hours → printed_at w h ≡ printed_kw w h ∷ []

-- of the spans of a day's courses, its quantities, and the bytes that its accepted listings wrote
pub record Demand3 (ss : List Span) (quantities : List ℕ) (listings : List (List ℕ)) : Type 0 where
  -- "for its quantities"
  pub stored : Near ss (λ i. get_or quantities i 0)
  -- "and for those that any accepted listing of it prints"
  pub printed : All (λ w. Near ss (λ i. printed_kw w (suc i))) listings
  pub single : All Single listings
  -- "The exact profile starts each course at the level we recorded"
  pub begins : All (λ (s : Span). s.begin < s.end → s.trajectory.start ≡ level_starting ss s.begin) ss
  -- "Within a course, no second moves the level further than the rate in force where that second began"
  pub rises : (t : ℕ) → t < day_seconds → level_ending ss t ≤ level_starting ss t + rate_starting ss t
  pub falls : (t : ℕ) → t < day_seconds → level_starting ss t ≤ level_ending ss t + rate_starting ss t

-- "Take every list of records sent and listings asked for, refused ones included, from an empty day. If it leaves the day closed, the
-- following is true"
abbrev pub Demand3Claim : Type 0
Demand3Claim =
    (calls : List Call) → is_closed (day_after calls) ≡ true → Demand3 (spans_from (records_of calls)) (quantities_in (day_after calls)) (listings_of calls)
