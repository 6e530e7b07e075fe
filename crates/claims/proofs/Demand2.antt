-- Demand 2, proved.
use mathlib.Core.Path.{◌≡◌, ap, ◌∙◌}
use mathlib.Core.List.{List, []}
use mathlib.Core.Bool.{true}
use Prim.Native.Nat.{ℕ}
use Rattle.level.specs.Lists.{All}
use Rattle.profile.specs.Profile.{day_pieces, closing_by}
use Rattle.profile.proofs.Near.{all_map}
use Rattle.profile.proofs.Cuts.{day_cuts}
use Rattle.profile.proofs.Traced.{day_joined, day_starting, day_ending}
use Rattle.day.specs.declared.Day.{Day}
use Rattle.day.specs.Day.{day_seconds, empty, is_closed}
use Rattle.listing.specs.Listing.{listing, printed_day}
use Rattle.claims.specs.Calls.{day_after, records_of, listings_of}
use Rattle.claims.specs.LetIn.{found_from, spans_from, listing_from}
use Rattle.claims.specs.Demand2.{Traced, Demand2, Demand2Claim}
use Rattle.claims.proofs.Made.{Made, made_empty}
use Rattle.claims.proofs.Run.{made_after, wrote_are}
use Rattle.claims.proofs.Claim.{chain, drives}
use Rattle.claims.proofs.Room.{fates_stored, courses_stored, closing_stored, quantities_stored, printed_is}

-- ---- a closed day that the records rs made
module _ (d : Day) (rs : List (List ℕ)) (m : Made d rs) (c : is_closed d ≡ true) where
  -- its listing is that of the records let in
  pub printed_from : printed_day d ≡ listing_from rs
  unfolding listing_from spans_from
  printed_from =
      printed_is d rs m c
      ∙ ap (λ (qs : List ℕ). listing (found_from rs).fates (day_pieces (spans_from rs)) qs (closing_by (found_from rs).last (found_from rs).end))
      (quantities_stored d rs m c)

  traced : Traced (spans_from rs) (day_pieces (spans_from rs))
  traced =
      let whole = chain d rs m c in
      record {
        joined = day_joined 0 day_seconds (spans_from rs) whole;
        starting = day_starting 0 day_seconds (spans_from rs) whole;
        ending = day_ending 0 day_seconds (spans_from rs) whole;
        cuts = day_cuts 0 day_seconds (spans_from rs) whole (drives d rs m c);
      }

  demand : (ws : List (List ℕ)) → All (λ w. w ≡ printed_day d) ws → Demand2 rs d ws
  demand ws a = record {
    fates = fates_stored d rs m c;
    courses = courses_stored d rs m c;
    profile = traced;
    quantities = quantities_stored d rs m c;
    closing = closing_stored d rs m c;
    printed = all_map (λ w. w ≡ printed_day d) (λ w. w ≡ listing_from rs) (λ w e. e ∙ printed_from) ws a;
  }

-- over every list of calls that leaves the day closed
pub demand2 : Demand2Claim
demand2 calls c = demand (day_after calls) (records_of calls) (made_after calls empty [] made_empty) c (listings_of calls) (wrote_are calls empty)
