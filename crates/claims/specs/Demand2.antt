-- Believed: document 01, The printed day (demand 2). Whole: over every list of calls that leaves the day closed, from bytes taken to bytes printed.
use Rattle.std.specs.Prelude.{ℕ, suc, ◌≤◌, ◌<◌, ◌≡◌, List, true, eqb}
use Rattle.level.specs.Lists.{All, some}
use Rattle.course.specs.declared.Piece.{Piece}
use Rattle.profile.specs.Profile.{Span, level_starting, level_ending, cut_at, Joined, OnLine, day_pieces, closing_by}
use Rattle.day.specs.declared.Day.{Day}
use Rattle.day.specs.Day.{day_seconds, fates_in, courses_in, quantities_in, closing_in, is_closed}
use Rattle.claims.specs.Calls.{Call, day_after, records_of, listings_of}
use Rattle.claims.specs.LetIn.{found_from, spans_from, listing_from}

-- the profile: of the courses' spans ss, and the pieces ps that the S lines print
pub record Traced (ss : List Span) (ps : List Piece) : Type 0 where
  -- they go from 0 to the day's end without gap or overlap, and none is empty
  pub joined : Joined 0 ps day_seconds
  -- each is straight, and within it lies the second-by-second level of the course in force, where a second begins and where it ends
  pub starting : All (λ (p : Piece). (t : ℕ) → p.from ≤ t → t < p.to → OnLine p t (level_starting ss t)) ps
  pub ending : All (λ (p : Piece). (t : ℕ) → p.from ≤ t → t < p.to → OnLine p (suc t) (level_ending ss t)) ps
  -- "one for each run at full rate up to a stop, shorter last second, hold, and rest at target, cut besides only by fate-0 instructions and the
  -- day's end": a piece begins just where a course does or the part of it changes, so that no two neighbours are one run cut in two
  pub cuts : (t : ℕ) → some (λ (p : Piece). eqb t p.from) ps ≡ cut_at ss t

-- of the records rs let in, the day d that they leave, and the bytes that its accepted listings wrote
pub record Demand2 (rs : List (List ℕ)) (d : Day) (listings : List (List ℕ)) : Type 0 where
  -- "The fates .. of a closed day equal what document 01 defines"
  pub fates : fates_in d ≡ (found_from rs).fates
  -- "profile": its courses, and the pieces of them
  pub courses : courses_in d ≡ (found_from rs).courses
  pub profile : Traced (spans_from rs) (day_pieces (spans_from rs))
  -- "quantities"
  pub quantities : quantities_in d ≡ (found_from rs).quantities
  -- "and closing state"
  pub closing : closing_in d ≡ closing_by (found_from rs).last (found_from rs).end
  -- and every byte that an accepted listing prints is theirs
  pub printed : All (λ w. w ≡ listing_from rs) listings

abbrev pub Demand2Claim : Type 0
Demand2Claim = (calls : List Call) → is_closed (day_after calls) ≡ true → Demand2 (records_of calls) (day_after calls) (listings_of calls)
