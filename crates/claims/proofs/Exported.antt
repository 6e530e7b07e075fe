-- The exported function: its run is a list of calls, and what it returns and writes is what they give.
use Prim.Native.Nat.{ℕ, zero, suc, ◌*◌, ◌≤◌, ◌<◌}
use mathlib.Core.Path.{◌≡◌, refl, ap, sym, ◌∙◌, subst}
use mathlib.Core.List.{List, [], ◌∷◌, ◌++◌}
use mathlib.Core.Bool.{Bool, true, false, ◌&&◌, not}
use native.Mathlib.Omega.{arith}
use lib.ListN.{length, drop, length-drop}
use lib.Seq.{take-append_seam, drop-append_seam}
use borrow.Author.Tests.{ne_eqb}
use Rattle.level.specs.Choice.{pick}
use Rattle.std.specs.Prelude.{Ok, Err}
use Rattle.records.specs.declared.Refusal.{Refusal}
use Rattle.records.specs.declared.Refusal.TheVariants.{UnknownKind, TooFewBytes, UnitField, UnitDisagrees, OpeningField, CodeField, EffectiveTime, IssueTime, LevelOrRates, SecondOne, BeforeUnit, OpeningTooHigh, TooManyInstructions, AfterClose, NotReady, SliceTooShort, QuantityTooHigh}
use Rattle.records.specs.Answers.{Answer, refusal_number, number_of, accepted, before, answered}
use Rattle.profile.specs.Profile.{paper}
use Rattle.day.specs.declared.Day.{Day}
use Rattle.day.specs.declared.Stepped.{Stepped}
use Rattle.day.specs.Day.{empty, found_in, quantities_in, is_closed}
use Rattle.day.specs.Step.{step_of}
use Rattle.day.proofs.Answers.{never, number_same}
use Rattle.day.proofs.ByKind.{step_used}
use Rattle.lines.specs.Text.{laid}
use Rattle.listing.specs.Listing.{suffices, printed_day, list_answer, list_of, lent_after}
use Rattle.listing.specs.Program.{Ran, run_by, ran_by}
use Rattle.listing.specs.Result.{list_ran, lent_ran, listed, in_one, listed_result, listed_lent}
use Rattle.listing.proofs.Onward.{onward, run_onward, used_some, enough}
use Rattle.claims.specs.Calls.{Call, sends, asks, after_calls, wrote, day_after, records_of, listings_of}
use Rattle.claims.specs.Demand2.{Demand2}
use Rattle.claims.specs.Demand3Whole.{Demand3Whole}
use Rattle.claims.specs.Exported.{in_turn, calls_for, numbers_of, first_refused, refused_with, ruled, written, ExportedClaim}
use Rattle.claims.proofs.Run.{after_append, wrote_one}
use Rattle.claims.proofs.Room.{listing_suffices}
use Rattle.claims.proofs.Claim.{demand3_whole}
use Rattle.claims.proofs.Demand1.{demand1}
use Rattle.claims.proofs.Demand2.{demand2}

-- ---- no refusal has the number 0
some_number : (r : Refusal) → 1 ≤ refusal_number r
some_number UnknownKind = omega arith
some_number TooFewBytes = omega arith
some_number UnitField = omega arith
some_number UnitDisagrees = omega arith
some_number OpeningField = omega arith
some_number CodeField = omega arith
some_number EffectiveTime = omega arith
some_number IssueTime = omega arith
some_number LevelOrRates = omega arith
some_number SecondOne = omega arith
some_number BeforeUnit = omega arith
some_number OpeningTooHigh = omega arith
some_number TooManyInstructions = omega arith
some_number AfterClose = omega arith
some_number NotReady = omega arith
some_number SliceTooShort = omega arith
some_number QuantityTooHigh = omega arith

no_number : (a : Answer) → number_of a ≡ 0 → a ≡ Ok tt
no_number (Ok _) e = refl
no_number (Err r) e = absurd (omega (arith, some_number r))

-- it is the first where it stands first; and a number alone is the first
first_here : (n : ℕ) (ns : List ℕ) → 1 ≤ n → first_refused (n ∷ ns) ≡ n
unfolding first_refused
first_here n ns h = rw (ne_eqb n 0 (λ e. omega arith))

first_only : (n : ℕ) → first_refused (n ∷ []) ≡ n
unfolding first_refused
first_only zero = refl
first_only (suc n) = first_here (suc n) [] (omega arith)

-- ---- the calls of a run, then asking for the listing
module _ (o : List ℕ) where
  -- the number of the refusal that ends the run; else that of the listing
  ends_with : Ran → ℕ
  ends_with r = number_of (list_ran r o)

  -- calls leave the day e, their listings are ws, the first that is refused has the number k: as the run r has it
  record Runs (e : Day) (ws : List (List ℕ)) (k : ℕ) (r : Ran) : Type 0 where
    left : e ≡ r.day
    listings : ws ≡ wrote r.day (asks o ∷ [])
    number : k ≡ ends_with r
    closed : r.answer ≡ Ok tt → is_closed r.day ≡ true

  abbrev CallsRun : Day → List Call → Ran → Type 0
  CallsRun d cs r = let c : List Call = cs ++ (asks o ∷ []) in Runs (after_calls d c) (wrote d c) (first_refused (numbers_of d c)) r

  calls_run : (n : ℕ) (d : Day) (s : List ℕ) → length s < n → CallsRun d (in_turn n d s) (run_by (found_in paper) n d s)
  unfolding in_turn after_calls wrote numbers_of first_refused onward ends_with
  calls_run zero d s h = absurd (omega arith)
  calls_run (suc n) d s h =
      let t : Stepped = step_of d s in
      rw (run_onward (found_in paper) n d s) (go t.answer t.day (is_closed t.day) (drop t.used s) refl
      (λ a. omega (arith, used_some (found_in paper) d s a, step_used (found_in paper) d s, length-drop t.used s)) (λ e q l. calls_run n e q l))
    where
      go : (a : Answer) (e : Day) (b : Bool) (q : List ℕ) → is_closed e ≡ b → (accepted a ≡ true → length q < n) →
          ((k : Day) (v : List ℕ) → length v < n → CallsRun k (in_turn n k v) (run_by (found_in paper) n k v)) →
          let c : List Call = pick (accepted a && not b) (in_turn n e q) [] ++ (asks o ∷ []) in
          Runs (after_calls e c) (wrote e c) (first_refused (number_of a ∷ numbers_of e c)) (onward (found_in paper) n a e b q)
      go (Err x) e b q c l f = record {
        left = refl;
        listings = refl;
        number = first_here (refusal_number x) (numbers_of e (asks o ∷ [])) (some_number x);
        closed = λ y. never (ap accepted y);
      }
      go (Ok _) e true q c l f = record { left = refl; listings = refl; number = first_only (number_of (list_of e o)); closed = λ y. c }
      go (Ok _) e false q c l f = f e q (l refl)

-- those of the exported function
runs : (s o : List ℕ) (r : Ran) → r ≡ ran_by (found_in paper) s →
    Runs o (day_after (calls_for s o)) (listings_of (calls_for s o)) (refused_with s o) r
unfolding calls_for refused_with ran_by
runs s o r made =
    let n : ℕ = length s in
    subst (Runs o (day_after (calls_for s o)) (listings_of (calls_for s o)) (refused_with s o))
    (enough (found_in paper) (suc n) n empty s (omega arith) (omega arith) ∙ sym made) (calls_run o (suc n) empty s (omega arith))

-- a run that is accepted leaves the day closed, and its listing has at most 46,080 bytes
pub run_fits : (s : List ℕ) (r : Ran) → r ≡ ran_by (found_in paper) s → r.answer ≡ Ok tt →
    (is_closed r.day ≡ true) × (length (printed_day r.day) ≤ suffices)
run_fits s r made a =
    let k = runs s [] r made in
    (k.closed a, rw k.left at (listing_suffices (calls_for s []) (ap (λ (d : Day). is_closed d) k.left ∙ k.closed a)))

pub ran_fits : (s : List ℕ) → (ran_by (found_in paper) s).answer ≡ Ok tt →
    (is_closed (ran_by (found_in paper) s).day ≡ true) × (length (printed_day (ran_by (found_in paper) s).day) ≤ suffices)
ran_fits s a = run_fits s (ran_by (found_in paper) s) refl a

-- ---- what the run gives with the lent slice
module _ (o : List ℕ) where
  refused_gives : (r : Ran) → 1 ≤ ends_with o r → (in_one (list_ran r o) ≡ ends_with o r * 4294967296) × (lent_ran r o ≡ o)
  unfolding ends_with list_of lent_after
  refused_gives r h = go r.answer r.day h
    where
      asked : (a : Answer) (xs : List ℕ) → 1 ≤ number_of (answered a (length xs)) →
          (in_one (answered a (length xs)) ≡ number_of (answered a (length xs)) * 4294967296) × (pick (accepted a) (laid xs o) o ≡ o)
      asked (Ok _) xs h = absurd (omega arith)
      asked (Err x) xs h = (refl, refl)

      go : (a : Answer) (d : Day) → 1 ≤ number_of (before a (list_of d o)) →
          (in_one (before a (list_of d o)) ≡ number_of (before a (list_of d o)) * 4294967296) × (pick (accepted a) (lent_after d o) o ≡ o)
      go (Ok _) d h = asked (list_answer d o) (printed_day d) h
      go (Err x) d h = (refl, refl)

  none_refused : (r : Ran) → ends_with o r ≡ 0 → (r.answer ≡ Ok tt) × (list_answer r.day o ≡ Ok tt)
  unfolding ends_with list_of
  none_refused r e = go r.answer r.day e
    where
      go : (a : Answer) (d : Day) → number_of (before a (list_of d o)) ≡ 0 → (a ≡ Ok tt) × (list_answer d o ≡ Ok tt)
      go (Ok _) d e = (refl, no_number (list_answer d o) (sym (number_same (length (printed_day d)) (list_answer d o)) ∙ e))
      go (Err x) d e = absurd (omega (arith, some_number x))

  taken_gives : (r : Ran) → r.answer ≡ Ok tt → list_answer r.day o ≡ Ok tt →
      (in_one (list_ran r o) ≡ length (printed_day r.day)) × (lent_ran r o ≡ laid (printed_day r.day) o)
  unfolding list_of lent_after
  taken_gives r e l = (rw (e, l), rw (e, l))

-- ---- the claim
module _ (s o : List ℕ) where
  abbrev r : Ran
  r = ran_by (found_in paper) s

  abbrev p : List ℕ
  p = printed_day r.day

  k : Runs o (day_after (calls_for s o)) (listings_of (calls_for s o)) (refused_with s o) r
  k = runs s o r refl

  refused : 1 ≤ refused_with s o → (listed_result s o ≡ refused_with s o * 4294967296) × (listed_lent s o ≡ o)
  unfolding listed_result listed listed_lent
  refused = rw k.number (refused_gives o r)

  module _ (e : refused_with s o ≡ 0) where
    no_refusal : (r.answer ≡ Ok tt) × (list_answer r.day o ≡ Ok tt)
    no_refusal = none_refused o r (sym k.number ∙ e)

    gives : (listed_result s o ≡ length p) × (listed_lent s o ≡ laid p o)
    unfolding listed_result listed listed_lent
    gives = taken_gives o r no_refusal.0 no_refusal.1

    closed : is_closed (day_after (calls_for s o)) ≡ true
    closed = ap (λ (d : Day). is_closed d) k.left ∙ k.closed no_refusal.0

    written_is : written s o ≡ p
    written_is = rw (gives.0, gives.1) (take-append_seam p (drop (length p) o))

    listing : listings_of (calls_for s o) ≡ written s o ∷ []
    unfolding wrote
    listing = k.listings ∙ (wrote_one r.day o [] (ap accepted no_refusal.1) ∙ ap (λ (w : List ℕ). w ∷ []) (sym written_is))

    others : drop (listed_result s o) (listed_lent s o) ≡ drop (listed_result s o) o
    others = rw (gives.0, gives.1) (drop-append_seam p (drop (length p) o))

all_ruled : (before cs : List Call) → numbers_of (day_after before) cs ≡ ruled before cs
unfolding numbers_of ruled after_calls
all_ruled before [] = refl
all_ruled before (sends s ∷ cs) =
    λ i. (demand1 before).sent s i ∷ (rw (after_append before (sends s ∷ []) empty) at (all_ruled (before ++ (sends s ∷ [])) cs)) i
all_ruled before (asks o ∷ cs) =
    λ i. (demand1 before).asked o i ∷ (rw (after_append before (asks o ∷ []) empty) at (all_ruled (before ++ (asks o ∷ [])) cs)) i

pub exported : ExportedClaim
unfolding after_calls
exported s o = record {
  demand1 = all_ruled [] (calls_for s o);
  refused = refused s o;
  wrote = λ e. let cs : List Call = calls_for s o in record {
    closed = closed s o e;
    count = rw (gives s o e).0 (run_fits s (ran_by (found_in paper) s) refl (no_refusal s o e).0).1;
    whole = ap length (written_is s o e) ∙ sym (gives s o e).0;
    listing = listing s o e;
    others = others s o e;
    demand2 = subst (Demand2 (records_of cs) (day_after cs)) (listing s o e) (demand2 cs (closed s o e));
    demand3 = subst (Demand3Whole (records_of cs) (quantities_in (day_after cs))) (listing s o e) (demand3_whole cs (closed s o e));
  };
}
