-- What holds of the day after any list of calls, and of what its listings wrote.
use mathlib.Core.Path.{◌≡◌, refl, ap, sym, ◌∙◌}
use mathlib.Core.List.{List, [], ◌∷◌, ◌++◌, append_assoc, append-nil}
use mathlib.Core.Bool.{Bool, true, false, not}
use Prim.Native.Nat.{ℕ}
use lib.Dec.{ltb}
use lib.ListN.{length}
use lib.Seq.{take-append_seam}
use Rattle.level.specs.Lists.{All}
use Rattle.records.specs.declared.Refusal.TheVariants.{NotReady, SliceTooShort}
use Rattle.records.specs.Answers.{accepted, refusing, first_refusal}
use Rattle.profile.specs.Profile.{paper}
use Rattle.day.specs.declared.Day.{Day}
use Rattle.day.specs.Day.{found_in, day_with, is_closed}
use Rattle.day.specs.Step.{kind_of, body_of, step_by, step_of}
use Rattle.day.specs.ByKind.{answer_of}
use Rattle.level.proofs.Lists.{by_bool}
use Rattle.day.proofs.Answers.{never, is_accepted, accepted_same}
use Rattle.day.proofs.ByKind.{RecordPasses, passed}
use Rattle.listing.specs.Listing.{printed_day, list_answer, list_of, lent_after}
use Rattle.claims.specs.Calls.{Call, sends, asks, after_calls, let_in, wrote}
use Rattle.claims.proofs.Made.{Made, front, made_with}

-- ---- one call
module _ (d : Day) (s : List ℕ) (cs : List Call) where
  after_taken : accepted (answer_of d s) ≡ true → after_calls d (sends s ∷ cs) ≡ after_calls (day_with (found_in paper) d (kind_of s) (body_of s)) cs
  unfolding after_calls step_by
  after_taken e = simp e

  after_refused : accepted (answer_of d s) ≡ false → after_calls d (sends s ∷ cs) ≡ after_calls d cs
  unfolding after_calls step_by
  after_refused e = simp e

  let_taken : accepted (answer_of d s) ≡ true → let_in d (sends s ∷ cs) ≡ front s ∷ let_in (day_with (found_in paper) d (kind_of s) (body_of s)) cs
  unfolding let_in step_by
  let_taken e = simp e

  let_refused : accepted (answer_of d s) ≡ false → let_in d (sends s ∷ cs) ≡ let_in d cs
  unfolding let_in step_by
  let_refused e = simp (e, e)

  wrote_send : wrote d (sends s ∷ cs) ≡ wrote (step_of d s).day cs
  unfolding wrote
  wrote_send = refl

  after_send : after_calls d (sends s ∷ cs) ≡ after_calls (step_of d s).day cs
  unfolding after_calls
  after_send = refl

module _ (d : Day) (o : List ℕ) (cs : List Call) where
  after_ask : after_calls d (asks o ∷ cs) ≡ after_calls d cs
  unfolding after_calls
  after_ask = refl

  let_ask : let_in d (asks o ∷ cs) ≡ let_in d cs
  unfolding let_in
  let_ask = refl

  pub wrote_one : accepted (list_answer d o) ≡ true → wrote d (asks o ∷ cs) ≡ printed_day d ∷ wrote d cs
  unfolding wrote list_of lent_after
  wrote_one e = simp (is_accepted (list_answer d o) e, take-append_seam)

  wrote_none : accepted (list_answer d o) ≡ false → wrote d (asks o ∷ cs) ≡ wrote d cs
  unfolding wrote list_of lent_after
  wrote_none e = simp (accepted_same (length (printed_day d)) (list_answer d o), e)

  -- only a closed day is listed
  listed_closed : accepted (list_answer d o) ≡ true → is_closed d ≡ true
  unfolding list_answer
  listed_closed = go (is_closed d) (ltb (length o) (length (printed_day d)))
    where
      go : (c b : Bool) → accepted (first_refusal (refusing (not c) NotReady ∷ refusing b SliceTooShort ∷ [])) ≡ true → c ≡ true
      go true b e = refl
      go false b e = never e

-- ---- any calls
pub after_append : (cs more : List Call) (d : Day) → after_calls d (cs ++ more) ≡ after_calls (after_calls d cs) more
unfolding after_calls
after_append [] more d = refl
after_append (asks o ∷ cs) more d = after_append cs more d
after_append (sends s ∷ cs) more d = after_append cs more (step_of d s).day

pub made_after : (cs : List Call) (d : Day) (rs : List (List ℕ)) → Made d rs → Made (after_calls d cs) (rs ++ let_in d cs)
made_after [] d rs m = unfold after_calls let_in in rw append-nil m
made_after (asks o ∷ cs) d rs m = rw (after_ask d o cs, let_ask d o cs) (made_after cs d rs m)
made_after (sends s ∷ cs) d rs m =
    by_bool (accepted (answer_of d s))
    (λ e. let p : RecordPasses (found_in paper) d s = passed (found_in paper) d s (is_accepted (answer_of d s) e) in
    let t : Day = day_with (found_in paper) d (kind_of s) (body_of s) in
    rw (after_taken d s cs e, let_taken d s cs e) (rw (append_assoc rs (front s ∷ []) (let_in t cs)) at
    (made_after cs t (rs ++ (front s ∷ [])) (made_with d rs s m p))))
    (λ e. rw (after_refused d s cs e, let_refused d s cs e) (made_after cs d rs m))

-- a closed day stays as it is
pub stays : (cs : List Call) (d : Day) → is_closed d ≡ true → after_calls d cs ≡ d
stays [] d c = unfold after_calls in refl
stays (asks o ∷ cs) d c = after_ask d o cs ∙ stays cs d c
stays (sends s ∷ cs) d c =
    by_bool (accepted (answer_of d s))
    (λ e. never (sym (passed (found_in paper) d s (is_accepted (answer_of d s) e)).not_closed ∙ c)) (λ e. after_refused d s cs e ∙ stays cs d c)

-- each accepted listing is that of the day after all calls
pub wrote_are : (cs : List Call) (d : Day) → All (λ w. w ≡ printed_day (after_calls d cs)) (wrote d cs)
unfolding after_calls
wrote_are [] d = unfold wrote in tt
wrote_are (sends s ∷ cs) d = rw (wrote_send d s cs, after_send d s cs) (wrote_are cs (step_of d s).day)
wrote_are (asks o ∷ cs) d =
    by_bool (accepted (list_answer d o))
    (λ e. rw (wrote_one d o cs e, after_ask d o cs) (ap printed_day (sym (stays cs d (listed_closed d o cs e))), wrote_are cs d))
    (λ e. rw (wrote_none d o cs e, after_ask d o cs) (wrote_are cs d))
