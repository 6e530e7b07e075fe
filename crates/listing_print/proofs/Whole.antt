-- A whole listing from its parts, and asking for it.
use Prim.Native.Nat.{ℕ, ◌+◌, ◌≤◌, ◌<◌}
use mathlib.Core.Path.{◌≡◌, refl, ap, sym, ◌∙◌, subst}
use mathlib.Core.List.{List, [], ◌++◌}
use native.Mathlib.Omega.{arith}
use borrow.Author.Tests.{lt-ltb, le-ltb}
use lib.ListN.{length, take, length-append}
use Rattle.std.specs.Prelude.{Option, None, Some, Ok, Err, option_copied}
use Rattle.std.specs.Borrow.{Bor}
use Rattle.std.specs.Option.{unwrap_or}
use Rattle.records.specs.declared.Refusal.TheVariants.{NotReady, SliceTooShort}
use Rattle.day.specs.declared.Day.{Day}
use Rattle.profile.specs.declared.Closing.{Closing}
use Rattle.profile.specs.declared.Finding.{Finding}
use Rattle.profile.specs.declared.Taken.{Taken}
use Rattle.profile.specs.Finding.{no_finding}
use Rattle.records.specs.declared.UnitData.{UnitData}
use Rattle.profile.specs.Taken.{unit_or_zeros}
use Rattle.day.specs.Day.{day_seconds, fates_in, courses_in, quantities_in, closing_in, finding_in}
use Rattle.lines.specs.Text.{laid}
use Rattle.lines.specs.Writing.{SinkLaws}
use Rattle.lines.proofs.Laying.{Next, next_append, next_last, next_length}
use Rattle.lines.proofs.Sinks.{Putting, put_none, put_next, put_more, put_all}
use Rattle.listing.specs.Listing.{listing, printed_day, list_answer, list_of, lent_after}
use Rattle.listing_print.specs.Parts.{lines_f, lines_s, lines_q, line_e, most_f, most_s, most_q, most_e, most_bytes, with_finding}
use Rattle.listing_parts.specs.Rest.{courses_lines, closing_line}

-- ---- the parts of a day's listing

-- what is left after the S, and after the F lines
abbrev pub from_q : Day → List ℕ
from_q d = lines_q d ++ line_e d

abbrev pub from_s : Day → List ℕ
from_s d = lines_s d ++ from_q d

module _ (d : Day) where
  pub in_parts : Next (printed_day d) (lines_f d) (from_s d)
  unfolding printed_day listing courses_lines closing_line fates_in courses_in quantities_in
  in_parts = record { parts = refl }

  -- their widths add up
  pub day_length : length (printed_day d) ≡ length (lines_f d) + length (lines_s d) + length (lines_q d) + length (line_e d)
  day_length = omega (arith, next_length in_parts, length-append (lines_s d) (from_q d), length-append (lines_q d) (line_e d))

-- ---- each part put after the parts before it, into a sink that was s and has room for all
module _ {S : Type 0} {has_room : S → List ℕ → ℕ → Type 0} {takes : S → List ℕ → ℕ → S → Type 0} (laws : SinkLaws has_room takes)
    (d : Day) {s : S} (room : has_room s (printed_day d) most_bytes) where
  -- what is left is to come, at most so many bytes
  abbrev Left : List ℕ → ℕ → S → Type 0
  Left rest most t = Putting has_room takes s (printed_day d) rest most_bytes most t

  before : Left (printed_day d) most_bytes s
  before = put_none laws (omega arith) room

  pub room_f : has_room s (lines_f d) most_f
  room_f = put_next laws (in_parts d) before (omega arith)

  after_f : {t : S} → takes s (lines_f d) most_f t → Left (from_s d) (most_s + (most_q + most_e)) t
  after_f f = put_more laws (in_parts d) before (omega arith) f

  -- of the unit that is read
  pub room_s : {t : S} {u : UnitData} → u ≡ unit_or_zeros d.taken → takes s (lines_f d) most_f t →
      has_room t (courses_lines u day_seconds (take (finding_in d).started (finding_in d).courses)) most_s
  room_s is f = rw is (put_next laws next_append (after_f f) (omega arith))

  after_s : {t u : S} → takes s (lines_f d) most_f t → takes t (lines_s d) most_s u → Left (from_q d) (most_q + most_e) u
  after_s f x = put_more laws next_append (after_f f) (omega arith) x

  pub room_q : {t u : S} → takes s (lines_f d) most_f t → takes t (lines_s d) most_s u → has_room u (lines_q d) most_q
  room_q f x = put_next laws next_append (after_s f x) (omega arith)

  after_q : {t u v : S} → takes s (lines_f d) most_f t → takes t (lines_s d) most_s u → takes u (lines_q d) most_q v → Left (line_e d) most_e v
  after_q f x q = put_more laws next_append (after_s f x) (omega arith) q

  -- the closing state that is printed
  module _ {t u v : S} {e : Closing} (is : e ≡ closing_in d) (f : takes s (lines_f d) most_f t) (x : takes t (lines_s d) most_s u)
      (q : takes u (lines_q d) most_q v) where
    last : Next (line_e d) (closing_line e) []
    last = rw is (next_last (line_e d))

    pub room_e : has_room v (closing_line e) most_e
    room_e = put_next laws last (after_q f x q) (omega arith)

    pub put_day : {w : S} → takes v (closing_line e) most_e w → takes s (printed_day d) most_bytes w
    put_day y = put_all laws refl (put_more laws {k = 0} last (after_q f x q) (omega arith) y)

-- ---- what close found, by reference
module _ (d : Day) where
  pub same_day : printed_day (with_finding d.taken (finding_in d)) ≡ printed_day d
  unfolding printed_day fates_in courses_in quantities_in
  same_day = refl

  -- that of the day, or none
  pub found_is : (o : Option (Bor Finding)) (none : Bor Finding) → option_copied o ≡ d.found → none.now ≡ no_finding →
      (unwrap_or o none).now ≡ finding_in d
  found_is (Some f) none e z = ap (λ (x : Option Finding). unwrap_or x no_finding) e
  found_is None none e z = z ∙ ap (λ (x : Option Finding). unwrap_or x no_finding) e

-- ---- asking for it
module _ (d : Day) (o : List ℕ) where
  pub ask_open : d.found ≡ None → (Err NotReady ≡ list_of d o) × (o ≡ lent_after d o)
  unfolding list_of lent_after list_answer
  ask_open e = (simp e, simp e)

-- that of a day that is closed, with what close found
module _ (t : Taken) (f : Finding) (o : List ℕ) where
  abbrev printed : List ℕ
  printed = printed_day (with_finding t f)

  short : length o < length printed → (Err SliceTooShort ≡ list_of (with_finding t f) o) × (o ≡ lent_after (with_finding t f) o)
  unfolding list_of lent_after list_answer
  short h = (simp (lt-ltb (length o) (length printed) h), simp (lt-ltb (length o) (length printed) h))

  room : length printed ≤ length o → (Ok (length printed) ≡ list_of (with_finding t f) o) × (laid printed o ≡ lent_after (with_finding t f) o)
  unfolding list_of lent_after list_answer
  room h = (simp (le-ltb (length o) (length printed) h), simp (le-ltb (length o) (length printed) h))

module _ (d : Day) (o : List ℕ) {f : Finding} (e : d.found ≡ Some f) where
  same : with_finding d.taken f ≡ d
  same = λ i. record { taken = d.taken; found = sym e i }

  pub printed_is : printed_day (with_finding d.taken f) ≡ printed_day d
  printed_is = ap printed_day same

  pub ask_short : length o < length (printed_day (with_finding d.taken f)) → (Err SliceTooShort ≡ list_of d o) × (o ≡ lent_after d o)
  ask_short h = subst (λ (x : Day). (Err SliceTooShort ≡ list_of x o) × (o ≡ lent_after x o)) same (short d.taken f o h)

  pub ask_room : length (printed_day (with_finding d.taken f)) ≤ length o →
      (Ok (length (printed_day (with_finding d.taken f))) ≡ list_of d o) × (laid (printed_day (with_finding d.taken f)) o ≡ lent_after d o)
  ask_room h =
      let p : List ℕ = printed_day (with_finding d.taken f) in
      subst (λ (x : Day). (Ok (length p) ≡ list_of x o) × (laid p o ≡ lent_after x o)) same (room d.taken f o h)
