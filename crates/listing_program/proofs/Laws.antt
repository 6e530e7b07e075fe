-- What is printed for an input, by the result of the C function for it; and bytes that follow one that is answered.
use Prim.Native.Nat.{ℕ, ◌≤◌, ◌<◌}
use mathlib.Core.Path.{◌≡◌, refl, ap, sym, ◌∙◌, subst}
use mathlib.Core.List.{List, ◌++◌}
use mathlib.Core.Bool.{Bool, true, false}
use native.Mathlib.Omega.{arith}
use lib.Dec.{leb, eqb}
use lib.ListN.{length, take, drop}
use lib.Seq.{take_at}
use borrow.Author.Tests.{lt-ltb, le-ltb, le-leb, lt-leb, leb-true, leb-false, eqb-false}
use Rattle.level.proofs.Lists.{by_bool}
use Rattle.std.specs.Prelude.{Result, Ok, Err}
use Rattle.records.specs.declared.Refusal.{Refusal}
use Rattle.records.specs.declared.Refusal.TheVariants.{SliceTooShort}
use Rattle.records.specs.Answers.{Answer, refusal_number, number_of}
use Rattle.profile.specs.Profile.{paper}
use Rattle.day.specs.declared.Day.{Day}
use Rattle.day.specs.Day.{found_in, is_closed}
use Rattle.lines.specs.Text.{laid}
use Rattle.lines.specs.Lines.{x_line}
use Rattle.lines.specs.Writing.{Written}
use Rattle.lines.proofs.Decimals.{laid_length, word_width}
use Rattle.lines.proofs.Widths.{x_length}
use Rattle.listing.specs.declared.Printed.{Printed}
use Rattle.listing.specs.Listing.{suffices, printed_day, list_answer, list_of, lent_after}
use Rattle.listing.specs.Program.{Ran, ran_by, printed_run, program, ends_early, fitting, print_of, print_lent}
use Rattle.listing.specs.Result.{list_ran, lent_ran, listed, listed_lent}
use Rattle.listing.proofs.Front.{ran_front}
use Rattle.claims.proofs.Exported.{run_fits}
use Rattle.listing_program.specs.Shown.{Shown}
use Rattle.listing_program.proofs.Records.{Own, ran_own}

-- ---- bytes that fit
module _ (xs o : List ℕ) where
  pub all_written : {q : List ℕ} {n : ℕ} → length xs ≤ length o → Written xs n o q → Written (fitting xs o) n o q
  unfolding fitting
  all_written h w = simp (le-leb (length xs) (length o) h) w

  pub none_written : length o < length xs → Written (fitting xs o) 0 o o
  unfolding fitting
  none_written h = simp (lt-leb (length xs) (length o) h) (record { count_is = refl; bytes = refl })

-- ---- what a result r says, with the slice q, of the bytes p that are printed, and of whether the input ends early
pub record Says (p o : List ℕ) (early : Bool) (r : Result ℕ Refusal) (q : List ℕ) : Type 0 where
  pub listed : (n : ℕ) → r ≡ Ok n → Written (fitting p o) n o q × (false ≡ early)
  pub long : r ≡ Err SliceTooShort → Written (fitting p o) 0 o q × (false ≡ early)
  pub refused : (x : Refusal) → r ≡ Err x → (x ≡ SliceTooShort → ⊥) → (x_line (refusal_number x) ≡ p) × (q ≡ o) × (eqb (refusal_number x) 2 ≡ early)

module _ {p o q : List ℕ} where
  says_listed : (n : ℕ) → n ≡ length p → length p ≤ length o → q ≡ laid p o → Says p o false (Ok n) q
  says_listed n e h f = record {
    listed = λ m z. let k : m ≡ n = cc in (all_written p o h (record { count_is = k ∙ e; bytes = f }), refl);
    long = λ z. cc;
    refused = λ x z y. cc;
  }

  says_long : length o < length p → q ≡ o → Says p o false (Err SliceTooShort) q
  says_long h f = record {
    listed = λ m z. cc;
    long = λ z. (subst (λ (x : List ℕ). Written (fitting p o) 0 o x) (sym f) (none_written p o h), refl);
    refused = λ x z y. absurd (y (let k : x ≡ SliceTooShort = cc in k));
  }

says_refused : {o q : List ℕ} (r : Refusal) → (refusal_number r ≡ 26 → ⊥) → q ≡ o → Says (x_line (refusal_number r)) o (eqb (refusal_number r) 2) (Err r) q
says_refused r other f = record {
  listed = λ m z. cc;
  long = λ z. absurd (other (let k : r ≡ SliceTooShort = cc in ap refusal_number k));
  refused = λ x z y. let k : x ≡ r = cc in (ap (λ (w : Refusal). x_line (refusal_number w)) k, f, ap (λ (w : Refusal). eqb (refusal_number w) 2) k);
}

-- asking a closed day for its listing
module _ (d : Day) (o : List ℕ) (closed : is_closed d ≡ true) where
  asked_long : length o < length (printed_day d) → (list_of d o ≡ Err SliceTooShort) × (lent_after d o ≡ o)
  unfolding list_of lent_after list_answer
  asked_long h = (simp (closed, lt-ltb (length o) (length (printed_day d)) h), simp (closed, lt-ltb (length o) (length (printed_day d)) h))

  asked_room : length (printed_day d) ≤ length o → (list_of d o ≡ Ok (length (printed_day d))) × (lent_after d o ≡ laid (printed_day d) o)
  unfolding list_of lent_after list_answer
  asked_room h = (simp (closed, le-ltb (length o) (length (printed_day d)) h), simp (closed, le-ltb (length o) (length (printed_day d)) h))

-- of a run with this answer and this day
says_run : (a : Answer) (d : Day) {o : List ℕ} → Own 0 a → (a ≡ Ok tt → is_closed d ≡ true) →
    Says (printed_run (record { answer = a; day = d })) o (eqb (number_of a) 2) (list_ran (record { answer = a; day = d }) o)
    (lent_ran (record { answer = a; day = d }) o)
unfolding printed_run
says_run (Err r) d own closed = says_refused r own.2 refl
says_run (Ok _) d {o} own closed =
    let c : is_closed d ≡ true = closed refl in
    by_bool (leb (length (printed_day d)) (length o))
    (λ b. let room = leb-true (length (printed_day d)) (length o) b in
    let h = asked_room d o c room in
    rw h.0 (says_listed (length (printed_day d)) refl room h.1))
    (λ b. let short = leb-false (length (printed_day d)) (length o) b in
    let h = asked_long d o c short in
    rw h.0 (says_long short h.1))

module _ (s o : List ℕ) where
  pub says : {q : List ℕ} {r : Result ℕ Refusal} → r ≡ listed s o → q ≡ listed_lent s o → Says (program s) o (ends_early s) r q
  unfolding program ends_early listed listed_lent
  says e f =
      let r : Ran = ran_by (found_in paper) s in
      rw (e, f) (says_run r.answer r.day (ran_own (found_in paper) s) (λ a. (run_fits s r refl a).0))

  -- what is written is what is printed
  pub prints : {q : List ℕ} {n : ℕ} {more : Bool} → Written (fitting (program s) o) n o q × (more ≡ ends_early s) →
      (record { count = n; more = more } ≡ print_of s o) × (q ≡ print_lent s o)
  unfolding print_of print_lent
  prints w = ((λ i. record { count = w.0.count_is i; more = w.1 i }), w.0.bytes)

  -- the line of a refusal is
  pub prints_line : {q end : List ℕ} {count : ℕ} (x : Refusal) {more : Bool} → Says (program s) o (ends_early s) (Err x) q → (x ≡ SliceTooShort → ⊥) →
      Written (fitting (x_line (refusal_number x)) q) count q end → more ≡ eqb (refusal_number x) 2 →
      (record { count = count; more = more } ≡ print_of s o) × (end ≡ print_lent s o)
  prints_line {end = end} {count = count} x a other w m =
      let f = a.refused x refl other in
      prints (
        subst (λ (p : List ℕ). Written (fitting p o) count o end) f.0
            (subst (λ (v : List ℕ). Written (fitting (x_line (refusal_number x)) v) count v end) f.1 w),
        m ∙ f.2,
      )

-- ---- where the slice has room for any listing, what is printed stands at its front
line_few : (n : ℕ) → n ≤ 27 → length (x_line n) ≤ suffices
line_few n h = omega (arith, x_length n, word_width n (omega arith))

run_few : (a : Answer) (d : Day) → Own 0 a → (a ≡ Ok tt → (is_closed d ≡ true) × (length (printed_day d) ≤ suffices)) →
    length (printed_run (record { answer = a; day = d })) ≤ suffices
unfolding printed_run
run_few (Err r) d own fits = line_few (refusal_number r) own.1
run_few (Ok _) d own fits = (fits refl).1

program_few : (s : List ℕ) → length (program s) ≤ suffices
unfolding program
program_few s = let r : Ran = ran_by (found_in paper) s in run_few r.answer r.day (ran_own (found_in paper) s) (run_fits s r refl)

all_fits : (s o : List ℕ) → suffices ≤ length o → fitting (program s) o ≡ program s
unfolding fitting
all_fits s o h = rw (le-leb (length (program s)) (length o) (omega (arith, program_few s)))

pub shown : (s o : List ℕ) (r : Printed) (q : List ℕ) → suffices ≤ length o → (r ≡ print_of s o) × (q ≡ print_lent s o) →
    Shown s r.count q × (r.more ≡ ends_early s)
unfolding print_of print_lent
shown s o r q h e =
    let p : List ℕ = program s in
    let fit : fitting p o ≡ p = all_fits s o h in
    let n : r.count ≡ length p = ap (λ (x : Printed). x.count) e.0 ∙ ap length fit in
    let at : q ≡ laid p o = e.1 ∙ ap (λ (x : List ℕ). laid x o) fit in (
      record {
        few = omega (arith, program_few s, ap length at, laid_length p o (omega (arith, program_few s)));
        bytes = ap (take r.count) at ∙ take_at p (drop (length p) o) r.count (sym n);
      },
      ap (λ (x : Printed). x.more) e.0,
    )

-- ---- where the input is answered, what is printed stays with any bytes after it
pub answered : (s t : List ℕ) → ends_early s ≡ false → program (s ++ t) ≡ program s
unfolding program ends_early
answered s t e =
    ap printed_run (ran_front (found_in paper) s t (λ f. eqb-false (number_of (ran_by (found_in paper) s).answer) 2 e (ap number_of f)))
