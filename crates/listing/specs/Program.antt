-- Believed: document 01, The printed day. "The listing program reads records .. up to close and prints this, or .. only the line X n".
use Rattle.std.specs.Prelude.{ℕ, zero, suc, List, [], Bool, true, false, leb, eqb, length, drop, Ok, Err}
use Rattle.level.specs.Choice.{pick}
use Rattle.records.specs.declared.Refusal.TheVariants.{TooFewBytes}
use Rattle.records.specs.Answers.{Answer, refusal_number, number_of}
use Rattle.profile.specs.declared.Taken.{Taken}
use Rattle.profile.specs.Profile.{Found, paper}
use Rattle.day.specs.declared.Day.{Day}
use Rattle.day.specs.declared.Stepped.{Stepped}
use Rattle.day.specs.Day.{empty, found_in, is_closed}
use Rattle.day.specs.Step.{step_by}
use Rattle.lines.specs.Lines.{x_line}
use Rattle.lines.specs.Text.{laid}
use Rattle.listing.specs.declared.Printed.{Printed}
use Rattle.listing.specs.Listing.{printed_day}

-- what taking records one after another comes to: the answer to the last one, and the day
pub record Ran : Type 0 where
  pub answer : Answer
  pub day : Day

-- records from a day on, up to close or the first refusal, n at most; where none is left, there are too few bytes
unfoldable pub run_by : (Taken → Found) → ℕ → Day → List ℕ → Ran
run_by find zero d s = record { answer = Err TooFewBytes; day = d }
run_by find (suc n) d s =
    let t : Stepped = step_by find d s in
    elim t.answer [
      | Err r ↦ record { answer = Err r; day = t.day }
      | Ok _ ↦ elim (is_closed t.day) [ true ↦ record { answer = Ok tt; day = t.day } | false ↦ run_by find n t.day (drop t.used s) ]
    ]

-- each record has at least one byte
unfoldable pub ran_by : (Taken → Found) → List ℕ → Ran
ran_by find s = run_by find (length s) empty s

unfoldable pub printed_run : Ran → List ℕ
printed_run r = elim r.answer [ Err x ↦ x_line (refusal_number x) | Ok _ ↦ printed_day r.day ]

-- what the program prints for the input s
unfoldable pub program : List ℕ → List ℕ
program s = printed_run (ran_by (found_in paper) s)

-- 2, too few bytes: only then can bytes after s change what is printed (`ran_front`)
unfoldable pub ends_early : List ℕ → Bool
ends_early s = eqb (number_of (ran_by (found_in paper) s).answer) 2

-- all of the bytes xs where a lent slice o has room for them, else none
unfoldable pub fitting : List ℕ → List ℕ → List ℕ
fitting xs o = pick (leb (length xs) (length o)) xs []

-- printing into a lent slice o: what it returns, and the slice after it, the bytes past what is printed being unchanged
unfoldable pub print_of : List ℕ → List ℕ → Printed
print_of s o = record { count = length (fitting (program s) o); more = ends_early s }

unfoldable pub print_lent : List ℕ → List ℕ → List ℕ
print_lent s o = laid (fitting (program s) o) o
