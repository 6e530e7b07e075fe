-- Believed: document 01, What the contracts say. What the library and the C function give: a count or a refusal, or one number; and the lent slice o
-- after it.
use Rattle.std.specs.Prelude.{ℕ, ◌*◌, List, Result, Ok, Err}
use Rattle.level.specs.Choice.{pick}
use Rattle.records.specs.declared.Refusal.{Refusal}
use Rattle.records.specs.Answers.{accepted, refusal_number, before}
use Rattle.profile.specs.Profile.{paper}
use Rattle.day.specs.Day.{found_in}
use Rattle.listing.specs.Listing.{list_of, lent_after}
use Rattle.listing.specs.Program.{Ran, ran_by}

-- of a run: its refusal, and the lent slice as it was; else the listing of its day
abbrev pub list_ran : Ran → List ℕ → Result ℕ Refusal
list_ran r o = before r.answer (list_of r.day o)

abbrev pub lent_ran : Ran → List ℕ → List ℕ
lent_ran r o = pick (accepted r.answer) (lent_after r.day o) o

-- records up to close, then the listing into the lent slice o
unfoldable pub listed : List ℕ → List ℕ → Result ℕ Refusal
listed s o = list_ran (ran_by (found_in paper) s) o

unfoldable pub listed_lent : List ℕ → List ℕ → List ℕ
listed_lent s o = lent_ran (ran_by (found_in paper) s) o

-- in one number: the count of bytes written, or the refusal's number times 2^32
abbrev pub in_one : Result ℕ Refusal → ℕ
in_one (Ok n) = n
in_one (Err r) = refusal_number r * 4294967296

unfoldable pub listed_result : List ℕ → List ℕ → ℕ
listed_result s o = in_one (listed s o)
