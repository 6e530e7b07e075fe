-- Laws of the rest.
use Prim.Native.Nat.{ℕ, ◌-◌}
use native.Mathlib.Omega.{arith}
use mathlib.Core.Path.{◌≡◌}
use mathlib.Core.List.{List}
use lib.ListN.{length, drop, length-drop}
use borrow.Author.Tests.{le-leb}
use Rattle.profile.specs.Profile.{paper}
use Rattle.day.specs.declared.Day.{Day}
use Rattle.day.specs.Day.{found_in}
use Rattle.day.specs.Step.{step_of}
use Rattle.day.proofs.ByKind.{step_used}
use Rattle.day_take.specs.Rest.{rest_after, counted_by}

pub rest_is : (d : Day) (s : List ℕ) → rest_after (step_of d s) s ≡ drop (step_of d s).used s
rest_is d s = rw (le-leb _ _ (step_used (found_in paper) d s))

-- what is left tells what was used
pub counted_is : (d : Day) (s : List ℕ) → counted_by (step_of d s) (drop (step_of d s).used s) s ≡ step_of d s
counted_is d s =
    let r = step_of d s in
    let e : length s - length (drop r.used s) ≡ r.used = omega (arith, length-drop r.used s, step_used (found_in paper) d s) in
    λ i. record { answer = r.answer; day = r.day; used = e i }
