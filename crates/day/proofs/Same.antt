-- Taking a record by the paper's definitions is taking it by the working twin.
use mathlib.Core.Path.{◌≡◌, ap, fun_ext}
use mathlib.Core.List.{List}
use Prim.Native.Nat.{ℕ}
use Rattle.profile.specs.declared.Taken.{Taken}
use Rattle.profile.specs.Profile.{Found, paper}
use Rattle.profile.specs.Twin.{twin}
use Rattle.profile.proofs.Whole.{found_same}
use Rattle.day.specs.declared.Day.{Day}
use Rattle.day.specs.Day.{half_hours, found_in}
use Rattle.day.specs.Step.{step_by}

pub find_same : found_in paper ≡ found_in twin
unfolding found_in
find_same = fun_ext (λ t. found_same half_hours t)

pub step_same : (d : Day) (s : List ℕ) → step_by (found_in paper) d s ≡ step_by (found_in twin) d s
step_same d s = ap (λ (f : Taken → Found). step_by f d s) find_same
