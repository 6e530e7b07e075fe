-- What close finds, by the sums, is the definition's.
use mathlib.Core.Path.{◌≡◌, ap, ◌∙◌}
use native.Mathlib.Omega.{arith}
use mathlib.Core.Bool.{Bool, true, false}
use Rattle.std.specs.Prelude.{Ok, Err}
use Rattle.records.specs.declared.Refusal.TheVariants.{QuantityTooHigh}
use Rattle.records.specs.Answers.{refusing, answered}
use Rattle.profile.specs.declared.Taken.{Taken}
use Rattle.profile.specs.declared.Finding.{Finding}
use Rattle.profile.specs.Profile.{found, paper}
use Rattle.profile.specs.Finding.{arrays_of}
use Rattle.profile.specs.Taken.{unit_or_zeros}
use Rattle.day.specs.Day.{half_hours, found_in}
use Rattle.day.specs.Step.{quantity_too_high}
use Rattle.profile_quantity.specs.Summing.{some_above}
use Rattle.day_close.proofs.Whole.{too_high_is}
use Rattle.day_close.specs.Closed.{close_read}

module _ (t : Taken) (f : Finding) (e : f ≡ arrays_of (found paper half_hours t)) where
  -- a quantity too high, by the sums
  above : some_above (unit_or_zeros t).maximum f.sums half_hours ≡ quantity_too_high (unit_or_zeros t) (found_in paper t)
  unfolding found_in quantity_too_high
  above = ap (λ (x : Finding). some_above (unit_or_zeros t).maximum x.sums half_hours) e ∙ too_high_is t half_hours (omega arith)

  pub read_high : true ≡ some_above (unit_or_zeros t).maximum f.sums half_hours → Err QuantityTooHigh ≡ close_read t
  unfolding close_read
  read_high h = ap (λ (b : Bool). answered (refusing b QuantityTooHigh) (arrays_of (found_in paper t))) (h ∙ above)

  pub read_low : false ≡ some_above (unit_or_zeros t).maximum f.sums half_hours → Ok f ≡ close_read t
  unfolding close_read found_in
  read_low h = let q = h ∙ above in λ i. answered (refusing (q i) QuantityTooHigh) (e i)
