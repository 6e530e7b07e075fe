-- Working. What close finds, as a day stores it, or the refusal of what it finds.
use Rattle.std.specs.Prelude.{Result}
use Rattle.records.specs.declared.Refusal.{Refusal}
use Rattle.records.specs.declared.Refusal.TheVariants.{QuantityTooHigh}
use Rattle.records.specs.Answers.{refusing, answered}
use Rattle.profile.specs.declared.Taken.{Taken}
use Rattle.profile.specs.declared.Finding.{Finding}
use Rattle.profile.specs.Profile.{Found, paper}
use Rattle.profile.specs.Finding.{arrays_of}
use Rattle.profile.specs.Taken.{unit_or_zeros}
use Rattle.day.specs.Day.{found_in}
use Rattle.day.specs.Step.{quantity_too_high}

-- from what was taken: what is found, or 27
unfoldable pub close_read : Taken → Result Finding Refusal
close_read t =
    let f : Found = found_in paper t in
    answered (refusing (quantity_too_high (unit_or_zeros t) f) QuantityTooHigh) (arrays_of f)
