-- A close of what was taken, or a kind that is none.
use mathlib.Core.Path.{◌≡◌, refl, sym, ap}
use Prim.Native.Nat.{ℕ}
use Rattle.std.specs.Prelude.{Err}
use Rattle.std.proofs.Common.{eq-eqb, ne_eqb}
use Rattle.records.specs.declared.Refusal.TheVariants.{UnknownKind}
use Rattle.profile.specs.Profile.{paper}
use Rattle.day.specs.declared.Day.{Day}
use Rattle.day.specs.declared.Stepped.{Stepped}
use Rattle.day.specs.Day.{found_in}
use Rattle.day_step.specs.Taking.{close_taken}
use Rattle.gristpebble.specs.Ended.{after_step, ended_by}

pub ended_none : (d : Day) (k : ℕ) → (k ≡ 4 → ⊥) → ended_by d k ≡ record { answer = Err UnknownKind; day = d }
unfolding ended_by
ended_none d k n = rw (ne_eqb k 4 n) refl

-- a close that comes to this
pub ended_close : (d : Day) (k : ℕ) → k ≡ 4 → (t : Stepped) → t ≡ close_taken (found_in paper) d → ended_by d k ≡ after_step t
unfolding ended_by
ended_close d k e t s = rw (eq-eqb k 4 e) (ap after_step (sym s))
