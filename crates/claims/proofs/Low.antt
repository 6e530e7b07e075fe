-- What the refusals see to: the figures of a unit that is let in, and an opening that keeps to its unit.
use mathlib.Core.Path.{◌≡◌, refl, ap}
use mathlib.Core.List.{List, [], ◌∷◌}
use mathlib.Core.Bool.{Bool, true, false, ◌&&◌, ◌||◌, not}
use Prim.Native.Nat.{ℕ, ◌≤◌}
use native.Mathlib.Omega.{arith}
use lib.Dec.{leb, ltb}
use borrow.Author.Tests.{leb-true, ltb-false}
use Rattle.level.specs.Level.{grains}
use Rattle.level.specs.Lists.{some}
use Rattle.level.proofs.Lists.{and_true, or_false}
use Rattle.records.specs.declared.Column.{Column}
use Rattle.records.specs.declared.UnitData.{UnitData}
use Rattle.records.specs.declared.Opening.{Opening}
use Rattle.std.specs.Prelude.{Ok}
use Rattle.records.specs.declared.Refusal.TheVariants.{UnitField, UnitDisagrees, OpeningField}
use Rattle.records.specs.Answers.{accepted, refusing, first_refusal}
use Rattle.records.specs.Records.{unit_of, opening_of}
use Rattle.records.specs.Fields.{fit_from, unit_ranges, column_ranges, ramp_ranges, a_maximum, falls, disagrees, unit_answer, opening_fits, opening_answer}
use Rattle.profile.specs.Bounds.{Low}
use Rattle.profile.specs.Taken.{start_of}
use Rattle.profile.proofs.Rates.{fits, fit_at}
use Rattle.day.specs.Step.{too_high}
use Rattle.day.proofs.Answers.{never}

-- ---- what the fields guarantee
module _ (ns : List ℕ) (a : unit_answer ns ≡ Ok tt) where
  agrees : disagrees (unit_of ns) ≡ false
  unfolding unit_answer
  agrees = go (fit_from unit_ranges ns 0) (disagrees (unit_of ns)) a
    where
      go : (x y : Bool) → first_refusal (refusing (not x) UnitField ∷ refusing y UnitDisagrees ∷ []) ≡ Ok tt → y ≡ false
      go true true e = never (ap accepted e)
      go true false e = refl
      go false y e = never (ap accepted e)

  pub capacity_low : (unit_of ns).capacity ≤ (unit_of ns).maximum
  unfolding disagrees
  capacity_low =
      let u : UnitData = unit_of ns in
      let e =
      (or_false (some (λ (c : Column). falls c.breaks) u.columns ||
      (falls u.up.breaks || (falls u.down.breaks || falls u.deload.breaks))) _ agrees).1 in
      ltb-false u.maximum u.capacity (or_false (ltb u.maximum u.capacity) _ e).0

  pub maximum_low : (unit_of ns).maximum ≤ 2000000
  unfolding unit_of unit_ranges column_ranges ramp_ranges a_maximum
  maximum_low = (fit_at unit_ranges ns 0 1 (fits ns a) (omega arith)).1

pub heat_low : (b : List ℕ) → opening_answer b ≡ Ok tt → (opening_of b).heat ≤ 3
unfolding opening_answer opening_fits
heat_low b a =
    let o : Opening = opening_of b in
    let fit = is (opening_fits o) a in
    let e = (and_true (leb o.target 2000000) _ (and_true (leb o.level 120000000) _ fit).1).1 in
    leb-true o.heat 3 (and_true (leb 1 o.heat) (leb o.heat 3)
    (and_true (leb 1 o.heat && leb o.heat 3) (leb o.off 10000000) e).0).1
  where
    is : (x : Bool) → refusing (not x) OpeningField ≡ Ok tt → x ≡ true
    is true e = refl
    is false e = never (ap accepted e)

pub level_low : (u : UnitData) (o : Opening) → too_high u o ≡ false → (o.level ≤ grains u.maximum) × (o.target ≤ u.maximum)
unfolding too_high
level_low u o e =
    let x = or_false (ltb (grains u.maximum) o.level) _ e in
    (ltb-false (grains u.maximum) o.level x.0, ltb-false u.maximum o.target (or_false (ltb u.maximum o.target) _ x.1).0)

-- what an opening starts that meets neither 5 nor 22
pub start_low : (u : UnitData) (b : List ℕ) → opening_answer b ≡ Ok tt → too_high u (opening_of b) ≡ false → Low u (start_of (opening_of b))
unfolding start_of
start_low u b a e = let l = level_low u (opening_of b) e in record { level = l.0; target = l.1; ordered = l.1; heat = heat_low b a }
