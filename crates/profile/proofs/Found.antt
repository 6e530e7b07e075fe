-- What close finds: its courses follow each other, and a quantity comes from two neighbouring sums.
use mathlib.Core.Path.{◌≡◌, refl, ap, ◌∙◌}
use mathlib.Core.List.{List}
use Prim.Native.Nat.{ℕ, zero, suc, ◌+◌, ◌*◌, ◌-◌, ◌≤◌, ◌<◌}
use native.Mathlib.Nat.{le_refl}
use native.Mathlib.Omega.{arith}
use lib.ListN.{length, get_or}
use Rattle.level.specs.Level.{grains}
use Rattle.level.specs.Lists.{All, sum, list_from}
use Rattle.level.specs.Numbers.{half_hour}
use Rattle.course.proofs.Sums.{sum_split}
use Rattle.records.specs.declared.UnitData.{UnitData}
use Rattle.validation.specs.Kept.{numbered, validated}
use Rattle.profile.specs.State.{by_rule}
use Rattle.profile.specs.declared.Taken.{Taken}
use Rattle.profile.specs.Bounds.{Low}
use Rattle.profile.specs.Taken.{entered, unit_or_zeros, start_or_zeros}
use Rattle.profile.specs.Effects.{start_course}
use Rattle.profile.specs.Profile.{Span, spans_of, level_starting, level_ending, recorded_twice, recorded_to, recorded_in, rounded, found_by, found, paper, Chain}
use Rattle.profile.proofs.Tiles.{day_tiles}
use Rattle.profile.proofs.Most.{Below, SpanBelow, courses_below, start_below, spans_below, quantity_below}

-- ---- lists of numbers
pub list_length : (f : ℕ → ℕ) (a n : ℕ) → length (list_from f a n) ≡ n
unfolding list_from
list_length f a zero = refl
list_length f a (suc n) = ap suc (list_length f (suc a) n)

pub list_at : (f : ℕ → ℕ) (a n i : ℕ) → i < n → get_or (list_from f a n) i 0 ≡ f (a + i)
unfolding list_from
list_at f a zero i h = absurd (omega arith)
list_at f a (suc n) zero h = ap f (omega arith)
list_at f a (suc n) (suc i) h = list_at f (suc a) n i (omega arith) ∙ ap f (omega arith)

-- ---- sums
pub sums_step : (ss : List Span) (i : ℕ) → recorded_to ss (suc i) - recorded_to ss i ≡ recorded_in ss i
unfolding recorded_to recorded_in recorded_twice
sums_step ss i =
    let f : ℕ → ℕ = λ t. level_starting ss t + level_ending ss t in
    omega (
      arith,
      ap (sum f 0) {x = half_hour * suc i} {y = half_hour * i + half_hour} (omega arith),
      sum_split f 0 (half_hour * i) half_hour,
      ap (λ (k : ℕ). sum f k half_hour) {x = 0 + half_hour * i} {y = half_hour * i} (omega arith),
    )

module _ (n : ℕ) (t : Taken) where
  -- the spans of the day's courses
  abbrev pub spans : List Span
  spans = spans_of (unit_or_zeros t) (half_hour * n) (found paper n t).courses

  pub found_tiles : Chain 0 spans (half_hour * n)
  unfolding found found_by
  found_tiles = day_tiles by_rule (half_hour * n) (unit_or_zeros t) (start_or_zeros t) (numbered 1 (entered t))

  pub found_sums : (found paper n t).sums ≡ list_from (recorded_to spans) 0 (suc n)
  unfolding found found_by
  found_sums = refl

  pub found_quantities : (found paper n t).quantities ≡ list_from (λ i. rounded (recorded_in spans i)) 0 n
  unfolding found found_by
  found_quantities = refl

  -- the quantity of a half-hour, from two neighbouring sums
  pub quantity_from_sums : (i : ℕ) → i < n →
      rounded (get_or (found paper n t).sums (suc i) 0 - get_or (found paper n t).sums i 0) ≡ rounded (recorded_in spans i)
  quantity_from_sums i h =
      let a : get_or (found paper n t).sums (suc i) 0 ≡ recorded_to spans (suc i) =
      ap (λ (l : List ℕ). get_or l (suc i) 0) found_sums
      ∙ (list_at (recorded_to spans) 0 (suc n) (suc i) (omega arith) ∙ ap (recorded_to spans) {x = 0 + suc i} {y = suc i} (omega arith)) in
      let b : get_or (found paper n t).sums i 0 ≡ recorded_to spans i =
      ap (λ (l : List ℕ). get_or l i 0) found_sums ∙ (list_at (recorded_to spans) 0 (suc n) i (omega arith)
      ∙ ap (recorded_to spans) {x = 0 + i} {y = i} (omega arith)) in
      rw (a, b, sums_step spans i)

  -- of a unit and a start that meet no refusal: no level exceeds the short-term maximum
  module _ (fits : (unit_or_zeros t).capacity ≤ (unit_or_zeros t).maximum) (low : Low (unit_or_zeros t) (start_or_zeros t)) where
    abbrev u : UnitData
    u = unit_or_zeros t

    pub found_below : All (Below (unit_or_zeros t).maximum) (found paper n t).courses
    unfolding found found_by
    found_below =
        courses_below u u.maximum fits (le_refl u.maximum) (start_course u (start_or_zeros t)) (validated (half_hour * n) (numbered 1 (entered t))).acts
        (start_below u u.maximum fits (le_refl u.maximum) (start_or_zeros t) low.level low.target low.ordered)

    pub levels_below : All (SpanBelow (grains (unit_or_zeros t).maximum)) spans
    levels_below = spans_below u (half_hour * n) u.maximum (found paper n t).courses found_below

    -- so no quantity does: refusal 27 is never met
    pub quantities_below : (i : ℕ) → rounded (recorded_in spans i) ≤ (unit_or_zeros t).maximum
    quantities_below i = quantity_below u.maximum spans levels_below i
