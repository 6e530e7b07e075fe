-- The list in use at a level, the breaks passed, and the rate.
use Rattle.std.proofs.Common.{◌≡◌, ℕ, zero, suc, ◌+◌, ◌≤◌, ◌<◌, List, [], ◌∷◌, map, length, get_or, Bool, true, false, cond, leb, ltb, eqb, count_by, refl, le-ltb, lt-ltb, eq-eqb, ne_eqb, arith}
use Rattle.std.specs.Prelude.{Ok, Err}
use Rattle.std.specs.Result.{result_unwrap_or}
use Rattle.std.proofs.lemmas.List.Recursion.{is_count_by}
use Rattle.level.specs.Choice.{pick}
use Rattle.level.specs.Lists.{those}
use Rattle.level.specs.Level.{grains}
use Rattle.records.specs.declared.Heat.TheVariants.{Hot, Warm, Cold}
use Rattle.records.specs.declared.Refusal.TheVariants.{OpeningField}
use Rattle.records.specs.Heats.{heat_of, heat_number}
use Rattle.course.specs.Lists.{place_of, rates_of, replaced}
use Rattle.course.specs.declared.Heading.{Heading}
use Rattle.course.specs.declared.Heading.TheVariants.{Rising, Falling}
use Rattle.course.specs.Course.{passed, in_use, rate_at}
use Rattle.course_rates.specs.declared.Route.{Route}
use Rattle.course_rates.specs.Ways.{has_passed, lists_by}

-- a number's heat, cold for one that no record can have, has the place of the number
pub place_by_heat : (n : ℕ) → place_of (heat_number (result_unwrap_or (heat_of n) Cold)) ≡ place_of n
unfolding place_of
place_by_heat n = go (eqb n 1) (eqb n 2) (eqb n 3)
  where
    go : (a b c : Bool) → place_of (heat_number (result_unwrap_or (pick a (Ok Hot) (pick b (Ok Warm) (pick c (Ok Cold) (Err OpeningField)))) Cold)) ≡
        pick a 0 (pick b 1 2)
    go true b c = refl
    go false true c = refl
    go false false true = refl
    go false false false = refl

-- the breaks that the level v has passed, counted one by one
module _ (h : Heading) (v : ℕ) where
  none : passed h v [] ≡ 0
  unfolding passed those
  none = go h
    where
      go : (h : Heading) → passed h v [] ≡ 0
      go Rising = refl
      go Falling = refl

  more : (b : ℕ) (bs : List ℕ) →
      passed h v (map grains (b ∷ bs)) ≡ cond (has_passed h v b) (1 + passed h v (map grains bs)) (passed h v (map grains bs))
  unfolding passed those
  more b bs = go h
    where
      count : (t : Bool) (w : ℕ) (ws : List ℕ) → length (pick t (w ∷ ws) ws) ≡ cond t (1 + length ws) (length ws)
      count true w ws = omega arith
      count false w ws = refl

      go : (h : Heading) → passed h v (map grains (b ∷ bs)) ≡ cond (has_passed h v b) (1 + passed h v (map grains bs)) (passed h v (map grains bs))
      go Rising = count (leb (grains b) v) (grains b) (those (λ w. leb w v) (map grains bs))
      go Falling = count (ltb (grains b) v) (grains b) (those (λ w. ltb w v) (map grains bs))

  pub counted : (bs : List ℕ) → passed h v (map grains bs) ≡ count_by (has_passed h v) bs
  counted bs = is_count_by (λ bs. passed h v (map grains bs)) (has_passed h v) none more bs

-- the rate at a place of five, where r replaces all unless it is 0
pub own_rate : (r n : ℕ) (rates : List ℕ) → r ≡ 0 → get_or rates n 0 ≡ get_or (replaced r rates) n 0
unfolding replaced
own_rate r n rates e = simp (eq-eqb r 0 e)

fifth : (r n : ℕ) → n ≤ 4 → r ≡ get_or (r ∷ r ∷ r ∷ r ∷ r ∷ []) n 0
fifth r zero p = refl
fifth r (suc zero) p = refl
fifth r (suc (suc zero)) p = refl
fifth r (suc (suc (suc zero))) p = refl
fifth r (suc (suc (suc (suc zero)))) p = refl
fifth r (suc (suc (suc (suc (suc n))))) p = absurd (omega arith)

pub given_rate : (r n : ℕ) (rates : List ℕ) → (r ≡ 0 → ⊥) → n ≤ 4 → r ≡ get_or (replaced r rates) n 0
unfolding replaced
given_rate r n rates e p = simp (ne_eqb r 0 e) (fifth r n p)

-- the list in use, by its heading and the side of MSG
module _ (r : Route) (v m : ℕ) (is : m ≡ grains r.msg) where
  abbrev count : List ℕ → ℕ
  count bs = passed r.heading v (map grains bs)

  pub rate_column : r.heading ≡ Rising → v < m → get_or r.column.rates (count r.column.breaks) 0 ≡ rate_at r.heading (lists_by r) v
  unfolding rate_at in_use lists_by rates_of
  rate_column e p = rw e (simp (lt-ltb v (grains r.msg) (omega arith)))

  pub rate_up : r.heading ≡ Rising → m ≤ v →
      get_or (replaced r.course.up r.ramp.rates) (count r.ramp.breaks) 0 ≡ rate_at r.heading (lists_by r) v
  unfolding rate_at in_use lists_by rates_of
  rate_up e p = rw e (simp (le-ltb v (grains r.msg) (omega arith)))

  pub rate_down : r.heading ≡ Falling → m < v →
      get_or (replaced r.course.down r.ramp.rates) (count r.ramp.breaks) 0 ≡ rate_at r.heading (lists_by r) v
  unfolding rate_at in_use lists_by rates_of
  rate_down e p = rw e (simp (lt-ltb (grains r.msg) v (omega arith)))

  pub rate_deload : r.heading ≡ Falling → v ≤ m → get_or r.deload.rates (count r.deload.breaks) 0 ≡ rate_at r.heading (lists_by r) v
  unfolding rate_at in_use lists_by rates_of
  rate_deload e p = rw e (simp (le-ltb (grains r.msg) v (omega arith)))
