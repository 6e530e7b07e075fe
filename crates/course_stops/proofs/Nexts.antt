-- The nearest of several levels, one by one: what the code finds of a list of breaks or of triggers.
use Rattle.std.proofs.Common.{◌≡◌, ℕ, suc, min, max, ◌≤◌, ◌<◌, ltb, List, [], ◌∷◌, ◌++◌, map, fold, Bool, true, false, refl, ap, sym, ◌∙◌, le_refl, arith}
use native.Mathlib.Decide.{dec_le}
use Rattle.level.specs.Choice.{pick}
use Rattle.level.specs.Lists.{those}
use Rattle.level.specs.Level.{grains}
use Rattle.records.specs.declared.Trigger.{Trigger}
use Rattle.course.specs.declared.Heading.{Heading}
use Rattle.course.specs.declared.Heading.TheVariants.{Rising, Falling}
use Rattle.course.specs.Course.{nearest}
use Rattle.course.proofs.Near.{up_take, up_skip, down_take, down_skip}
use Rattle.course_rates.specs.Ways.{timed_levels}

pub near_none : (h : Heading) (v n : ℕ) → nearest h v n [] ≡ n
unfolding nearest
near_none Rising v n = refl
near_none Falling v n = refl

-- a single level
module _ (v n w : ℕ) where
  pub up_behind : w ≤ v → n ≡ nearest Rising v n (w ∷ [])
  up_behind p = omega (arith, up_skip v n w [] p, near_none Rising v n)

  pub up_near : v < w → w < n → w ≡ nearest Rising v n (w ∷ [])
  up_near p q = omega (arith, up_take v n w [] p, near_none Rising v n)

  pub up_far : v < w → n ≤ w → n ≡ nearest Rising v n (w ∷ [])
  up_far p q = omega (arith, up_take v n w [] p, near_none Rising v n)

  pub down_behind : v ≤ w → n ≡ nearest Falling v n (w ∷ [])
  down_behind p = omega (arith, down_skip v n w [] p, near_none Falling v n)

  pub down_near : w < v → n < w → w ≡ nearest Falling v n (w ∷ [])
  down_near p q = omega (arith, down_take v n w [] p, near_none Falling v n)

  pub down_far : w < v → w ≤ n → n ≡ nearest Falling v n (w ∷ [])
  down_far p q = omega (arith, down_take v n w [] p, near_none Falling v n)

-- ---- several, from the last to the first

pub near_append : (h : Heading) (v n : ℕ) (xs ys : List ℕ) → nearest h v n (xs ++ ys) ≡ nearest h v (nearest h v n ys) xs
unfolding nearest
near_append Rising v n [] ys = refl
near_append Rising v n (x ∷ xs) ys = ap (λ (k : ℕ). pick (ltb v x) (min x k) k) (near_append Rising v n xs ys)
near_append Falling v n [] ys = refl
near_append Falling v n (x ∷ xs) ys = ap (λ (k : ℕ). pick (ltb x v) (max x k) k) (near_append Falling v n xs ys)

-- to begin the search at the nearer of a and n is to look at a as well
up_min : (v a n : ℕ) (ws : List ℕ) → nearest Rising v (min a n) ws ≡ min a (nearest Rising v n ws)
up_min v a n [] = near_none Rising v (min a n) ∙ ap (min a) (sym (near_none Rising v n))
up_min v a n (w ∷ ws) = elim (dec_le (suc v) w) [
  | yes p ↦ omega (arith, up_take v (min a n) w ws p, up_take v n w ws p, up_min v a n ws)
  | no p ↦ omega (arith, up_skip v (min a n) w ws (omega arith), up_skip v n w ws (omega arith), up_min v a n ws)
]

down_max : (v a n : ℕ) (ws : List ℕ) → nearest Falling v (max a n) ws ≡ max a (nearest Falling v n ws)
down_max v a n [] = near_none Falling v (max a n) ∙ ap (max a) (sym (near_none Falling v n))
down_max v a n (w ∷ ws) = elim (dec_le (suc w) v) [
  | yes p ↦ omega (arith, down_take v (max a n) w ws p, down_take v n w ws p, down_max v a n ws)
  | no p ↦ omega (arith, down_skip v (max a n) w ws (omega arith), down_skip v n w ws (omega arith), down_max v a n ws)
]

pub up_one : (v n x : ℕ) → v < x → nearest Rising v n (x ∷ []) ≡ min x n
up_one v n x p = omega (arith, up_take v n x [] p, near_none Rising v n)

pub down_one : (v n x : ℕ) → x < v → nearest Falling v n (x ∷ []) ≡ max x n
down_one v n x p = omega (arith, down_take v n x [] p, near_none Falling v n)

-- the order does not matter: a level x after the others or before them
pub near_swap : (h : Heading) (v n x : ℕ) (ws : List ℕ) → nearest h v (nearest h v n ws) (x ∷ []) ≡ nearest h v (nearest h v n (x ∷ [])) ws
near_swap Rising v n x ws = elim (dec_le (suc v) x) [
  | yes p ↦ up_one v (nearest Rising v n ws) x p ∙ sym (up_min v x n ws) ∙ ap (λ (k : ℕ). nearest Rising v k ws) (sym (up_one v n x p))
  | no p ↦ sym (up_behind v (nearest Rising v n ws) x (omega arith)) ∙ ap (λ (k : ℕ). nearest Rising v k ws) (up_behind v n x (omega arith))
]
near_swap Falling v n x ws = elim (dec_le (suc x) v) [
  | yes p ↦ down_one v (nearest Falling v n ws) x p ∙ sym (down_max v x n ws) ∙ ap (λ (k : ℕ). nearest Falling v k ws) (sym (down_one v n x p))
  | no p ↦ sym (down_behind v (nearest Falling v n ws) x (omega arith)) ∙ ap (λ (k : ℕ). nearest Falling v k ws) (down_behind v n x (omega arith))
]

-- ---- several, one after another

module _ {A : Type 0} (level : A → ℕ) (h : Heading) (v : ℕ) where
  pub near_each : (n : ℕ) (xs : List A) → fold (λ m x. nearest h v m (level x ∷ [])) n xs ≡ nearest h v n (map level xs)
  near_each n [] = sym (near_none h v n)
  near_each n (x ∷ xs) =
      let w : ℕ = level x in
      near_each (nearest h v n (w ∷ [])) xs ∙ sym (near_swap h v n w (map level xs)) ∙ sym (near_append h v n (w ∷ []) (map level xs))

-- the breaks (kW) of a list
pub near_breaks : (h : Heading) (v n : ℕ) (bs : List ℕ) (r : ℕ) → r ≡ fold (λ (m b : ℕ). nearest h v m (grains b ∷ [])) n bs →
    r ≡ nearest h v n (map grains bs)
near_breaks h v n bs r e = e ∙ near_each grains h v n bs

-- v itself never counts
near_here : (h : Heading) (v n : ℕ) → nearest h v n (v ∷ []) ≡ n
near_here Rising v n = sym (up_behind v n v (le_refl v))
near_here Falling v n = sym (down_behind v n v (le_refl v))

-- the triggers (kW): of each its level where it has minutes, else v
module _ (h : Heading) (v n : ℕ) where
  abbrev pub timed : Trigger → ℕ
  timed g = pick (ltb 0 g.minutes) (grains g.level) v

  pub near_timed : (gs : List Trigger) → nearest h v n (map timed gs) ≡ nearest h v n (timed_levels gs)
  unfolding timed_levels those
  near_timed [] = refl
  near_timed (g ∷ gs) = go (ltb 0 g.minutes) (near_timed gs)
    where
      go : (b : Bool) → nearest h v n (map timed gs) ≡ nearest h v n (timed_levels gs) →
          nearest h v n (pick b (grains g.level) v ∷ map timed gs)
          ≡ nearest h v n (map (λ (g : Trigger). grains g.level) (pick b (g ∷ those (λ (g : Trigger). ltb 0 g.minutes) gs)
          (those (λ (g : Trigger). ltb 0 g.minutes) gs)))
      go true e = near_append h v n (grains g.level ∷ []) (map timed gs) ∙ ap (λ (k : ℕ). nearest h v k (grains g.level ∷ [])) e
          ∙ sym (near_append h v n (grains g.level ∷ []) (timed_levels gs))
      go false e = near_append h v n (v ∷ []) (map timed gs) ∙ near_here h v (nearest h v n (map timed gs)) ∙ e

  pub near_triggers : (gs : List Trigger) (r : ℕ) →
      r ≡ fold (λ m (g : Trigger). nearest h v m (pick (ltb 0 g.minutes) (grains g.level) v ∷ [])) n gs →
      r ≡ nearest h v n (timed_levels gs)
  near_triggers gs r e = e ∙ near_each timed h v n gs ∙ near_timed gs
