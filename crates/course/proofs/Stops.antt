-- The stops are the levels that the paper lists: those candidates that lie strictly past the start and up to the target, in order, each once.
use mathlib.Core.Path.{◌≡◌, refl, sym}
use mathlib.Core.Logic.{◌⊎◌, inl, inr}
use mathlib.Core.List.{List, [], ◌∷◌}
use Prim.Native.Nat.{ℕ, zero, suc, ◌≤◌}
use native.Mathlib.Decide.{dec_le, ℕ_discrete}
use native.Mathlib.Omega.{arith}
use borrow.Author.Tests.{eq-eqb, ne_eqb}
use Rattle.course.specs.Lists.{Lists}
use Rattle.course.specs.declared.Heading.{Heading}
use Rattle.course.specs.declared.Heading.TheVariants.{Rising, Falling}
use Rattle.course.specs.Course.{heading, Trajectory, nearest, candidates, next_stop, stops_from, stops}
use Rattle.course.specs.Headings.{Past, Short}
use Rattle.course.proofs.Near.{short_past, ahead, up_take, up_skip, down_take, down_skip}
use Rattle.course.proofs.Ahead.{next_past, next_fewer}
use Rattle.course.proofs.Whole.{short_start, enough}

abbrev pub Among : ℕ → List ℕ → Type 0
Among x [] = ⊥
Among x (w ∷ ws) = (x ≡ w) ⊎ Among x ws

-- each past the one before
abbrev pub Ordered : Heading → ℕ → List ℕ → Type 0
Ordered h v [] = Unit {0}
Ordered h v (w ∷ ws) = Past h v w × Ordered h w ws

later : (m t w : ℕ) (ws : List ℕ) → (m ≡ t) ⊎ Among m ws → (m ≡ t) ⊎ Among m (w ∷ ws)
later m t w ws (inl e) = inl e
later m t w ws (inr a) = inr (inr a)

near_among : (h : Heading) (v t : ℕ) (ws : List ℕ) (m : ℕ) → nearest h v t ws ≡ m → (m ≡ t) ⊎ Among m ws
unfolding nearest
near_among Rising v t [] m e = inl (sym e)
near_among Rising v t (w ∷ ws) m e = elim (ℕ_discrete m w) [
  | yes y ↦ inr (inl y)
  | no n ↦ later m t w ws (near_among Rising v t ws m (elim (dec_le (suc v) w) [
    | yes q ↦ let u = up_take v t w ws q in omega arith
    | no q ↦ omega (arith, up_skip v t w ws (omega arith))
  ]))
]
near_among Falling v t [] m e = inl (sym e)
near_among Falling v t (w ∷ ws) m e = elim (ℕ_discrete m w) [
  | yes y ↦ inr (inl y)
  | no n ↦ later m t w ws (near_among Falling v t ws m (elim (dec_le (suc w) v) [
    | yes q ↦ let u = down_take v t w ws q in omega arith
    | no q ↦ omega (arith, down_skip v t w ws (omega arith))
  ]))
]

near_first : (h : Heading) (v t : ℕ) (ws : List ℕ) (x : ℕ) → Among x ws → Past h v x → Short h x (nearest h v t ws)
unfolding nearest
near_first h v t [] x m p = absurd m
near_first Rising v t (w ∷ ws) x (inl e) p = omega (arith, up_take v t w ws (omega arith))
near_first Rising v t (w ∷ ws) x (inr m) p =
    let ih = near_first Rising v t ws x m p in
    elim (dec_le (suc v) w) [ yes q ↦ omega (arith, up_take v t w ws q) | no q ↦ omega (arith, up_skip v t w ws (omega arith)) ]
near_first Falling v t (w ∷ ws) x (inl e) p = omega (arith, down_take v t w ws (omega arith))
near_first Falling v t (w ∷ ws) x (inr m) p =
    let ih = near_first Falling v t ws x m p in
    elim (dec_le (suc w) v) [ yes q ↦ omega (arith, down_take v t w ws q) | no q ↦ omega (arith, down_skip v t w ws (omega arith)) ]

past_past : (h : Heading) (v w x : ℕ) → Past h v w → Past h w x → Past h v x
past_past Rising v w x p q = omega arith
past_past Falling v w x p q = omega arith

not_there : (h : Heading) (v t x : ℕ) → v ≡ t → Past h v x → Short h t x → ⊥
not_there Rising v t x e p q = omega arith
not_there Falling v t x e p q = omega arith

module _ (h : Heading) (l : Lists) (t : ℕ) where
  -- what the paper asks of a stop past v
  abbrev pub Stop : ℕ → ℕ → Type 0
  Stop v x = Among x (candidates h l t) × Past h v x × Short h t x

  next_stop_lem : (v : ℕ) → Past h v t → Stop v (next_stop h l t v)
  unfolding next_stop candidates
  next_stop_lem v p =
      let n = next_past h l t v p in
      (target (near_among h v t (candidates h l t) (next_stop h l t v) refl), n.0, n.1)
    where
      target : {m : ℕ} → (m ≡ t) ⊎ Among m (candidates h l t) → Among m (candidates h l t)
      target (inl e) = inl e
      target (inr a) = a

  first : (v x : ℕ) → Stop v x → Short h x (next_stop h l t v)
  unfolding next_stop
  first v x s = near_first h v t (candidates h l t) x s.0 s.1

  -- a stop of the rest is one
  further : (v x : ℕ) (ss : List ℕ) → Past h v t → (Among x ss → Stop (next_stop h l t v) x) → Among x (next_stop h l t v ∷ ss) → Stop v x
  further v x ss p ih (inl e) = rw e (next_stop_lem v p)
  further v x ss p ih (inr a) = let s = ih a in (s.0, past_past h v (next_stop h l t v) x (next_past h l t v p).0 s.1, s.2)

  from_ordered : (n v : ℕ) → Short h t v → Ordered h v (stops_from h l t n v)
  unfolding stops_from
  from_ordered zero v p = tt
  from_ordered (suc n) v p = elim (ℕ_discrete v t) [
    | yes e ↦ rw (eq-eqb v t e) tt
    | no e ↦
        let x = next_past h l t v (short_past h t v p e) in
        rw (ne_eqb v t e) (x.0, from_ordered n (next_stop h l t v) x.1)
  ]

  from_only : (n v x : ℕ) → Short h t v → Among x (stops_from h l t n v) → Stop v x
  unfolding stops_from
  from_only zero v x p a = absurd a
  from_only (suc n) v x p a = elim (ℕ_discrete v t) [
    | yes e ↦ absurd (rw (eq-eqb v t e) at a)
    | no e ↦
        let z : Past h v t = short_past h t v p e in
        further v x (stops_from h l t n (next_stop h l t v)) z (from_only n (next_stop h l t v) x (next_past h l t v z).1) (rw (ne_eqb v t e) at a)
  ]

  from_all : (n v x : ℕ) → Short h t v → ahead h v (candidates h l t) ≤ n → Stop v x → Among x (stops_from h l t n v)
  unfolding stops_from
  from_all zero v x p q s = elim (ℕ_discrete v t) [
    | yes e ↦ absurd (not_there h v t x e s.1 s.2)
    | no e ↦ absurd (omega (arith, next_fewer h l t v (short_past h t v p e)))
  ]
  from_all (suc n) v x p q s = elim (ℕ_discrete v t) [
    | yes e ↦ absurd (not_there h v t x e s.1 s.2)
    | no e ↦
        let z : Past h v t = short_past h t v p e in
        let w : ℕ = next_stop h l t v in
        rw (ne_eqb v t e) (elim (ℕ_discrete x w) [
          | yes y ↦ inl y
          | no y ↦ inr (from_all n w x (next_past h l t v z).1 (omega (arith, next_fewer h l t v z))
              (s.0, short_past h x w (first v x s) (λ i. y (sym i)), s.2))
        ])
  ]

module _ (c : Trajectory) where
  pub stops_ordered : Ordered (heading c) c.start (stops c)
  unfolding stops
  stops_ordered = from_ordered (heading c) c.lists c.target _ c.start (short_start c)

  pub stops_only : (x : ℕ) → Among x (stops c) → Stop (heading c) c.lists c.target c.start x
  unfolding stops
  stops_only x a = from_only (heading c) c.lists c.target _ c.start x (short_start c) a

  pub stops_all : (x : ℕ) → Stop (heading c) c.lists c.target c.start x → Among x (stops c)
  unfolding stops
  stops_all x s = from_all (heading c) c.lists c.target _ c.start x (short_start c) (enough c) s
