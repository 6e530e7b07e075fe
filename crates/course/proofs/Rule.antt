-- The rule of one second is the segment form.
use mathlib.Core.Path.{◌≡◌, refl, ap, sym, ◌∙◌}
use mathlib.Core.List.{List, [], ◌∷◌}
use Prim.Native.Nat.{ℕ, zero, suc, ◌+◌, ◌-◌, ◌/◌, min, ◌≤◌, ◌<◌}
use native.Mathlib.Nat.{le_trans, sub-zero, suc-sub-suc, zero-sub, div-eq-sub-div, div-eq_of_lt-le}
use native.Mathlib.Decide.{dec_le, ℕ_discrete}
use native.Mathlib.Omega.{arith}
use borrow.Author.Tests.{lt-ltb, eq-eqb, ne_eqb}
use Rattle.course.specs.declared.Segment.{Segment}
use Rattle.course.specs.Pieces.{seconds}
use Rattle.course.specs.Recorded.{recorded}
use Rattle.course.proofs.Segments.{recorded_zero}
use Rattle.course.specs.Lists.{Lists}
use Rattle.course.specs.declared.Heading.{Heading}
use Rattle.course.specs.declared.Heading.TheVariants.{Rising, Falling}
use Rattle.course.specs.Course.{Moment, toward, gap, rate_at, candidates, next_stop, hold_at, arrived, second, after, stops_from, segments_of}
use Rattle.course.specs.Headings.{Past, Short}
use Rattle.course.proofs.Near.{past_short, short_past, past_on, gap_some, gap_to, gap_left, toward_add, toward_zero, ahead, ahead_le}
use Rattle.course.proofs.Ahead.{rate_same, next_same, next_past, next_fewer}

abbrev pub at : ℕ → ℕ → Moment
at v n = record { level = v; left = n }

pub past_not : (h : Heading) (v t : ℕ) → Past h v t → v ≡ t → ⊥
past_not Rising v t p e = omega arith
past_not Falling v t p e = omega arith

least_left : (a b : ℕ) → a ≤ b → min a b ≡ a
least_left a b h = omega arith

least_right : (a b : ℕ) → b ≤ a → min a b ≡ b
least_right a b h = omega arith

-- a segment of which one second has been run: at full rate, or to its end
module _ (g r d : ℕ) (ls : List Segment) (k : ℕ) where
  segment_on : 1 ≤ r → r < g →
      recorded (record { way = g; rate = r; hold = d } ∷ ls) (suc k) ≡ r + recorded (record { way = g - r; rate = r; hold = d } ∷ ls) k
  unfolding recorded seconds
  segment_on p q =
      let a : ℕ = (g + (r - 1)) / r in
      let b : ℕ = (g - r + (r - 1)) / r in
      let e : a ≡ b + 1 = div-eq-sub-div {m = r} {n = g + (r - 1)} p (omega arith) ∙ ap (λ n. n / r + 1) (omega arith) in
      let f : suc k - (a + d) ≡ k - (b + d) = omega arith in
      omega (arith, ap (recorded ls) f)

  segment_last : 1 ≤ g → g ≤ r → recorded (record { way = g; rate = r; hold = d } ∷ ls) (suc k) ≡ g + recorded ls (k - d)
  unfolding recorded seconds
  segment_last p q =
      let a : ℕ = (g + (r - 1)) / r in
      let e : a ≡ 1 = div-eq_of_lt-le {k = 1} r {m = g + (r - 1)} (omega arith) (omega arith) in
      let f : suc k - (a + d) ≡ k - d = omega arith in
      omega (arith, ap (recorded ls) f)

module _ (h : Heading) (l : Lists) (t : ℕ) where
  second_hold : (v n : ℕ) → second h l t (at v (suc n)) ≡ at v n
  unfolding second
  second_hold v n = simp (lt-ltb 0 (suc n) (omega arith)) (ap (at v) (omega arith))

  second_rest : second h l t (at t 0) ≡ at t 0
  unfolding second
  second_rest = simp (eq-eqb t t refl)

  pub second_run : (v : ℕ) → Past h v t → rate_at h l v < gap v (next_stop h l t v) → second h l t (at v 0) ≡ at (toward h v (rate_at h l v)) 0
  unfolding second arrived
  second_run v p q =
      let n = next_past h l t v p in
      let g = gap_left v (next_stop h l t v) h (rate_at h l v) n.0 q in
      simp (
        ne_eqb v t (past_not h v t p),
        least_left (rate_at h l v) (gap v (next_stop h l t v)) (omega arith),
        ne_eqb (toward h v (rate_at h l v)) (next_stop h l t v) (past_not h _ _ g.0),
      )

  pub second_stop : (v : ℕ) → Past h v t → gap v (next_stop h l t v) ≤ rate_at h l v →
      second h l t (at v 0) ≡ at (next_stop h l t v) (hold_at h l t (next_stop h l t v))
  unfolding second arrived
  second_stop v p q =
      let n = next_past h l t v p in
      simp (
        ne_eqb v t (past_not h v t p),
        least_right (rate_at h l v) (gap v (next_stop h l t v)) q,
        gap_to v (next_stop h l t v) h n.0,
        eq-eqb (next_stop h l t v) (next_stop h l t v) refl,
      )

  after_suc : (k : ℕ) (m : Moment) → after h l t (suc k) m ≡ after h l t k (second h l t m)
  unfolding after
  after_suc zero m = refl
  after_suc (suc k) m = ap (second h l t) (after_suc k m)

  pub after_rest_lem : (k : ℕ) → after h l t k (at t 0) ≡ at t 0
  unfolding after
  after_rest_lem zero = refl
  after_rest_lem (suc k) = ap (second h l t) (after_rest_lem k) ∙ second_rest

  -- the segments from a level short of the target, and from the target
  pub segments_more : (n v : ℕ) → Past h v t → 1 ≤ rate_at h l v → segments_of h l t v (stops_from h l t (suc n) v) ≡
      record { way = gap v (next_stop h l t v); rate = rate_at h l v; hold = hold_at h l t (next_stop h l t v) } ∷
      segments_of h l t (next_stop h l t v) (stops_from h l t n (next_stop h l t v))
  unfolding segments_of stops_from
  segments_more n v p some = simp (ne_eqb v t (past_not h v t p), ne_eqb (rate_at h l v) 0 (λ z. omega arith))

  -- a rate of 0: no segment
  pub segments_stuck : (n v : ℕ) → Past h v t → rate_at h l v ≡ 0 → segments_of h l t v (stops_from h l t n v) ≡ []
  unfolding segments_of stops_from
  segments_stuck zero v p z = refl
  segments_stuck (suc n) v p z = simp (ne_eqb v t (past_not h v t p), eq-eqb (rate_at h l v) 0 z)

  pub segments_none : (n : ℕ) → segments_of h l t t (stops_from h l t n t) ≡ []
  unfolding segments_of stops_from
  segments_none zero = refl
  segments_none (suc n) = simp (eq-eqb t t refl)

  -- where the rule is after k seconds from v with d left of a hold: as far as the segments come in j, if at most n stops lie ahead
  abbrev Tied : ℕ → ℕ → ℕ → ℕ → ℕ → Type 0
  Tied k n v d j = (after h l t k (at v d)).level ≡ toward h v (recorded (segments_of h l t v (stops_from h l t n v)) j)

  first : (k n v d j : ℕ) (m : Moment) → second h l t (at v d) ≡ m →
      (after h l t k m).level ≡ toward h v (recorded (segments_of h l t v (stops_from h l t n v)) j) → Tied (suc k) n v d j
  first k n v d j m e f = ap (λ (m : Moment). m.level) (after_suc k (at v d) ∙ ap (after h l t k) e) ∙ f

  -- a second at full rate, short of the next stop
  runs : (k n v : ℕ) → 1 ≤ rate_at h l v → Past h v t → rate_at h l v < gap v (next_stop h l t v) →
      Tied k (suc n) (toward h v (rate_at h l v)) 0 k → Tied (suc k) (suc n) v 0 (suc k)
  runs k n v some p y ih =
      let w : ℕ = next_stop h l t v in
      let r : ℕ = rate_at h l v in
      let u : ℕ = toward h v r in
      let ls : List Segment = segments_of h l t w (stops_from h l t n w) in
      let x = next_past h l t v p in
      let on = gap_left v w h r x.0 y in
      let same : segments_of h l t u (stops_from h l t (suc n) u) ≡ record { way = gap v w - r; rate = r; hold = hold_at h l t w } ∷ ls =
      segments_more n u (past_on h u w t on.0 x.1) (omega (arith, rate_same h l t v u on.1 on.0))
      ∙ rw (next_same h l t v u on.1 on.0, rate_same h l t v u on.1 on.0, on.2) in
      first k (suc n) v 0 (suc k) (at u 0) (second_run v p y)
      (ih ∙ ap (λ (q : List Segment). toward h u (recorded q k)) same ∙ toward_add h v r _
      ∙ ap (toward h v) (sym (segment_on (gap v w) r (hold_at h l t w) ls k some y))
      ∙ ap (λ (q : List Segment). toward h v (recorded q (suc k))) (sym (segments_more n v p some)))

  -- the second that reaches the next stop
  reaches : (k n v : ℕ) → Past h v t → gap v (next_stop h l t v) ≤ rate_at h l v →
      Tied k n (next_stop h l t v) (hold_at h l t (next_stop h l t v)) (k - hold_at h l t (next_stop h l t v)) → Tied (suc k) (suc n) v 0 (suc k)
  reaches k n v p y ih =
      let w : ℕ = next_stop h l t v in
      let g : ℕ = gap v w in
      let ls : List Segment = segments_of h l t w (stops_from h l t n w) in
      let x = next_past h l t v p in
      let some : 1 ≤ rate_at h l v = omega (arith, gap_some v w h x.0) in
      first k (suc n) v 0 (suc k) (at w (hold_at h l t w)) (second_stop v p y)
      (ih ∙ ap (λ (q : ℕ). toward h q (recorded ls (k - hold_at h l t w))) (sym (gap_to v w h x.0)) ∙ toward_add h v g _
      ∙ ap (toward h v) (sym (segment_last g (rate_at h l v) (hold_at h l t w) ls k (gap_some v w h x.0) y))
      ∙ ap (λ (q : List Segment). toward h v (recorded q (suc k))) (sym (segments_more n v p some)))

  rests : (k n v j : ℕ) → v ≡ t → Tied k n v 0 j
  unfolding recorded
  rests k n v j e = rw (e, after_rest_lem k, segments_none n, toward_zero)

  -- with a rate of 0 nothing moves
  pub stuck : (k v : ℕ) → Past h v t → rate_at h l v ≡ 0 → after h l t k (at v 0) ≡ at v 0
  unfolding after
  stuck zero v p z = refl
  stuck (suc k) v p z =
      ap (second h l t) (stuck k v p z)
      ∙ (second_run v p (omega (arith, gap_some v (next_stop h l t v) h (next_past h l t v p).0))
      ∙ ap (λ (w : ℕ). at w 0) (ap (toward h v) z ∙ toward_zero h v))

  stays : (k n v j : ℕ) → Past h v t → rate_at h l v ≡ 0 → Tied k n v 0 j
  unfolding recorded
  stays k n v j p z = rw (stuck k v p z, segments_stuck n v p z, toward_zero)

  -- the second rule is the segment form, from any level and any hold
  pub rule : (k n v d : ℕ) → Short h t v → ahead h v (candidates h l t) ≤ n → Tied k n v d (k - d)
  unfolding after
  rule zero n v d p q =
      let ls : List Segment = segments_of h l t v (stops_from h l t n v) in
      sym (ap (λ (j : ℕ). toward h v (recorded ls j)) (zero-sub d) ∙ ap (toward h v) (recorded_zero ls) ∙ toward_zero h v)
  rule (suc k) n v (suc d) p q = first k n v (suc d) (suc k - suc d) (at v d) (second_hold v d) (rw suc-sub-suc (rule k n v d p q))
  rule (suc k) zero v zero p q = rw (sub-zero (suc k)) (elim (ℕ_discrete v t) [
    | yes e ↦ rests (suc k) 0 v (suc k) e
    | no e ↦ absurd (omega (arith, next_fewer h l t v (short_past h t v p e)))
  ])
  rule (suc k) (suc n) v zero p q = rw (sub-zero (suc k)) (elim (ℕ_discrete v t) [
    | yes e ↦ rests (suc k) (suc n) v (suc k) e
    | no e ↦
        let z : Past h v t = short_past h t v p e in
        let w : ℕ = next_stop h l t v in
        let u : ℕ = toward h v (rate_at h l v) in
        elim (dec_le (suc (rate_at h l v)) (gap v w)) [
          | yes y ↦ elim (ℕ_discrete (rate_at h l v) 0) [
            | yes no-rate ↦ stays (suc k) (suc n) v (suc k) z no-rate
            | no rate ↦
                let x = next_past h l t v z in
                let on = gap_left v w h (rate_at h l v) x.0 y in
                runs k n v (omega arith) z y
                (rw sub-zero at (rule k (suc n) u 0 (past_short h u t (past_on h u w t on.0 x.1))
                (le_trans (ahead_le h v u (candidates h l t) on.1) q)))
          ]
          | no y ↦ reaches k n v z (omega arith) (rule k n w (hold_at h l t w) (next_past h l t v z).1 (omega (arith, next_fewer h l t v z)))
        ]
  ])
