-- The working twin sees what the paper's rule sees: the level and the seconds off after k seconds of a course.
use mathlib.Core.Path.{◌≡◌, refl, ap, sym, ◌∙◌}
use mathlib.Core.Logic.{◌≢◌}
use mathlib.Core.List.{List, [], ◌∷◌}
use mathlib.Core.Bool.{Bool, true, false, ◌&&◌}
use Prim.Native.Nat.{ℕ, zero, suc, ◌+◌, ◌-◌, ◌≤◌}
use native.Mathlib.Nat.{mul-le-mul_right}
use native.Mathlib.Decide.{dec_le, ℕ_discrete}
use native.Mathlib.Omega.{arith}
use lib.Dec.{eqb}
use borrow.Author.Tests.{eq-eqb, ne_eqb}
use Rattle.course.specs.declared.Segment.{Segment}
use Rattle.course.specs.Pieces.{seconds}
use Rattle.course.specs.Recorded.{recorded, whole_way, Valid}
use Rattle.course.proofs.Segments.{seconds_some, seconds_low, seconds_high, recorded_mono, recorded_top}
use Rattle.level.specs.Choice.{pick}
use Rattle.course.specs.Course.{Trajectory, Moment, heading, gap, second, after, moment_at, level_at, segments, distance}
use Rattle.course.proofs.Whole.{level_segments, level_up, level_down, ways_within, segments_valid}
use Rattle.profile.specs.State.{held, watch_next, watch, by_rule}
use Rattle.profile.specs.Twin.{arrival, state_on, by_segments}

arrival_some : (l : Segment) (ls : List Segment) → Valid (l ∷ ls) → 1 ≤ arrival (l ∷ ls)
unfolding arrival
arrival_some l [] v = seconds_some l v.0.some_way v.0.some_rate
arrival_some l (m ∷ ls) v = omega (arith, seconds_some l v.0.some_way v.0.some_rate)

-- the whole way is come exactly from the arrival on
reached : (ls : List Segment) → Valid ls → (k : ℕ) → whole_way ls ≤ recorded ls k → arrival ls ≤ k
unfolding recorded whole_way arrival
reached [] v k h = omega arith
reached (l ∷ []) v k h = elim (dec_le (seconds l) k) [
  | yes y ↦ y
  | no y ↦ absurd (omega (arith, seconds_high l v.0.some_rate, mul-le-mul_right {m = suc k} {n = seconds l} l.rate (omega arith)))
]
reached (l ∷ (m ∷ ls)) v k h =
    let j : ℕ = k - (seconds l + l.hold) in
    let ih : arrival (m ∷ ls) ≤ j = reached (m ∷ ls) v.1 j (omega (arith, recorded_top (m ∷ ls) j)) in
    omega (arith, arrival_some m ls v.1)

back : (ls : List Segment) → Valid ls → (k : ℕ) → arrival ls ≤ k → whole_way ls ≤ recorded ls k
unfolding recorded whole_way arrival
back [] v k h = omega arith
back (l ∷ []) v k h = omega (arith, seconds_low l v.0.some_rate, mul-le-mul_right {m = seconds l} {n = k} l.rate h)
back (l ∷ (m ∷ ls)) v k h =
    omega (
      arith,
      seconds_low l v.0.some_rate,
      mul-le-mul_right {m = seconds l} {n = k} l.rate (omega arith),
      back (m ∷ ls) v.1 (k - (seconds l + l.hold)) (omega arith),
    )

module _ (c : Trajectory) (off : ℕ) where
  pub watch_moment : (k : ℕ) → (watch c off k).moment ≡ moment_at c k
  unfolding watch watch_next moment_at after
  watch_moment zero = refl
  watch_moment (suc k) = ap (second (heading c) c.lists c.target) (watch_moment k)

  pub watch_off : (k : ℕ) → (watch c off (suc k)).off ≡ pick (eqb (level_at c k) 0 && eqb (level_at c (suc k)) 0) (held (suc (watch c off k).off)) 0
  unfolding watch watch_next level_at moment_at after
  watch_off k =
      ap (λ (m : Moment). pick (eqb m.level 0 && eqb (second (heading c) c.lists c.target m).level 0) (held (suc (watch c off k).off)) 0)
      (watch_moment k)

  pub off_more : (k : ℕ) → level_at c k ≡ 0 → level_at c (suc k) ≡ 0 → (watch c off (suc k)).off ≡ held (suc (watch c off k).off)
  off_more k e f = watch_off k ∙ simp (eq-eqb _ _ e, eq-eqb _ _ f)

  pub off_none : (k : ℕ) → level_at c (suc k) ≢ 0 → (watch c off (suc k)).off ≡ 0
  off_none k f = watch_off k ∙ go (eqb (level_at c k) 0) (eqb (level_at c (suc k)) 0) (ne_eqb _ _ f)
    where
      go : (a b : Bool) → b ≡ false → pick (a && b) (held (suc (watch c off k).off)) 0 ≡ 0
      go true b e = rw e refl
      go false b e = refl

  pub off_new : (k : ℕ) → level_at c k ≢ 0 → (watch c off (suc k)).off ≡ 0
  off_new k f = watch_off k ∙ simp (ne_eqb _ _ f)

  -- what the twin says of a level v after k seconds
  abbrev twin : ℕ → ℕ → ℕ
  twin v k = pick (eqb v 0) (held (pick (eqb c.start 0) (off + k) (k - arrival (segments c)))) 0

  twin_none : (v k : ℕ) → v ≢ 0 → twin v k ≡ 0
  twin_none v k f = simp (ne_eqb v 0 f)

  twin_start : (v k : ℕ) → v ≡ 0 → c.start ≡ 0 → twin v k ≡ held (off + k)
  twin_start v k e s = simp (eq-eqb v 0 e, eq-eqb c.start 0 s)

  twin_fall : (v k : ℕ) → v ≡ 0 → c.start ≢ 0 → twin v k ≡ held (k - arrival (segments c))
  twin_fall v k e s = simp (eq-eqb v 0 e, ne_eqb c.start 0 s)

  stays : (k : ℕ) → c.start ≡ 0 → level_at c (suc k) ≡ 0 → level_at c k ≡ 0
  stays k s e = elim (dec_le (suc c.start) c.target) [
    | yes p ↦ omega (arith, level_up c p k, level_up c p (suc k), recorded_mono (segments c) k (suc k) (omega arith))
    | no p ↦ omega (arith, level_down c (omega arith) k)
  ]

  come : (k : ℕ) → c.start ≢ 0 → level_at c k ≡ 0 → arrival (segments c) ≤ k
  unfolding distance gap
  come k s e = elim (dec_le (suc c.start) c.target) [
    | yes p ↦ absurd (omega (arith, level_up c p k))
    | no p ↦ reached (segments c) (segments_valid c) k (omega (arith, level_down c (omega arith) k, ways_within c, recorded_top (segments c) k))
  ]

  already : (k : ℕ) → c.start ≢ 0 → level_at c (suc k) ≡ 0 → arrival (segments c) ≤ k → level_at c k ≡ 0
  already k s e h = elim (dec_le (suc c.start) c.target) [
    | yes p ↦ absurd (omega (arith, level_up c p (suc k)))
    | no p ↦ omega (
      arith,
      level_down c (omega arith) k,
      level_down c (omega arith) (suc k),
      recorded_top (segments c) (suc k),
      back (segments c) (segments_valid c) k h,
    )
  ]

  off_is : (k : ℕ) → (watch c off k).off ≡ twin (level_at c k) k
  unfolding watch level_at moment_at after held
  off_is zero = elim (ℕ_discrete c.start 0) [
    | yes s ↦ simp (eq-eqb c.start 0 s) (omega arith)
    | no s ↦ simp (ne_eqb c.start 0 s)
  ]
  off_is (suc k) = elim (ℕ_discrete (level_at c (suc k)) 0) [
    | no f ↦ off_none k f ∙ sym (twin_none (level_at c (suc k)) (suc k) f)
    | yes e ↦ elim (ℕ_discrete c.start 0) [
      | yes s ↦
          let z : level_at c k ≡ 0 = stays k s e in
          off_more k z e ∙ ap (λ (x : ℕ). held (suc x)) (off_is k ∙ twin_start (level_at c k) k z s) ∙ omega arith
          ∙ sym (twin_start (level_at c (suc k)) (suc k) e s)
      | no s ↦ elim (dec_le (arrival (segments c)) k) [
        | yes y ↦
            let z : level_at c k ≡ 0 = already k s e y in
            off_more k z e ∙ ap (λ (x : ℕ). held (suc x)) (off_is k ∙ twin_fall (level_at c k) k z s) ∙ omega arith
            ∙ sym (twin_fall (level_at c (suc k)) (suc k) e s)
        | no y ↦ off_new k (λ z. y (come k s z)) ∙ omega (arith, come (suc k) s e) ∙ sym (twin_fall (level_at c (suc k)) (suc k) e s)
      ]
    ]
  ]

  -- the level just before and the seconds off: by the paper's rule and by segments
  pub state_same : (k : ℕ) → by_rule c off k ≡ by_segments c off k
  unfolding by_rule by_segments state_on level_at
  state_same k =
      (λ i. record { level = (ap (λ (m : Moment). m.level) (watch_moment k)) i; off = (off_is k) i })
      ∙ ap (λ (v : ℕ). record { level = v; off = twin v k }) (level_segments c k)

  -- the level just before is the second-by-second level
  pub rule_level : (k : ℕ) → (by_rule c off k).level ≡ level_at c k
  unfolding by_rule level_at
  rule_level k = ap (λ (m : Moment). m.level) (watch_moment k)
