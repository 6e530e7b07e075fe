-- The course as a whole: the rule of one second is the segment form, there are at most 13 stops, and a second moves by at most the rate in force.
use mathlib.Core.Path.{◌≡◌, refl, ap, ◌∙◌}
use mathlib.Core.List.{List, [], ◌∷◌, map}
use mathlib.Core.Bool.{Bool, true, false}
use Prim.Native.Nat.{ℕ, zero, suc, ◌+◌, ◌-◌, min, ◌≤◌, ◌<◌}
use native.Mathlib.Nat.{le_refl, le_trans, sub-zero}
use native.Mathlib.Decide.{dec_le, ℕ_discrete}
use native.Mathlib.Omega.{arith}
use lib.Dec.{leb, ltb, eqb}
use lib.ListN.{length, get_or, length-append}
use borrow.Author.Tests.{lt-ltb, le-ltb, eq-eqb, ne_eqb}
use Rattle.course.specs.Recorded.{Valid, recorded, whole_way}
use Rattle.level.specs.Choice.{pick}
use Rattle.records.specs.declared.Trigger.{Trigger}
use Rattle.course.specs.Lists.{Rates, Lists}
use Rattle.course.specs.declared.Heading.{Heading}
use Rattle.course.specs.declared.Heading.TheVariants.{Rising, Falling}
use Rattle.course.specs.Course.{heading, Trajectory, Moment, counting, toward, gap, in_use, passed, breaks_in_use, triggers, rate_at, candidates, next_stop, hold_at, arrived, second, after, rate_in_force, stops_from, segments_of, moment_at, level_at, rate_on, stops, distance, segments}
use Rattle.course.specs.Headings.{Past, Short}
use Rattle.course.proofs.Near.{short_past, gap_some, gap_add, gap_toward, those_length, ahead}
use Rattle.course.proofs.Ahead.{next_past, next_fewer}
use Rattle.course.proofs.Rule.{segments_more, segments_stuck, segments_none, rule}

-- each rate that the breaks can number is there, and is at least 1
abbrev pub Runs : Rates → Type 0
Runs r = (n : ℕ) → n ≤ length r.breaks → 1 ≤ get_or r.rates n 0

pub record Driven (l : Lists) : Type 0 where
  pub column : Runs l.column
  pub up : Runs l.up
  pub down : Runs l.down
  pub deload : Runs l.deload

use_runs : (h : Heading) (l : Lists) (v : ℕ) → Driven l → Runs (in_use h l v)
unfolding in_use
use_runs Rising l v d = go (ltb v l.msg)
  where
    go : (b : Bool) → Runs (pick b l.column l.up)
    go true = d.column
    go false = d.up
use_runs Falling l v d = go (ltb l.msg v)
  where
    go : (b : Bool) → Runs (pick b l.down l.deload)
    go true = d.down
    go false = d.deload

passed_le : (h : Heading) (v : ℕ) (bs : List ℕ) → passed h v bs ≤ length bs
unfolding passed
passed_le Rising v bs = those_length _ bs
passed_le Falling v bs = those_length _ bs

pub rate_some : (h : Heading) (l : Lists) → Driven l → (v : ℕ) → 1 ≤ rate_at h l v
unfolding rate_at
rate_some h l d v = use_runs h l v d _ (passed_le h v _)

gap_self : (v : ℕ) → gap v v ≡ 0
unfolding gap
gap_self v = omega arith

-- a second moves the level by at most the rate in force where it began, which is 0 in a hold and at rest
pub second_moves : (h : Heading) (l : Lists) (t : ℕ) (m : Moment) → gap m.level (second h l t m).level ≤ rate_in_force h l t m
unfolding second rate_in_force arrived
second_moves h l t m = go (ltb 0 m.left) (eqb m.level t)
  where
    w : ℕ
    w = toward h m.level (min (rate_at h l m.level) (gap m.level (next_stop h l t m.level)))

    moved : gap m.level w ≤ rate_at h l m.level
    moved = omega (arith, gap_toward h m.level (min (rate_at h l m.level) (gap m.level (next_stop h l t m.level))))

    go : (a b : Bool) →
        gap m.level (pick a (record { level = m.level; left = m.left - 1 }) (pick b m (arrived h l t (next_stop h l t m.level) w))).level ≤
        pick a 0 (pick b 0 (rate_at h l m.level))
    go true b = omega (arith, gap_self m.level)
    go false true = omega (arith, gap_self m.level)
    go false false = moved

stops_length : (h : Heading) (l : Lists) (t n v : ℕ) → length (stops_from h l t n v) ≤ n
unfolding stops_from
stops_length h l t zero v = le_refl 0
stops_length h l t (suc n) v = go (eqb v t) (stops_length h l t n (next_stop h l t v))
  where
    go : (b : Bool) → length (stops_from h l t n (next_stop h l t v)) ≤ n →
        length (pick b [] (next_stop h l t v ∷ stops_from h l t n (next_stop h l t v))) ≤ suc n
    go true ih = omega arith
    go false ih = omega arith

pub record Shaped (l : Lists) : Type 0 where
  pub column : length l.column.breaks ≤ 2
  pub soaks : length l.soaks ≤ 2
  pub up : length l.up.breaks ≤ 4
  pub dwells : length l.dwells ≤ 3
  pub down : length l.down.breaks ≤ 4
  pub deload : length l.deload.breaks ≤ 1

pub counting_length : (f : ℕ → Bool) (gs : List Trigger) → length (counting f gs) ≤ length gs
unfolding counting
counting_length f gs = those_length _ gs

levels_length : (gs : List Trigger) → length (map (λ g. g.level) gs) ≡ length gs
levels_length [] = refl
levels_length (g ∷ gs) = ap suc (levels_length gs)

candidates_length : (h : Heading) (l : Lists) (t : ℕ) → Shaped l → length (candidates h l t) ≤ 13
unfolding candidates breaks_in_use triggers
candidates_length Rising l t s =
    simp (length-append, levels_length)
    (omega (
      arith,
      those_length (λ b. ltb b l.msg) l.column.breaks,
      those_length (λ b. leb l.msg b) l.up.breaks,
      counting_length (λ v. ltb v l.msg) l.soaks,
      counting_length (λ v. leb l.msg v) l.dwells,
    ))
candidates_length Falling l t s =
    simp (length-append, levels_length)
    (omega (
      arith,
      those_length (λ b. ltb l.msg b) l.down.breaks,
      those_length (λ b. leb b l.msg) l.deload.breaks,
      counting_length (λ v. leb l.msg v) l.dwells,
    ))

module _ (h : Heading) (l : Lists) (t : ℕ) where
  -- the ways add up to at most the way to the target
  pub ways_most : (n v : ℕ) → Short h t v → ahead h v (candidates h l t) ≤ n → whole_way (segments_of h l t v (stops_from h l t n v)) ≤ gap v t
  unfolding whole_way
  ways_most zero v p q = elim (ℕ_discrete v t) [
    | yes e ↦ rw (e, segments_none h l t 0) (omega arith)
    | no e ↦ absurd (omega (arith, next_fewer h l t v (short_past h t v p e)))
  ]
  ways_most (suc n) v p q = elim (ℕ_discrete v t) [
    | yes e ↦ rw (e, segments_none h l t (suc n)) (omega arith)
    | no e ↦
        let z : Past h v t = short_past h t v p e in
        let w : ℕ = next_stop h l t v in
        let x = next_past h l t v z in
        elim (ℕ_discrete (rate_at h l v) 0) [
          | yes r ↦ rw (segments_stuck h l t (suc n) v z r) (omega arith)
          | no r ↦ rw (segments_more h l t n v z (omega arith))
              (omega (arith, ways_most n w x.1 (omega (arith, next_fewer h l t v z)), gap_add v w h t x.0 x.1))
        ]
  ]

  pub valid : (n v : ℕ) → Short h t v → Valid (segments_of h l t v (stops_from h l t n v))
  unfolding segments_of stops_from
  valid zero v p = tt
  valid (suc n) v p = elim (ℕ_discrete v t) [
    | yes e ↦ rw (eq-eqb v t e) tt
    | no e ↦
        let z : Past h v t = short_past h t v p e in
        let x = next_past h l t v z in
        elim (ℕ_discrete (rate_at h l v) 0) [
          | yes r ↦ rw (segments_stuck h l t (suc n) v z r) tt
          | no r ↦ rw (segments_more h l t n v z (omega arith))
              (record { some_way = gap_some v (next_stop h l t v) h x.0; some_rate = omega arith }, valid n (next_stop h l t v) x.1)
        ]
  ]

  -- never more segments than stops
  pub segments_fewer : (v : ℕ) (ss : List ℕ) → length (segments_of h l t v ss) ≤ length ss
  unfolding segments_of
  segments_fewer v [] = le_refl 0
  segments_fewer v (s ∷ ss) = go (eqb (rate_at h l v) 0) (segments_fewer s ss)
    where
      go : (b : Bool) → length (segments_of h l t s ss) ≤ length ss →
          length (pick b [] (record { way = gap v s; rate = rate_at h l v; hold = hold_at h l t s } ∷ segments_of h l t s ss)) ≤ suc (length ss)
      go true ih = omega arith
      go false ih = omega arith

  -- where each rate is at least 1: all the way, and as many segments as stops
  module _ (some : (v : ℕ) → 1 ≤ rate_at h l v) where
    pub ways : (n v : ℕ) → Short h t v → ahead h v (candidates h l t) ≤ n → whole_way (segments_of h l t v (stops_from h l t n v)) ≡ gap v t
    unfolding whole_way
    ways zero v p q = elim (ℕ_discrete v t) [
      | yes e ↦ rw (e, segments_none h l t 0, gap_self)
      | no e ↦ absurd (omega (arith, next_fewer h l t v (short_past h t v p e)))
    ]
    ways (suc n) v p q = elim (ℕ_discrete v t) [
      | yes e ↦ rw (e, segments_none h l t (suc n), gap_self)
      | no e ↦
          let z : Past h v t = short_past h t v p e in
          let w : ℕ = next_stop h l t v in
          let x = next_past h l t v z in
          rw (segments_more h l t n v z (some v)) (omega
          (arith, ways n w x.1 (omega (arith, next_fewer h l t v z)), gap_add v w h t x.0 x.1))
    ]

    pub segments_length : (v : ℕ) (ss : List ℕ) → length (segments_of h l t v ss) ≡ length ss
    unfolding segments_of
    segments_length v [] = refl
    segments_length v (s ∷ ss) = simp (ne_eqb (rate_at h l v) 0 (λ z. omega (arith, some v))) (ap suc (segments_length s ss))

-- a course is short of its target as its heading says
pub short_start : (c : Trajectory) → Short (heading c) c.target c.start
unfolding heading
short_start c = elim (dec_le (suc c.start) c.target) [
  | yes p ↦ rw (lt-ltb c.start c.target p) (omega arith)
  | no p ↦ rw (le-ltb c.start c.target (omega arith)) (omega arith)
]

pub up_heading : (c : Trajectory) → c.start < c.target → heading c ≡ Rising
unfolding heading
up_heading c p = simp (lt-ltb c.start c.target p)

pub down_heading : (c : Trajectory) → c.target ≤ c.start → heading c ≡ Falling
unfolding heading
down_heading c p = simp (le-ltb c.start c.target p)

module _ (c : Trajectory) where
  pub enough : ahead (heading c) c.start (candidates (heading c) c.lists c.target) ≤ length (candidates (heading c) c.lists c.target)
  unfolding ahead
  enough = those_length _ (candidates (heading c) c.lists c.target)

  -- the second-by-second level is the start moved by the recorded progress of the segments
  pub level_segments : (k : ℕ) → level_at c k ≡ toward (heading c) c.start (recorded (segments c) k)
  unfolding level_at moment_at segments stops
  level_segments k = rw sub-zero at (rule (heading c) c.lists c.target k _ c.start 0 (short_start c) enough)

  pub level_up : c.start < c.target → (k : ℕ) → level_at c k ≡ c.start + recorded (segments c) k
  unfolding toward
  level_up p k = level_segments k ∙ ap (λ (h : Heading). toward h c.start (recorded (segments c) k)) (up_heading c p)

  pub level_down : c.target ≤ c.start → (k : ℕ) → level_at c k ≡ c.start - recorded (segments c) k
  unfolding toward
  level_down p k = level_segments k ∙ ap (λ (h : Heading). toward h c.start (recorded (segments c) k)) (down_heading c p)

  pub ways_within : whole_way (segments c) ≤ distance c
  unfolding segments stops distance
  ways_within = ways_most (heading c) c.lists c.target _ c.start (short_start c) enough

  pub segments_valid : Valid (segments c)
  unfolding segments stops
  segments_valid = valid (heading c) c.lists c.target _ c.start (short_start c)

  -- as many segments as stops, at most 13; their ways add up to the distance
  pub as_many : Driven c.lists → length (segments c) ≡ length (stops c)
  unfolding segments
  as_many d = segments_length (heading c) c.lists c.target (rate_some (heading c) c.lists d) c.start (stops c)

  pub ways_whole : Driven c.lists → whole_way (segments c) ≡ distance c
  unfolding segments stops distance
  ways_whole d = ways (heading c) c.lists c.target (rate_some (heading c) c.lists d) _ c.start (short_start c) enough

  pub at_most_thirteen_stops : Shaped c.lists → length (stops c) ≤ 13
  unfolding stops
  at_most_thirteen_stops s =
      le_trans (stops_length (heading c) c.lists c.target _ c.start) (candidates_length (heading c) c.lists c.target s)

  -- no second moves the level further than the rate in force where it began
  pub level_moves : (k : ℕ) → gap (level_at c k) (level_at c (suc k)) ≤ rate_on c k
  unfolding level_at rate_on moment_at after
  level_moves k = second_moves (heading c) c.lists c.target (moment_at c k)
