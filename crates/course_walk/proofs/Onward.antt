-- One straight piece after another: each is what the rule of one second does.
use Prim.Native.Nat.{ℕ, ◌+◌, ◌*◌, ◌-◌, ◌/◌, ◌^◌, min, ◌≤◌, ◌<◌}
use mathlib.Core.Path.{◌≡◌, subst}
use native.Mathlib.Decide.{dec_le, ℕ_discrete}
use native.Mathlib.Omega.{arith}
use native.Mathlib.Nat.{mul-le-mul_right, div-add-mod', div-lt_iff_lt-mul}
use borrow.Author.Tests.{lt-ltb, le-ltb, eq-eqb, ne_eqb}
use Rattle.course.specs.declared.Segment.{Segment}
use Rattle.course.specs.Lists.{Lists}
use Rattle.course.specs.declared.Heading.{Heading}
use Rattle.course.specs.declared.Heading.TheVariants.{Rising, Falling}
use Rattle.course.specs.Course.{toward, gap, rate_at, next_stop}
use Rattle.course.specs.Headings.{Past, Short}
use Rattle.course.proofs.Near.{gap_to, short_past}
use Rattle.course.proofs.Ahead.{next_past}
use Rattle.course_walk.specs.declared.Place.{Place}
use Rattle.course_stops.specs.Ahead.{segment_to, segment_from}
use Rattle.course_walk.specs.Walk.{Reaches, after_hold, after_rest, after_run, after_short, along, onward}

pub room_up : (h : Heading) (v m : ℕ) → h ≡ Rising → Reaches h v m → v + m < 2 ^ 64
room_up h v m e r = subst (λ (k : Heading). Reaches k v m) e r

pub room_down : (h : Heading) (v m : ℕ) → h ≡ Falling → Reaches h v m → m ≤ v
room_down h v m e r = subst (λ (k : Heading). Reaches k v m) e r

pub reaches_less : (h : Heading) (v m n : ℕ) → m ≤ n → Reaches h v n → Reaches h v m
reaches_less Rising v m n p r = omega arith
reaches_less Falling v m n p r = omega arith

-- whole seconds at full rate
pub full_way : (way rate f : ℕ) → f ≤ way / rate → f * rate ≤ way
full_way way rate f p = omega (arith, div-add-mod' way rate, mul-le-mul_right rate p)

pub full_some : (way rate : ℕ) → 1 ≤ rate → rate ≤ way → 1 ≤ way / rate
full_some way rate r le = elim (dec_le 1 (way / rate)) [
  | yes q ↦ q
  | no q ↦ let z : way < 1 * rate = (div-lt_iff_lt-mul r).0 (omega arith) in absurd (omega arith)
]

module _ (h : Heading) (n : ℕ) (p : Place) (s : Segment) where
  pub along_stuck : s.rate ≡ 0 → after_rest n p ≡ along h n p s
  unfolding along
  along_stuck e = simp (eq-eqb s.rate 0 e)

  pub along_short : (s.rate ≡ 0 → ⊥) → s.way < s.rate → after_short h p s ≡ along h n p s
  unfolding along
  along_short e q = simp (ne_eqb s.rate 0 e, lt-ltb s.way s.rate q)

  pub along_run : (s.rate ≡ 0 → ⊥) → s.rate ≤ s.way → after_run h (min (s.way / s.rate) (n - p.second)) p s ≡ along h n p s
  unfolding along
  along_run e q = simp (ne_eqb s.rate 0 e, le-ltb s.way s.rate q)

module _ (h : Heading) (l : Lists) (t n : ℕ) (p : Place) where
  pub onward_hold : 0 < p.left → after_hold n p ≡ onward h l t n p
  unfolding onward
  onward_hold e = simp (lt-ltb 0 p.left e)

  pub onward_rest : p.left ≤ 0 → p.level ≡ t → after_rest n p ≡ onward h l t n p
  unfolding onward
  onward_rest e q = simp (le-ltb 0 p.left e, eq-eqb p.level t q)

  pub onward_along : p.left ≤ 0 → (p.level ≡ t → ⊥) → along h n p (segment_from h l t p.level) ≡ onward h l t n p
  unfolding onward
  onward_along e q = simp (le-ltb 0 p.left e, ne_eqb p.level t q)

-- what holds in each case holds of the next place: a hold, at the target, a rate of 0, a way shorter than the rate, whole seconds of it
module _ (h : Heading) (l : Lists) (t n : ℕ) (p : Place) (sh : Short h t p.level) (P : Place → Type 0) where
  abbrev v : ℕ
  v = p.level

  abbrev rate : ℕ
  rate = rate_at h l v

  abbrev way : ℕ
  way = gap v (next_stop h l t v)

  abbrev ahead : Segment
  ahead = segment_from h l t v

  pub onward_cases : (0 < p.left → P (after_hold n p)) → (p.left ≤ 0 → v ≡ t → P (after_rest n p)) →
      (p.left ≤ 0 → Past h v t → rate ≡ 0 → P (after_rest n p)) →
      (p.left ≤ 0 → Past h v t → 1 ≤ rate → way < rate → P (after_short h p ahead)) →
      (p.left ≤ 0 → Past h v t → 1 ≤ rate → rate ≤ way → P (after_run h (min (way / rate) (n - p.second)) p ahead)) → P (onward h l t n p)
  unfolding segment_from segment_to
  onward_cases hold rest stuck short run = elim (dec_le 1 p.left) [
    | yes some ↦ subst P (onward_hold h l t n p some) (hold some)
    | no none ↦ elim (ℕ_discrete v t) [
      | yes e ↦ subst P (onward_rest h l t n p (omega arith) e) (rest (omega arith) e)
      | no e ↦
          let past = short_past h t v sh e in
          subst P (onward_along h l t n p (omega arith) e) (elim (ℕ_discrete rate 0) [
            | yes z ↦ subst P (along_stuck h n p ahead z) (stuck (omega arith) past z)
            | no z ↦ elim (dec_le rate way) [
              | yes le ↦ subst P (along_run h n p ahead z le) (run (omega arith) past (omega arith) le)
              | no le ↦ subst P (along_short h n p ahead z (omega arith)) (short (omega arith) past (omega arith) (omega arith))
            ]
          ])
    ]
  ]

-- there is room to the next stop
pub reaches_stop : (h : Heading) (l : Lists) (t v : ℕ) → Past h v t → t < 2 ^ 64 → Reaches h v (segment_from h l t v).way
unfolding segment_from segment_to gap
reaches_stop Rising l t v p m = let n = next_past Rising l t v p in omega arith
reaches_stop Falling l t v p m = let n = next_past Falling l t v p in omega arith

pub to_stop : (h : Heading) (l : Lists) (t v : ℕ) → Past h v t → toward h v (segment_from h l t v).way ≡ next_stop h l t v
unfolding segment_from segment_to
to_stop h l t v p = gap_to v (next_stop h l t v) h (next_past h l t v p).0
