-- What a piece leaves of a segment is the segment that lies ahead.
use Prim.Native.Nat.{ℕ, ◌*◌, ◌-◌, ◌/◌, min, ◌≤◌, ◌<◌}
use mathlib.Core.Path.{◌≡◌, refl, sym, subst}
use mathlib.Core.Bool.{true, false, ◌||◌}
use native.Mathlib.Decide.{dec_le, ℕ_discrete}
use native.Mathlib.Omega.{arith}
use lib.Dec.{ltb, eqb}
use borrow.Author.Tests.{lt-ltb, le-ltb, eq-eqb, ne_eqb}
use Rattle.std.specs.Prelude.{Option, Some, None}
use Rattle.course.specs.declared.Segment.{Segment}
use Rattle.course.specs.Lists.{Lists}
use Rattle.course.specs.declared.Heading.{Heading}
use Rattle.course.specs.Course.{toward, gap, rate_at, next_stop}
use Rattle.course.specs.Headings.{Past, Short}
use Rattle.course.proofs.Near.{short_past, past_on, gap_left}
use Rattle.course.proofs.Ahead.{rate_same, next_same, next_past}
use Rattle.course_walk.specs.declared.Place.{Place}
use Rattle.course_stops.specs.Ahead.{segment_to, segment_from}
use Rattle.course_walk.specs.Walk.{Known, unknown, reached_at, after_run, along, rest_run, rest_along}
use Rattle.course_walk.proofs.Onward.{along_run, full_way}

-- where a course is reached: no segment is known, or the one that lies ahead
module _ (h : Heading) (l : Lists) (t : ℕ) (p : Place) where
  pub reached_none : (ltb 0 p.left || eqb p.level t) ≡ true → unknown p ≡ reached_at h l t p
  unfolding reached_at
  reached_none e = simp e

  pub reached_found : (ltb 0 p.left || eqb p.level t) ≡ false → (record { place = p; rest = Some (segment_from h l t p.level) }) ≡ reached_at h l t p
  unfolding reached_at
  reached_found e = simp e

  pub known_at : Short h t p.level → Known h l t (reached_at h l t p)
  known_at sh = elim (dec_le 1 p.left) [
    | yes some ↦ subst (Known h l t) (reached_none (simp (lt-ltb 0 p.left some))) tt
    | no hold ↦ elim (ℕ_discrete p.level t) [
      | yes e ↦ subst (Known h l t) (reached_none (simp (le-ltb 0 p.left (omega arith), eq-eqb p.level t e))) tt
      | no e ↦ subst (Known h l t) (reached_found (simp (le-ltb 0 p.left (omega arith), ne_eqb p.level t e)))
          (record { no_hold = omega arith; past = short_past h t p.level sh e; is = refl })
    ]
  ]

-- case by case
module _ (n : ℕ) (p : Place) (s : Segment) where
  pub rest_stuck : s.rate ≡ 0 → None ≡ rest_along n p s
  unfolding rest_along
  rest_stuck e = simp (eq-eqb s.rate 0 e)

  pub rest_short : (s.rate ≡ 0 → ⊥) → s.way < s.rate → None ≡ rest_along n p s
  unfolding rest_along
  rest_short e q = simp (ne_eqb s.rate 0 e, lt-ltb s.way s.rate q)

  pub rest_run_lem : (s.rate ≡ 0 → ⊥) → s.rate ≤ s.way → rest_run (min (s.way / s.rate) (n - p.second)) s ≡ rest_along n p s
  unfolding rest_along
  rest_run_lem e q = simp (ne_eqb s.rate 0 e, le-ltb s.way s.rate q)

module _ (h : Heading) (l : Lists) (t n : ℕ) (p : Place) (ahead : Past h p.level t) where
  abbrev v : ℕ
  v = p.level

  abbrev rate : ℕ
  rate = rate_at h l v

  abbrev stop : ℕ
  stop = next_stop h l t v

  abbrev segment : Segment
  segment = segment_from h l t v

  run_known : (f : ℕ) → f * segment.rate ≤ segment.way → Known h l t (record { place = after_run h f p segment; rest = rest_run f segment })
  unfolding after_run rest_run segment_from segment_to
  run_known f le = elim (ℕ_discrete (f * rate) (gap v stop)) [
    | yes e ↦ rw (eq-eqb (f * rate) (gap v stop) e) tt
    | no ne ↦
        let q : f * rate < gap v stop = omega arith in
        let x : ℕ = toward h v (f * rate) in
        let m = next_past h l t v ahead in
        let on = gap_left v stop h (f * rate) m.0 q in
        let same : next_stop h l t x ≡ stop = next_same h l t v x on.1 on.0 in
        let even : rate_at h l x ≡ rate = rate_same h l t v x on.1 on.0 in
        rw (ne_eqb (f * rate) (gap v stop) ne)
        (record { no_hold = refl; past = past_on h x stop t on.0 m.1; is = sym (rw (same, even, on.2) refl) })
  ]

  pub along_known : Known h l t (record { place = along h n p segment; rest = rest_along n p segment })
  along_known = elim (ℕ_discrete segment.rate 0) [
    | yes z ↦ subst (λ (s : Option Segment). Known h l t (record { place = along h n p segment; rest = s })) (rest_stuck n p segment z) tt
    | no z ↦ elim (dec_le segment.rate segment.way) [
      | yes le ↦
          let f : ℕ = min (segment.way / segment.rate) (n - p.second) in
          subst (λ (q : Place). Known h l t (record { place = q; rest = rest_along n p segment })) (along_run h n p segment z le)
          (subst (λ (s : Option Segment). Known h l t (record { place = after_run h f p segment; rest = s })) (rest_run_lem n p segment z le)
          (run_known f (full_way segment.way segment.rate f (omega arith))))
      | no le ↦ subst (λ (s : Option Segment). Known h l t (record { place = along h n p segment; rest = s }))
          (rest_short n p segment z (omega arith)) tt
    ]
  ]
