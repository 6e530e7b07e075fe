-- Several seconds at once: in a hold, and at full rate up to a stop.
use Prim.Native.Nat.{ℕ, zero, suc, ◌+◌, ◌*◌, ◌-◌, ◌≤◌, ◌<◌}
use mathlib.Core.Path.{◌≡◌, ap, sym, ◌∙◌}
use native.Mathlib.Decide.{ℕ_discrete}
use native.Mathlib.Omega.{arith}
use lib.Dec.{eqb}
use borrow.Author.Tests.{lt-ltb, eq-eqb, ne_eqb}
use Rattle.level.specs.Choice.{pick}
use Rattle.course.specs.Lists.{Lists}
use Rattle.course.specs.declared.Heading.{Heading}
use Rattle.course.specs.Course.{Moment, toward, gap, rate_at, next_stop, hold_at, second, after}
use Rattle.course.specs.Headings.{Past}
use Rattle.course.proofs.Near.{past_on, gap_some, gap_to, gap_left, toward_add, toward_zero}
use Rattle.course.proofs.Ahead.{rate_same, next_same, next_past}
use Rattle.course.proofs.Rule.{at, second_run, second_stop}

module _ (h : Heading) (l : Lists) (t : ℕ) where
  hold_second : (v d : ℕ) → 0 < d → second h l t (at v d) ≡ at v (d - 1)
  unfolding second
  hold_second v d p = simp (lt-ltb 0 d p)

  pub holds : (f v d : ℕ) → f ≤ d → after h l t f (at v d) ≡ at v (d - f)
  unfolding after
  holds zero v d p = ap (at v) (omega arith)
  holds (suc f) v d p = ap (second h l t) (holds f v d (omega arith)) ∙ hold_second v (d - f) (omega arith) ∙ ap (at v) (omega arith)

  -- at full rate from v: the hold begins where the whole way is come
  module _ (v : ℕ) (p : Past h v t) (some : 1 ≤ rate_at h l v) where
    abbrev rate : ℕ
    rate = rate_at h l v

    abbrev stop : ℕ
    stop = next_stop h l t v

    abbrev way : ℕ
    way = gap v stop

    abbrev ran : ℕ → Moment
    ran f = at (toward h v (f * rate)) (pick (eqb (f * rate) way) (hold_at h l t stop) 0)

    pub ran_whole : (f : ℕ) → f * rate ≡ way → ran f ≡ at stop (hold_at h l t stop)
    ran_whole f e =
        simp (eq-eqb (f * rate) way e) (ap (λ (w : ℕ). at w (hold_at h l t stop)) (ap (toward h v) e ∙ gap_to v stop h (next_past h l t v p).0))

    pub ran_part : (f : ℕ) → (f * rate ≡ way → ⊥) → ran f ≡ at (toward h v (f * rate)) 0
    ran_part f e = simp (ne_eqb (f * rate) way e)

    -- short of the stop after f seconds: the next stop and the rate are those at v
    pub record Under (f : ℕ) : Type 0 where
      pub past : Past h (toward h v (f * rate)) t
      pub next : next_stop h l t (toward h v (f * rate)) ≡ stop
      pub even : rate_at h l (toward h v (f * rate)) ≡ rate
      pub left : gap (toward h v (f * rate)) (next_stop h l t (toward h v (f * rate))) ≡ way - f * rate

    pub under : (f : ℕ) → f * rate < way → Under f
    under f q =
        let x : ℕ = toward h v (f * rate) in
        let n = next_past h l t v p in
        let on = gap_left v stop h (f * rate) n.0 q in
        let same : next_stop h l t x ≡ stop = next_same h l t v x on.1 on.0 in
        record {
          past = past_on h x stop t on.0 n.1;
          next = same;
          even = rate_same h l t v x on.1 on.0;
          left = ap (gap x) same ∙ on.2;
        }

    one_more : (f : ℕ) → f * rate + rate ≤ way → second h l t (at (toward h v (f * rate)) 0) ≡ ran (suc f)
    one_more f q =
        let x : ℕ = toward h v (f * rate) in
        let u : Under f = under f (omega arith) in
        elim (ℕ_discrete (f * rate + rate) way) [
          | yes e ↦ second_stop h l t x u.past (omega (arith, u.even, u.left)) ∙ ap (λ (w : ℕ). at w (hold_at h l t w)) u.next
              ∙ sym (ran_whole (suc f) (omega arith))
          | no e ↦ second_run h l t x u.past (omega (arith, u.even, u.left)) ∙ ap (λ (w : ℕ). at w 0) (toward_add h v (f * rate) (rate_at h l x)
              ∙ ap (toward h v) {x = f * rate + rate_at h l x} {y = suc f * rate} (omega (arith, u.even)))
              ∙ sym (ran_part (suc f) (λ e'. e (omega arith)))
        ]

    pub runs : (f : ℕ) → f * rate ≤ way → after h l t f (at v 0) ≡ ran f
    unfolding after
    runs zero q = ap (λ (w : ℕ). at w 0) (sym (toward_zero h v) ∙ ap (toward h v) {x = 0} {y = 0 * rate} (omega arith))
        ∙ sym (ran_part 0 (λ e. omega (arith, gap_some v stop h (next_past h l t v p).0)))
    runs (suc f) q = ap (second h l t) (runs f (omega arith) ∙ ran_part f (λ e. omega arith)) ∙ one_more f (omega arith)

    pub short_of : (f : ℕ) → f * rate < way → after h l t f (at v 0) ≡ at (toward h v (f * rate)) 0
    short_of f q = runs f (omega arith) ∙ ran_part f (λ e. omega arith)

    -- a way shorter than the rate
    pub stops : way ≤ rate → after h l t 1 (at v 0) ≡ at stop (hold_at h l t stop)
    unfolding after
    stops q = second_stop h l t v p q

  -- j seconds, and then k
  pub after_add : (j k : ℕ) (m : Moment) → after h l t (j + k) m ≡ after h l t k (after h l t j m)
  unfolding after
  after_add j zero m = ap (λ (n : ℕ). after h l t n m) {x = j + 0} {y = j} (omega arith)
  after_add j (suc k) m = ap (λ (n : ℕ). after h l t n m) {x = j + suc k} {y = suc (j + k)} (omega arith) ∙ ap (second h l t) (after_add j k m)
