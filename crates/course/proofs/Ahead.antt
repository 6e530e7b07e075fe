-- What lies ahead on the way to the next stop: the stop stays the same, and so does the rate.
use mathlib.Core.Path.{◌≡◌, refl, ap, sym, ◌∙◌}
use mathlib.Core.List.{List, ◌∷◌, ◌++◌, map}
use Prim.Native.Nat.{ℕ, suc, ◌<◌}
use native.Mathlib.Decide.{dec_le}
use native.Mathlib.Omega.{arith}
use lib.Dec.{leb, ltb}
use lib.ListN.{length}
use borrow.Author.Tests.{lt-ltb, le-ltb, le-leb, lt-leb, ltb-false, leb-false}
use Rattle.level.specs.Lists.{those}
use Rattle.course.specs.Lists.{Lists}
use Rattle.course.specs.declared.Heading.{Heading}
use Rattle.course.specs.declared.Heading.TheVariants.{Rising, Falling}
use Rattle.course.specs.Course.{in_use, passed, breaks_in_use, triggers, rate_at, candidates, next_stop}
use Rattle.course.specs.Headings.{Past, Short}
use Rattle.course.proofs.Near.{Every, every_left, every_right, every_those, every_map, those_same, near_past, near_same, near_clear, ahead, near_fewer_all}

-- no break of a list between v and e: the same count is passed
passed_same : (h : Heading) (v e : ℕ) (bs : List ℕ) → Short h e v → Every (λ b. Past h v b → Past h e b) bs → passed h e bs ≡ passed h v bs
unfolding passed
passed_same Rising v e bs p c =
    ap length (those_same (λ b. leb b e) (λ b. leb b v) bs (every_map (λ b. v < b → e < b) (λ b. leb b e ≡ leb b v) same bs c))
  where
    same : (b : ℕ) → (v < b → e < b) → leb b e ≡ leb b v
    same b q = elim (dec_le b v) [
      | yes r ↦ le-leb b e (omega arith) ∙ sym (le-leb b v r)
      | no r ↦ lt-leb b e (q (omega arith)) ∙ sym (lt-leb b v (omega arith))
    ]
passed_same Falling v e bs p c =
    ap length (those_same (λ b. ltb b e) (λ b. ltb b v) bs (every_map (λ b. b < v → b < e) (λ b. ltb b e ≡ ltb b v) same bs c))
  where
    same : (b : ℕ) → (b < v → b < e) → ltb b e ≡ ltb b v
    same b q = elim (dec_le (suc b) v) [
      | yes r ↦ lt-ltb b e (q r) ∙ sym (lt-ltb b v r)
      | no r ↦ le-ltb b e (omega arith) ∙ sym (le-ltb b v (omega arith))
    ]

-- the list in use at v is in use at e, and none of its breaks lies between
module _ (h : Heading) (l : Lists) (t v e : ℕ) where
  pub ahead_clear : Past h e (next_stop h l t v) → Every (λ w. Past h v w → Past h e w) (candidates h l t)
  unfolding next_stop
  ahead_clear q = near_clear h v e t (candidates h l t) q

use_same : (h : Heading) (l : Lists) (t v e : ℕ) → Short h e v → Every (λ w. Past h v w → Past h e w) (candidates h l t) →
    (in_use h l e ≡ in_use h l v) × Every (λ b. Past h v b → Past h e b) (in_use h l v).breaks
unfolding in_use breaks_in_use candidates
use_same Rising l t v e p c =
    let bs = every_left (λ b. v < b → e < b) (breaks_in_use Rising l) _ c.1.1 in
    let below = every_left (λ b. v < b → e < b) (those (λ b. ltb b l.msg) l.column.breaks) _ bs in
    let above = every_right (λ b. v < b → e < b) (those (λ b. ltb b l.msg) l.column.breaks) _ bs in
    elim (dec_le (suc v) l.msg) [
      | yes q ↦ let r = c.1.0 q in simp (lt-ltb v l.msg q, lt-ltb e l.msg r)
          (refl, every_those _ (λ b. ltb b l.msg) (λ b f g. omega (arith, ltb-false b l.msg f)) l.column.breaks below)
      | no q ↦ simp (le-ltb v l.msg (omega arith), le-ltb e l.msg (omega arith))
          (refl, every_those _ (λ b. leb l.msg b) (λ b f g. omega (arith, leb-false l.msg b f)) l.up.breaks above)
    ]
use_same Falling l t v e p c =
    let bs = every_left (λ b. b < v → b < e) (breaks_in_use Falling l) _ c.1.1 in
    let above = every_left (λ b. b < v → b < e) (those (λ b. ltb l.msg b) l.down.breaks) _ bs in
    let below = every_right (λ b. b < v → b < e) (those (λ b. ltb l.msg b) l.down.breaks) _ bs in
    elim (dec_le (suc l.msg) v) [
      | yes q ↦ let r = c.1.0 q in simp (lt-ltb l.msg v q, lt-ltb l.msg e r)
          (refl, every_those _ (λ b. ltb l.msg b) (λ b f g. omega (arith, ltb-false l.msg b f)) l.down.breaks above)
      | no q ↦ simp (le-ltb l.msg v (omega arith), le-ltb l.msg e (omega arith))
          (refl, every_those _ (λ b. leb b l.msg) (λ b f g. omega (arith, leb-false b l.msg f)) l.deload.breaks below)
    ]

-- T1: short of the next stop the rate is that of the leg's beginning
pub rate_same : (h : Heading) (l : Lists) (t v e : ℕ) → Short h e v → Past h e (next_stop h l t v) → rate_at h l e ≡ rate_at h l v
unfolding rate_at
rate_same h l t v e p q =
    let u = use_same h l t v e p (ahead_clear h l t v e q) in
    rw (u.0, passed_same h v e (in_use h l v).breaks p u.1)

pub next_same : (h : Heading) (l : Lists) (t v e : ℕ) → Short h e v → Past h e (next_stop h l t v) → next_stop h l t e ≡ next_stop h l t v
unfolding next_stop
next_same h l t v e p q = near_same h v e t (candidates h l t) p q

pub next_past : (h : Heading) (l : Lists) (t v : ℕ) → Past h v t → Past h v (next_stop h l t v) × Short h t (next_stop h l t v)
unfolding next_stop
next_past h l t v p = near_past h v t (candidates h l t) p

-- one stop fewer lies ahead of the next stop
pub next_fewer : (h : Heading) (l : Lists) (t v : ℕ) → Past h v t → ahead h (next_stop h l t v) (candidates h l t) < ahead h v (candidates h l t)
unfolding next_stop candidates
next_fewer h l t v p = near_fewer_all h v t (l.msg ∷ (breaks_in_use h l ++ map (λ g. g.level) (triggers h l))) (next_stop h l t v) refl p
