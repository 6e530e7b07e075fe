-- Twice the area along a course, from one second to another, and along a level piece.
use Prim.Native.Nat.{ℕ, min, ◌+◌, ◌*◌, ◌-◌, ◌≤◌, ◌<◌}
use mathlib.Core.Path.{◌≡◌, refl, ap, sym, ◌∙◌}
use native.Mathlib.Decide.{dec_le}
use native.Mathlib.Omega.{arith}
use Rattle.course.specs.Recorded.{area}
use Rattle.course.proofs.Sums.{area_split}
use Rattle.course.specs.Lists.{Lists}
use Rattle.course.specs.declared.Heading.{Heading}
use Rattle.course.specs.Course.{Moment, toward, after}
use Rattle.course.proofs.Pieces.{piece_cut}
use Rattle.course.proofs.Seconds.{after_add}
use Rattle.course_walk.specs.declared.Place.{Place}
use Rattle.course_walk.specs.Walk.{moment_of, standing, twice_to}
use Rattle.course_walk.proofs.PieceStep.{PieceStep, step_line}
use Rattle.course_walk.proofs.Areas.{area_from, area_same, twice_here}
use Rattle.profile_areas.specs.declared.Sums.{Sums}
use Rattle.profile_areas.specs.Passing.{Summed, summed, Noted, line_twice, piece_rate, piece_from, Straight, AddsOn}
use Rattle.profile_areas.proofs.Adding.{adds_same}
use Rattle.profile_areas.proofs.Lines.{line_none, along_toward, straight_rate}

module _ (h : Heading) (l : Lists) (t : ℕ) (p : Place) where
  abbrev path : Place → ℕ → ℕ
  path q k = (after h l t k (moment_of q)).level

  -- to k and from there to n
  module _ (k n : ℕ) (a : p.second ≤ k) (b : k ≤ n) where
    pub standing_twice : standing h l t n (standing h l t k p) ≡ standing h l t n p
    unfolding standing
    standing_twice =
        let x : ℕ = k - p.second in
        ap (λ (m : Moment). record { second = n; level = m.level; left = m.left }) (sym (after_add h l t x (n - k) (moment_of p))
        ∙ ap (λ (j : ℕ). after h l t j (moment_of p)) {x = x + (n - k)} {y = n - p.second} (omega arith))

    pub twice_split : twice_to h l t k p + twice_to h l t n (standing h l t k p) ≡ twice_to h l t n p
    unfolding twice_to standing
    twice_split =
        let d : ℕ = k - p.second in
        let e : ℕ = n - k in
        sym (ap (area (path p) 0) {x = n - p.second} {y = d + e} (omega arith) ∙ area_split (path p) 0 d e
        ∙ ap (λ (i : ℕ). area (path p) 0 d + area (path p) i e) {x = 0 + d} {y = d} (omega arith)
        ∙ ap (λ (i : ℕ). area (path p) 0 d + i) (area_from (path p) d e
        ∙ area_same (λ j. path p (d + j)) (path (standing h l t k p)) (λ j. ap (λ (m : Moment). m.level) (after_add h l t d j (moment_of p))) 0 e))

  -- where the course from p stands at the place a, and on from there to q, at the second n
  module _ (a q : Place) (n : ℕ) (there : a ≡ standing h l t a.second p) (from : p.second ≤ a.second) (on : a.second ≤ n)
      (e : q ≡ standing h l t n a) where
    pub second_on : q.second ≡ n
    unfolding standing
    second_on = ap (λ (r : Place). r.second) e

    pub stands_on : q ≡ standing h l t q.second p
    stands_on = e ∙ ap (standing h l t n) there ∙ standing_twice a.second n from on ∙ ap (λ (i : ℕ). standing h l t i p) (sym second_on)

  -- nothing before p
  pub twice_none : (i : ℕ) → i ≤ p.second → twice_to h l t i p ≡ 0
  twice_none i le = twice_here h l t i p le

-- a straight piece of a course
module _ {h : Heading} {l : Lists} {t n : ℕ} {p q : Place} (g : PieceStep h l t n p q) where
  abbrev levels : ℕ → ℕ
  levels k = (after h l t (k - p.second) (moment_of p)).level

  pub step_straight : Straight h p q
  step_straight =
      let d : ℕ = q.second - p.second in
      let end : levels (p.second + d) ≡ q.level =
      ap levels {x = p.second + d} {y = q.second} (omega (arith, g.later)) ∙ sym (step_line g).ends in
      record { rate = (step_line g).rate; along = rw end at ((step_line g).along d (omega arith)) }

  -- where the line is at the second s
  line_there : (s : ℕ) → p.second ≤ s → s ≤ q.second → levels s ≡ toward h p.level ((s - p.second) * piece_rate p q)
  unfolding step_straight
  line_there s lo hi =
      let i : ℕ = s - p.second in
      ap levels {x = s} {y = p.second + i} (omega arith)
      ∙ along_toward h p.level (i * (step_line g).rate) (levels (p.second + i)) ((step_line g).along i (omega arith))
      ∙ ap (λ (r : ℕ). toward h p.level (i * r)) (sym (straight_rate g.later step_straight))

  -- twice its area up to the second s
  pub line_area : (s : ℕ) → s ≤ q.second → line_twice h p.level (piece_rate p q) (s - p.second) ≡ twice_to h l t s p
  unfolding line_twice twice_to after
  line_area s hi = elim (dec_le p.second s) [
    | yes lo ↦
        let i : ℕ = s - p.second in
        let begins : levels p.second ≡ p.level = ap (path h l t p p) {x = p.second - p.second} {y = 0} (omega arith) ∙ refl in
        sym (sym (area_from levels p.second i ∙ area_same (λ j. levels (p.second + j)) (path h l t p p)
        (λ j. ap (path h l t p p) {x = p.second + j - p.second} {y = j} (omega arith)) 0 i)
        ∙ piece_cut levels (record { from = p.second; to = q.second; enter = p.level; leave = q.level }) p.second s (omega arith) lo hi h
        (step_line g) ∙ ap (λ (v : ℕ). i * (v + levels s)) begins ∙ ap (λ (v : ℕ). i * (p.level + v)) (line_there s lo hi))
    | no lt ↦ line_none h p.level (piece_rate p q) (s - p.second) (omega arith) ∙ sym (twice_here h l t s p (omega arith))
  ]

-- what a piece adds is what the course does there
pub piece_on : (h : Heading) (l : Lists) (t n : ℕ) (p q : Place) {a : Summed} {y : Sums} →
    (p.second < q.second → PieceStep h l t n p q) → p.second ≤ q.second → Noted (piece_from h p q) a (summed q.second y) →
    AddsOn h l t p a (summed q.second y)
piece_on h l t n p q {a} {y} go le noted = adds_same (piece_from h p q) (λ (i : ℕ). twice_to h l t i p) a (summed q.second y)
    (λ i k. elim (dec_le q.second p.second) [
      | yes same ↦ line_none h p.level (piece_rate p q) (i - p.second) (omega arith) ∙ sym (twice_here h l t i p (omega arith))
      | no lt ↦ line_area (go (omega arith)) i (omega arith)
    ]) noted.adds

-- to the second n by way of a place between
module _ (h : Heading) (l : Lists) (t : ℕ) (from p : Place) (there : p ≡ standing h l t p.second from) (later : from.second ≤ p.second) where
  twice_by : (n : ℕ) → p.second ≤ n → twice_to h l t p.second from + twice_to h l t n p ≡ twice_to h l t n from
  twice_by n le = ap (λ (q : Place). twice_to h l t p.second from + twice_to h l t n q) there ∙ twice_split h l t from p.second n later le

  -- up to a boundary x, or to the end e if that comes first
  pub twice_through : (e x : ℕ) → p.second ≤ e → twice_to h l t (min p.second x) from + twice_to h l t (min e x) p ≡ twice_to h l t (min e x) from
  twice_through e x le = elim (dec_le x p.second) [
    | yes lo ↦
        ap (λ (k : ℕ). twice_to h l t (min p.second x) from + k) (twice_here h l t (min e x) p (omega arith))
        ∙ ap (λ (k : ℕ). twice_to h l t k from + 0) {x = min p.second x} {y = min e x} (omega arith) ∙ omega arith
    | no hi ↦
        ap (λ (k : ℕ). twice_to h l t k from + twice_to h l t (min e x) p) {x = min p.second x} {y = p.second} (omega arith)
        ∙ twice_by (min e x) (omega arith)
  ]
