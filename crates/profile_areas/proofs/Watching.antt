-- The seconds off after a straight piece are what the rule of one second counts.
use Prim.Native.Nat.{ℕ, zero, suc, ◌+◌, ◌*◌, ◌-◌, min, ◌≤◌}
use mathlib.Core.Path.{◌≡◌, refl, ap, sym, ◌∙◌}
use mathlib.Core.Logic.{◌≢◌}
use mathlib.Core.Bool.{Bool, true, false, ◌&&◌}
use native.Mathlib.Nat.{mul-le-mul_right}
use native.Mathlib.Decide.{ℕ_discrete}
use native.Mathlib.Omega.{arith}
use lib.Dec.{eqb}
use borrow.Author.Tests.{eq-eqb, ne_eqb}
use Rattle.level.specs.Choice.{pick}
use Rattle.course.specs.declared.Heading.{Heading}
use Rattle.course.specs.declared.Heading.TheVariants.{Rising, Falling}
use Rattle.course.specs.Course.{Trajectory, Moment, heading, after, moment_at, level_at}
use Rattle.course.specs.Headings.{Along}
use Rattle.course.proofs.Pieces.{Line}
use Rattle.course.proofs.Seconds.{after_add}
use Rattle.course_walk.specs.declared.Place.{Place}
use Rattle.course_walk.specs.Walk.{moment_of}
use Rattle.course_walk.proofs.PieceStep.{PieceStep, step_line}
use Rattle.profile.specs.State.{held, watch_next, watch, by_rule}
use Rattle.profile.proofs.States.{watch_moment, watch_off, off_more, off_none, off_new}
use Rattle.profile_areas.specs.Watching.{off_between}

-- both ends of a line at 0: all of it is
flat : (h : Heading) (d r i v x w : ℕ) → i ≤ d → v ≡ 0 → w ≡ 0 → Along h v (i * r) x → Along h v (d * r) w → x ≡ 0
flat Rising d r i v x w le e f p q = omega (arith, mul-le-mul_right {m = i} {n = d} r le)
flat Falling d r i v x w le e f p q = omega arith

-- the end alone at 0: a second earlier the line is above it
sinks : (h : Heading) (b r v x w : ℕ) → v ≢ 0 → w ≡ 0 → Along h v (b * r) x → Along h v (suc b * r) w → x ≢ 0
sinks Rising b r v x w ne e p q z = ne (omega arith)
sinks Falling b r v x w ne e p q z = ne (omega (arith, none r b (omega arith)))
  where
    none : (r b : ℕ) → r ≡ 0 → b * r ≡ 0
    none r b e = rw e (omega arith)

ap_along : (h : Heading) (v r w d e : ℕ) → d ≡ e → Along h v (d * r) w → Along h v (e * r) w
ap_along h v r w d e same p = rw (sym same) p

neither : (a b : Bool) (n : ℕ) → b ≡ false → pick (a && b) n 0 ≡ 0
neither true b n e = rw e refl
neither false b n e = refl

module _ (c : Trajectory) (off : ℕ) where
  pub off_low : (k : ℕ) → (watch c off k).off ≤ 10000000
  unfolding watch watch_next held
  off_low zero = go (eqb c.start 0)
    where
      go : (b : Bool) → pick b (min off 10000000) 0 ≤ 10000000
      go true = omega arith
      go false = omega arith
  off_low (suc k) = rw (watch_off c off k) (go (eqb (level_at c k) 0 && eqb (level_at c (suc k)) 0) (watch c off k).off)
    where
      go : (b : Bool) (n : ℕ) → pick b (min (suc n) 10000000) 0 ≤ 10000000
      go true n = omega arith
      go false n = omega arith

  off_while : (a d : ℕ) → ((i : ℕ) → i ≤ d → level_at c (a + i) ≡ 0) → (watch c off (a + d)).off ≡ held ((watch c off a).off + d)
  unfolding held
  off_while a zero z = ap (λ (k : ℕ). (watch c off k).off) {x = a + 0} {y = a} (omega arith) ∙ omega (arith, off_low a)
  off_while a (suc d) z = ap (λ (k : ℕ). (watch c off k).off) {x = a + suc d} {y = suc (a + d)} (omega arith)
      ∙ off_more c off (a + d) (z d (omega arith)) (ap (level_at c) {x = suc (a + d)} {y = a + suc d} (omega arith) ∙ z (suc d) (omega arith))
      ∙ omega (arith, off_while a d (λ i h. z i (omega arith)))

  -- from p to q along a straight piece
  module _ (n : ℕ) (p q : Place) (e : moment_of p ≡ moment_at c p.second) (g : PieceStep (heading c) c.lists c.target n p q) where
    pub moment_on : moment_of q ≡ moment_at c q.second
    unfolding moment_at
    moment_on = sym g.moment ∙ ap (after (heading c) c.lists c.target (q.second - p.second)) e
        ∙ sym (after_add (heading c) c.lists c.target p.second (q.second - p.second) (record { level = c.start; left = 0 }))
        ∙ ap (moment_at c) {x = p.second + (q.second - p.second)} {y = q.second} (omega (arith, g.later))

    abbrev path : ℕ → ℕ
    path k = (after (heading c) c.lists c.target (k - p.second) (moment_of p)).level

    abbrev straight : Line (heading c) path (record { from = p.second; to = q.second; enter = p.level; leave = q.level })
    straight = step_line g

    on_path : (i : ℕ) → path (p.second + i) ≡ level_at c (p.second + i)
    unfolding level_at moment_at
    on_path i = ap (λ (k : ℕ). (after (heading c) c.lists c.target k (moment_of p)).level) {x = p.second + i - p.second} {y = i} (omega arith)
        ∙ ap (λ (m : Moment). (after (heading c) c.lists c.target i m).level) e
        ∙ sym (ap (λ (m : Moment). m.level) (after_add (heading c) c.lists c.target p.second i (record { level = c.start; left = 0 })))

    here : q.level ≡ level_at c q.second
    unfolding level_at
    here = ap (λ (m : Moment). m.level) moment_on

    line_at : (i : ℕ) → i ≤ q.second - p.second → Along (heading c) p.level (i * straight.rate) (level_at c (p.second + i))
    line_at i le = rw (on_path i) at (straight.along i le)

    pub off_on : (watch c off q.second).off ≡ off_between p q (watch c off p.second).off
    unfolding off_between
    off_on =
        let a : ℕ = p.second in
        let d : ℕ = q.second - p.second in
        let b : ℕ = q.second - p.second - 1 in
        let to : q.second ≡ a + d = omega (arith, g.later) in
        let last : q.second ≡ suc (a + b) = omega (arith, g.later) in
        let end : Along (heading c) p.level (d * straight.rate) q.level =
        rw (ap (level_at c) (sym to) ∙ sym here) at (line_at d (omega arith)) in
        elim (ℕ_discrete q.level 0) [
          | yes zq ↦ elim (ℕ_discrete p.level 0) [
            | yes zp ↦
                ap (λ (k : ℕ). (watch c off k).off) to
                ∙ off_while a d (λ i le. flat (heading c) d straight.rate i p.level (level_at c (a + i)) q.level le zp zq (line_at i le) end)
                ∙ sym (simp (eq-eqb _ _ zp, eq-eqb _ _ zq))
            | no np ↦
                ap (λ (k : ℕ). (watch c off k).off) last
                ∙ off_new c off (a + b) (sinks (heading c) b straight.rate p.level (level_at c (a + b)) q.level np zq
                (line_at b (omega (arith, g.later)))
                (ap_along (heading c) p.level straight.rate q.level d (suc b) (omega (arith, g.later)) end)) ∙ sym (simp (ne_eqb _ _ np))
          ]
          | no nq ↦
              ap (λ (k : ℕ). (watch c off k).off) last ∙ off_none c off (a + b) (λ z. nq (here ∙ ap (level_at c) last ∙ z))
              ∙ sym (neither (eqb p.level 0) (eqb q.level 0) (held ((watch c off a).off + d)) (ne_eqb _ _ nq))
        ]

  -- what is read at a second
  pub state_there : (p : Place) (k : ℕ) → p.second ≡ k → moment_of p ≡ moment_at c p.second →
      (record { level = p.level; off = (watch c off p.second).off }) ≡ by_rule c off k
  unfolding by_rule
  state_there p k at e =
      (λ i. record { level = (ap (λ (m : Moment). m.level) (e ∙ sym (watch_moment c off p.second))) i; off = (watch c off p.second).off })
      ∙ ap (λ (j : ℕ). record { level = (watch c off j).moment.level; off = (watch c off j).off }) at
