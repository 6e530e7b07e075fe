-- Where a course stands in the day's seconds, and the seconds off there.
use Prim.Native.Nat.{ℕ, ◌+◌, ◌-◌, ◌≤◌, ◌<◌}
use mathlib.Core.Path.{◌≡◌, refl, ap, sym, ◌∙◌}
use mathlib.Core.Bool.{◌&&◌}
use native.Mathlib.Omega.{arith}
use lib.Dec.{eqb}
use borrow.Author.Tests.{lt-ltb}
use Rattle.level.specs.Choice.{pick}
use Rattle.records.specs.declared.UnitData.{UnitData}
use Rattle.course.specs.declared.Course.{Course}
use Rattle.course.specs.Lists.{Lists}
use Rattle.course.specs.declared.Heading.{Heading}
use Rattle.course.specs.Course.{heading, after, moment_at, trajectory_of}
use Rattle.course.specs.Pieces.{piece}
use Rattle.course.proofs.Pieces.{Line}
use Rattle.profile.specs.declared.UnderWay.{UnderWay}
use Rattle.profile.specs.State.{held, watch, by_rule}
use Rattle.profile.specs.Effects.{state_at}
use Rattle.course_walk.specs.declared.Place.{Place}
use Rattle.course_rates.specs.declared.Route.{Route}
use Rattle.course_rates.specs.Ways.{lists_in, route_of, target_of}
use Rattle.course_walk.specs.Walk.{moment_of, beginning, onward}
use Rattle.course_walk.proofs.PieceStep.{PieceStep, step_line, onward_step}
use Rattle.course_walk.proofs.Courses.{heading_is, begins_short}
use Rattle.profile_areas.specs.Watching.{off_starting, off_between}
use Rattle.profile_areas.proofs.Watching.{moment_on, off_on, state_there}
use Rattle.profile_areas.specs.Passing.{Watching}

-- a place, in the seconds of a course that began at the second a
abbrev pub back : ℕ → Place → Place
back a p = record { second = p.second - a; level = p.level; left = p.left }

-- a straight piece is as straight there
module _ {h : Heading} {l : Lists} {t n : ℕ} {p q : Place} (a : ℕ) (begun : a ≤ p.second) (g : PieceStep h l t n p q) where
  abbrev own : ℕ → ℕ
  own k = (after h l t (k - (p.second - a)) (moment_of p)).level

  own_line : Line h own (record { from = p.second - a; to = q.second - a; enter = p.level; leave = q.level })
  own_line = record {
    rate = (step_line g).rate;
    along = λ i le. rw (ap (λ (k : ℕ). (after h l t k (moment_of p)).level) {x = p.second + i - p.second} {y = p.second - a + i - (p.second - a)}
        (omega arith)) at ((step_line g).along i (omega (arith, g.later)));
    ends = (step_line g).ends ∙ ap (λ (k : ℕ). (after h l t k (moment_of p)).level) {x = q.second - p.second} {y = q.second - a - (p.second - a)}
        (omega (arith, g.later));
  }

  pub step_back : PieceStep h l t (n - a) (back a p) (back a q)
  unfolding piece
  step_back = record {
    later = omega (arith, g.later);
    within = omega (arith, g.within);
    short = g.short;
    low = g.low;
    moment = ap (λ (k : ℕ). after h l t k (moment_of p)) {x = q.second - a - (p.second - a)} {y = q.second - p.second} (omega (arith, g.later))
        ∙ g.moment;
    straight = rw (lt-ltb (p.second - a) (q.second - a) (omega (arith, g.later))) (refl, omega (arith, g.later), own_line, refl);
  }

between_back : (a : ℕ) (p q : Place) (off : ℕ) → a ≤ p.second → p.second < q.second → off_between p q off ≡ off_between (back a p) (back a q) off
unfolding off_between
between_back a p q off h k =
    ap (λ (d : ℕ). pick (eqb p.level 0 && eqb q.level 0) (held (off + d)) 0) {x = q.second - p.second} {y = q.second - a - (p.second - a)}
    (omega arith)

module _ (u : UnitData) (r : Route) (before : ℕ) where
  pub watching_start : r ≡ route_of u r.course → Watching u r before (beginning r.course r.course.begin) (off_starting r.course before)
  unfolding beginning off_starting moment_at after trajectory_of watch
  watching_start own = record {
    own = own;
    begun = omega arith;
    short = begins_short u r own r.course.begin;
    moment = first ∙ ap (moment_at (trajectory_of u r.course)) {x = 0} {y = r.course.begin - r.course.begin} (omega arith);
    off_is = none ∙ ap (λ (k : ℕ). (watch (trajectory_of u r.course) before k).off) {x = 0} {y = r.course.begin - r.course.begin} (omega arith);
  }
    where
      first : (record { level = r.course.start.grains; left = 0 }) ≡ moment_at (trajectory_of u r.course) 0
      first = refl

      none : off_starting r.course before ≡ (watch (trajectory_of u r.course) before 0).off
      none = refl

  module _ (p : Place) (off n : ℕ) (w : Watching u r before p off) (to_go : p.second < n) where
    pub watching_step : PieceStep r.heading (lists_in u r.course) (target_of r) n p (onward r.heading (lists_in u r.course) (target_of r) n p)
    watching_step = onward_step r.heading (lists_in u r.course) (target_of r) n p to_go w.short

    turned : (q : Place) → q ≡ onward r.heading (lists_in u r.course) (target_of r) n p →
        PieceStep (heading (trajectory_of u r.course)) (trajectory_of u r.course).lists (trajectory_of u r.course).target (n - r.course.begin)
        (back r.course.begin p) (back r.course.begin q)
    unfolding trajectory_of
    turned q e = rw (heading_is u r w.own) (step_back r.course.begin w.begun (rw e watching_step))

    pub watching_on : (q : Place) (o : ℕ) → q ≡ onward r.heading (lists_in u r.course) (target_of r) n p → o ≡ off_between p q off →
        Watching u r before q o
    watching_on q o e f =
        let g : PieceStep r.heading (lists_in u r.course) (target_of r) n p q = rw e watching_step in
        let a : ℕ = r.course.begin in
        record {
          own = w.own;
          begun = omega (arith, w.begun, g.later);
          short = g.short;
          moment = moment_on (trajectory_of u r.course) before (n - a) (back a p) (back a q) w.moment (turned q e);
          off_is = f ∙ between_back a p q off w.begun g.later ∙ ap (off_between (back a p) (back a q)) w.off_is
              ∙ sym (off_on (trajectory_of u r.course) before (n - a) (back a p) (back a q) w.moment (turned q e));
        }

  pub watching_state : (p : Place) (off : ℕ) → Watching u r before p off →
      (record { level = p.level; off = off }) ≡ by_rule (trajectory_of u r.course) before (p.second - r.course.begin)
  watching_state p off w = (λ i. record { level = p.level; off = w.off_is i })
      ∙ state_there (trajectory_of u r.course) before (back r.course.begin p) (p.second - r.course.begin) refl w.moment

-- the state at the second t, of the course under way
pub watching_at : (u : UnitData) (now : UnderWay) (r : Route) (p : Place) (off t : ℕ) → r.course ≡ now.course → Watching u r now.off p off →
    p.second ≡ t → (record { level = p.level; off = off }) ≡ state_at by_rule u now t
unfolding state_at
watching_at u now r p off t is w e = watching_state u r now.off p off w
    ∙ ap (λ (k : ℕ). by_rule (trajectory_of u r.course) now.off (k - r.course.begin)) e
    ∙ ap (λ (c : Course). by_rule (trajectory_of u c) now.off (t - c.begin)) is
