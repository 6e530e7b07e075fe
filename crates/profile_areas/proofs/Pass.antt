-- Along a course towards a second, piece by piece.
use Prim.Native.Nat.{ℕ, ◌*◌, ◌≤◌, ◌<◌}
use mathlib.Core.Path.{◌≡◌, refl, sym, ◌∙◌}
use native.Mathlib.Omega.{arith}
use Rattle.std.specs.Prelude.{Option}
use Rattle.level.specs.Numbers.{half_hour}
use Rattle.level.specs.Bounds.{level_bound}
use Rattle.records.specs.declared.UnitData.{UnitData}
use Rattle.course.specs.declared.Segment.{Segment}
use Rattle.course.specs.Lists.{Lists}
use Rattle.course.specs.declared.Heading.{Heading}
use Rattle.course_rates.specs.declared.Route.{Route}
use Rattle.course_walk.specs.declared.Place.{Place}
use Rattle.course_walk.specs.declared.Reached.{Reached}
use Rattle.course_rates.specs.Ways.{target_of, lists_by}
use Rattle.course_walk.specs.Walk.{Known, onward, twice_to}
use Rattle.course_walk.proofs.PieceStep.{PieceStep, onward_step, standing_on, standing_here}
use Rattle.course_walk.proofs.Own.{own_onward}
use Rattle.profile_areas.specs.Watching.{off_between}
use Rattle.profile_areas.specs.declared.Sums.{Sums}
use Rattle.profile_areas.specs.Passing.{Summed, summed, Noted, piece_from, Watching, CourseAhead, PassProgress, Passing}
use Rattle.profile_areas.proofs.Adding.{noted_none}
use Rattle.profile_areas.proofs.Areas.{twice_none, stands_on, twice_through, piece_on}
use Rattle.profile_areas.proofs.Watch.{watching_on}

-- cut where it ends, a piece is the same
step_there : {h : Heading} {l : Lists} {t n : ℕ} {p q : Place} → PieceStep h l t n p q → PieceStep h l t q.second p q
step_there g = record { later = g.later; within = omega arith; short = g.short; low = g.low; moment = g.moment; straight = g.straight }

-- the next piece of the course, from p to q
pub record NextPiece (r : Route) (n : ℕ) (p q : Place) : Type 0 where
  pub to_go : p.second < n
  pub is : q ≡ onward r.heading (lists_by r) (target_of r) n p
  pub step : PieceStep r.heading (lists_by r) (target_of r) n p q
  pub low : q.level < level_bound

module _ {r : Route} {before n : ℕ} where
  -- nothing yet
  pub progress_start : {start : Reached} {x : Sums} → CourseAhead r start n (summed start.place.second x) →
      PassProgress r start.place before n (summed start.place.second x) x start before
  progress_start {start} a =
      let p : Place = start.place in
      let h : Heading = r.heading in
      let ls : Lists = lists_by r in
      let t : ℕ = target_of r in
      record {
        adds = (noted_none (λ (i : ℕ). twice_to h ls t i p) (λ i k. twice_none h ls t p i k) a.fits).adds;
        fits = a.fits;
        known = a.known;
        later = omega arith;
        within = a.later;
        ends_before = λ lt. lt;
        short = a.short;
        low = a.low;
        stands = sym (standing_here h ls t p.second p refl);
        watched = λ u b w. w;
      }

  module _ {from : Place} {a : Summed} {y : Sums} {at : Reached} {off : ℕ} (s : PassProgress r from before n a y at off) where
    abbrev h : Heading
    h = r.heading

    abbrev ls : Lists
    ls = lists_by r

    abbrev t : ℕ
    t = target_of r

    abbrev p : Place
    p = at.place

    -- n is reached
    pub progress_end : n ≤ p.second → Passing r from before n a y (record { reached = at; ahead = p; off = off; later = off })
    progress_end le = record {
      progress = s;
      runs = λ lt. absurd (omega arith);
      there = omega (arith, s.within);
      ahead_low = s.low;
      watched = s.watched;
    }

    pub next_piece : {q : Place} → p.second < n → q ≡ onward h ls t n p → (p.level < level_bound → q.level < level_bound) → NextPiece r n p q
    next_piece to_go e low = record { to_go = to_go; is = e; step = rw e (onward_step h ls t n p to_go s.short); low = low s.low }

    module _ {q : Place} (x : NextPiece r n p q) {more : ℕ} (f : more ≡ off_between p q off) where
      on_watch : (u : UnitData) (b : ℕ) → Watching u r b from before → Watching u r b q more
      on_watch u b w =
          let here = s.watched u b w in
          watching_on u r b p off n here x.to_go q more (x.is ∙ own_onward u r here.own t n p) f

      -- n cuts it
      pub progress_cut : n ≤ q.second →
          Passing r from before n a y (record { reached = at; ahead = q; off = off; later = more })
      progress_cut le = record { progress = s; runs = λ lt. x.is; there = omega (arith, x.step.within); ahead_low = x.low; watched = on_watch }

      -- it ends before n, and is added
      pub progress_more : {rest : Option Segment} → q.second < n → Known h ls t (record { place = q; rest = rest }) → {z : Sums} →
          Noted (piece_from h p q) (summed p.second y) (summed q.second z) →
          PassProgress r from before n a z (record { place = q; rest = rest }) more
      progress_more ends known noted = record {
        adds = λ j k. omega (
          arith,
          piece_on h ls t n p q (λ lt. x.step) (omega (arith, x.step.later)) noted j k,
          s.adds j k,
          twice_through h ls t from p s.stands s.later q.second (half_hour * j) (omega (arith, x.step.later)),
        );
        fits = noted.fits;
        known = known;
        later = omega (arith, s.later, x.step.later);
        within = omega arith;
        ends_before = λ lt. ends;
        short = x.step.short;
        low = x.low;
        stands = stands_on h ls t from p q q.second s.stands s.later (omega (arith, x.step.later))
            (sym (standing_here h ls t q.second q refl) ∙ standing_on (step_there x.step));
        watched = on_watch;
      }
