use Rattle.std.proofs.Common.{◌≡◌, ℕ, ◌<◌, ◌≤◌, ◌^◌, ap, sym, ◌∙◌, subst, arith}
use Rattle.std.specs.Prelude.{Option, Some, IfSome}
use Rattle.level.specs.Level.{grains}
use Rattle.level.specs.Bounds.{level_bound}
use Rattle.course.specs.declared.Segment.{Segment}
use Rattle.course.specs.Lists.{Lists}
use Rattle.course.specs.declared.Heading.{Heading}
use Rattle.course.specs.Headings.{Short}
use Rattle.course.proofs.Near.{short_past}
use Rattle.course.proofs.Rule.{past_not}
use Rattle.course_rates.specs.Ways.{GrainsOf}
use Rattle.course_stops.specs.Ahead.{segment_from}
use Rattle.course_walk.specs.declared.Place.{Place}
use Rattle.course_walk.specs.declared.Reached.{Reached}
use Rattle.course_walk.specs.Walk.{Reaches, SegmentAhead, Known, along, rest_along, onward}
use Rattle.course_walk.proofs.Onward.{onward_hold, onward_rest, onward_along, reaches_stop}
use Rattle.course_walk.proofs.PieceStep.{onward_step}
use Rattle.course_walk.proofs.Rest.{along_known}
use Rattle.course_walk.proofs.walk_on.Goals as goal

-- from the place p by the segment x that lies ahead
module _ (h : Heading) (l : Lists) (t n : ℕ) (p : Place) (x : Segment) (a : SegmentAhead h l t p x) where
  reaches : t < 2 ^ 64 → Reaches h p.level x.way
  reaches low = subst (λ (x : Segment). Reaches h p.level x.way) (sym a.is) (reaches_stop h l t p.level a.past low)

  module _ (r : Reached) (e : r ≡ record { place = along h n p x; rest = rest_along n p x }) where
    to : r ≡ record { place = along h n p (segment_from h l t p.level); rest = rest_along n p (segment_from h l t p.level) }
    to = e ∙ ap (λ (x : Segment). record { place = along h n p x; rest = rest_along n p x }) a.is

    place_on : r.place ≡ onward h l t n p
    place_on = ap (λ (r : Reached). r.place) to ∙ onward_along h l t n p (omega (arith, a.no_hold)) (past_not h p.level t a.past)

    known_on : Known h l t r
    known_on = subst (Known h l t) (sym to) (along_known h l t n p a.past)

-- the segment that is known
pub known_some : {h : Heading} {l : Lists} {t : ℕ} {p : Place} {o : Option Segment} {x : Segment} → IfSome o (SegmentAhead h l t p) → o ≡ Some x →
    SegmentAhead h l t p x
known_some {h} {l} {t} {p} known e = subst (λ (o : Option Segment). IfSome o (SegmentAhead h l t p)) e known

-- a level below the bound stays there, since the target lies there
low_on : (h : Heading) (l : Lists) (kw n : ℕ) (p : Place) {m : ℕ} {q : Place} → p.second < n → Short h (grains kw) p.level → GrainsOf kw m →
    q ≡ onward h l (grains kw) n p → p.level < level_bound → q.level < level_bound
low_on h l kw n p before short target e low =
    rw e (omega (arith, (onward_step h l (grains kw) n p before short).low, target.is, target.low, low))

-- ---- a segment is known
pub along_segment-requires-clause-reaches : goal.along_segment-requires-clause-reaches
along_segment-requires-clause-reaches c =
    let low = c.grains_of-t.ensures in
    reaches _ _ _ c.args.n c.args.from.place c.in-Some.s (known_some c.requires.known c.in-Some.is) (omega (arith, low.is, low.low))

pub returns-in-Some-clause-onward : goal.returns-in-Some-clause-onward
returns-in-Some-clause-onward c =
    place_on _ _ _ c.args.n c.args.from.place c.in-Some.s (known_some c.requires.known c.in-Some.is) _ c.along_segment.ensures

pub returns-in-Some-clause-low : goal.returns-in-Some-clause-low
returns-in-Some-clause-low c =
    low_on _ _ _ c.args.n c.args.from.place c.requires.before c.requires.short c.grains_of-t.ensures (returns-in-Some-clause-onward c)

pub returns-in-Some-clause-known : goal.returns-in-Some-clause-known
returns-in-Some-clause-known c =
    known_on _ _ _ c.args.n c.args.from.place c.in-Some.s (known_some c.requires.known c.in-Some.is) _ c.along_segment.ensures

-- ---- none is known
pub returns-then-p-gt0-clause-onward : goal.returns-then-p-gt0-clause-onward
returns-then-p-gt0-clause-onward c = ap (λ (r : Reached). r.place) c.arrived.ensures ∙ c.after_hold.ensures
    ∙ onward_hold _ _ _ c.args.n c.args.from.place c.if-p-gt0.true

pub returns-then-p-gt0-clause-low : goal.returns-then-p-gt0-clause-low
returns-then-p-gt0-clause-low c =
    low_on _ _ _ c.args.n c.args.from.place c.requires.before c.requires.short c.grains_of-t.ensures (returns-then-p-gt0-clause-onward c)

pub returns-then-p-t-clause-onward : goal.returns-then-p-t-clause-onward
returns-then-p-t-clause-onward c = ap (λ (r : Reached). r.place) c.arrived-then-p-t.ensures ∙ c.after_rest.ensures
    ∙ onward_rest _ _ _ c.args.n c.args.from.place c.if-p-gt0.false (c.if-p-t.true ∙ c.grains_of-t.ensures.is)

pub returns-then-p-t-clause-low : goal.returns-then-p-t-clause-low
returns-then-p-t-clause-low c =
    low_on _ _ _ c.args.n c.args.from.place c.requires.before c.requires.short c.grains_of-t.ensures (returns-then-p-t-clause-onward c)

-- the target lies ahead
lies_ahead : {h : Heading} {l : Lists} {t m : ℕ} {p : Place} {x : Segment} → p.left ≤ 0 → Short h t p.level → m ≡ t → (p.level ≡ m → ⊥) →
    x ≡ segment_from h l t p.level → SegmentAhead h l t p x
lies_ahead {h} {l} {t} {m} {p} none short e off is =
    record { no_hold = omega arith; past = short_past h t p.level short (λ z. off (z ∙ sym e)); is = is }

pub along_segment-requires-2-clause-reaches : goal.along_segment-requires-2-clause-reaches
along_segment-requires-2-clause-reaches c =
    let low = c.grains_of-t.ensures in
    reaches _ _ _ c.args.n c.args.from.place _
    (lies_ahead c.if-p-gt0.false c.requires.short low.is c.if-p-t.false c.segment_from-ahead.ensures) (omega (arith, low.is, low.low))

pub returns-clause-onward : goal.returns-clause-onward
returns-clause-onward c = place_on _ _ _ c.args.n c.args.from.place _
    (lies_ahead c.if-p-gt0.false c.requires.short c.grains_of-t.ensures.is c.if-p-t.false c.segment_from-ahead.ensures) _
    c.along_segment-2.ensures

pub returns-clause-low : goal.returns-clause-low
returns-clause-low c =
    low_on _ _ _ c.args.n c.args.from.place c.requires.before c.requires.short c.grains_of-t.ensures (returns-clause-onward c)

pub returns-clause-known : goal.returns-clause-known
returns-clause-known c = known_on _ _ _ c.args.n c.args.from.place _
    (lies_ahead c.if-p-gt0.false c.requires.short c.grains_of-t.ensures.is c.if-p-t.false c.segment_from-ahead.ensures) _
    c.along_segment-2.ensures
