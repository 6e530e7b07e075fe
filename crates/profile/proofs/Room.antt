-- How much a day can hold: courses, pieces, fates, the closing state.
use mathlib.Core.Path.{◌≡◌, ap, ◌∙◌}
use mathlib.Core.List.{List, [], ◌∷◌, map}
use mathlib.Core.Bool.{Bool, true, false, ◌&&◌, ◌||◌, not}
use Prim.Native.Nat.{ℕ, zero, suc, ◌+◌, ◌*◌, ◌-◌, min, ◌≤◌}
use native.Mathlib.Nat.{le_refl}
use native.Mathlib.Omega.{arith}
use lib.Dec.{eqb, leb, ltb}
use lib.ListN.{length, get_or, length-append, length-map}
use Rattle.level.specs.Choice.{pick}
use Rattle.level.specs.Level.{grains}
use Rattle.level.specs.Lists.{All}
use Rattle.level.proofs.Lists.{all_append}
use Rattle.level.specs.Numbers.{half_hour}
use Rattle.records.specs.declared.Effect.{Effect}
use Rattle.records.specs.declared.Effect.TheVariants.{Trip, Mwof, Mxon, Sync, Mxof, Desy, Fail}
use Rattle.records.specs.declared.Column.{Column}
use Rattle.records.specs.declared.UnitData.{UnitData}
use Rattle.records.specs.declared.Instruction.{Instruction}
use Rattle.records.specs.Records.{unit_of, column_of}
use Rattle.course.specs.declared.Course.{Course}
use Rattle.course.specs.declared.Piece.{Piece}
use Rattle.course.specs.Lists.{rates_of, in_grains, place_of, no_column, column_for, lists_of}
use Rattle.course.specs.declared.Heading.{Heading}
use Rattle.course.specs.declared.Heading.TheVariants.{Rising, Falling}
use Rattle.course.specs.Course.{heading, Trajectory, trajectory_of, level_at}
use Rattle.course.specs.Pieces.{pieces_in}
use Rattle.course.proofs.Whole.{Shaped}
use Rattle.course.proofs.Between.{level_below}
use Rattle.course.proofs.Pieces.{Line, Traces, pieces_trace}
use Rattle.course.proofs.Count.{at_most_thirty_two_pieces}
use Rattle.validation.specs.declared.Numbered.{Numbered}
use Rattle.validation.specs.Kept.{numbered, validated, acting}
use Rattle.validation.proofs.Few.{numbered_length, acts_few, Digits, digits_append, marks_digits, fates_digits, fates_length}
use Rattle.profile.specs.declared.UnderWay.{UnderWay}
use Rattle.profile.specs.declared.Closing.{Closing}
use Rattle.profile.specs.declared.State.{State}
use Rattle.profile.specs.State.{held, watch, watch_next, by_rule}
use Rattle.profile.specs.declared.Setting.{Setting}
use Rattle.std.specs.Prelude.{Some}
use Rattle.std.proofs.lemmas.Option.{none-some}
use Rattle.profile.specs.declared.Taken.{Taken}
use Rattle.profile.specs.Bounds.{Low}
use Rattle.profile.specs.Taken.{entered, unit_or_zeros, start_or_zeros}
use Rattle.profile.specs.Effects.{outcome_by, heat_by, course_from, under_way, start_course, begun, goes_on, replaces, state_at, follow}
use Rattle.profile.specs.Profile.{Span, begin_of, spans_of, day_pieces, course_of, last_of, closing_by, found_by, found, paper, Chain}
use Rattle.profile.proofs.Following.{unless_sets, follow_ind}
use Rattle.profile.proofs.States.{rule_level}
use Rattle.profile.proofs.Most.{Below, WayBelow, SpanBelow, courses_below, start_below}

-- ---- the lists of a unit have as many breaks and triggers as the record has
pub record Sized (u : UnitData) : Type 0 where
  pub columns : (heat : ℕ) → (length (column_for u heat).breaks ≤ 2) × (length (column_for u heat).soaks ≤ 2)
  pub up : length u.up.breaks ≤ 4
  pub dwells : length u.dwells ≤ 3
  pub down : length u.down.breaks ≤ 4
  pub deload : length u.deload.breaks ≤ 1

pub shaped : (u : UnitData) → Sized u → (heat up down : ℕ) → Shaped (lists_of u heat up down)
unfolding lists_of rates_of
shaped u s heat up down = record {
  column = omega (arith, length-map (column_for u heat).breaks grains, (s.columns heat).0);
  soaks = omega (arith, length-map (column_for u heat).soaks in_grains, (s.columns heat).1);
  up = omega (arith, length-map u.up.breaks grains, s.up);
  dwells = omega (arith, length-map u.dwells in_grains, s.dwells);
  down = omega (arith, length-map u.down.breaks grains, s.down);
  deload = omega (arith, length-map u.deload.breaks grains, s.deload);
}

pub sized : (ns : List ℕ) → Sized (unit_of ns)
unfolding unit_of column_of column_for place_of
sized ns = record { columns = λ heat. go (eqb heat 1) (eqb heat 2); up = omega arith; dwells = omega arith; down = omega arith; deload = omega arith }
  where
    go : (a b : Bool) →
        let c : Column =
        get_or (column_of ns 5 ∷ column_of ns 15 ∷ column_of ns 25 ∷ []) (pick a 0 (pick b 1 2)) no_column in (length c.breaks ≤ 2) ×
        (length c.soaks ≤ 2)
    go true b = omega arith
    go false true = omega arith
    go false false = omega arith

-- ---- courses
module _ (look : Trajectory → ℕ → ℕ → State) (u : UnitData) where
  follow_few : (now : UnderWay) (os : List Numbered) → length (map course_of (follow look u now os).courses) ≤ suc (length os)
  follow_few = follow_ind look u (λ now os f. length (map course_of f.courses) ≤ suc (length os))
      (λ now. omega arith) (λ now o os f e few. unfold goes_on in omega (arith, few)) (λ now o os g f e few. unfold replaces in omega (arith, few))

  follow_digits : (now : UnderWay) (os : List Numbered) → Digits (follow look u now os).marks
  follow_digits = follow_ind look u (λ now os f. Digits f.marks)
      (λ now. tt) (λ now o os f e ds. unfold goes_on in (omega arith, ds)) (λ now o os g f e ds. unfold replaces in (omega arith, ds))

pub pieces_few : (u : UnitData) → Sized u → (end : ℕ) (cs : List Course) → length (day_pieces (spans_of u end cs)) ≤ 32 * length cs
unfolding spans_of day_pieces trajectory_of
pieces_few u z end [] = omega arith
pieces_few u z end (c ∷ cs) =
    simp length-append
    (omega (
      arith,
      at_most_thirty_two_pieces (trajectory_of u c) (shaped u z c.heat c.up c.down) c.begin (begin_of end cs),
      pieces_few u z
          end cs,
    ))

-- the figures of a piece: seconds of the day, levels at most m
pub record PieceBelow (end m : ℕ) (p : Piece) : Type 0 where
  pub from : p.from ≤ end
  pub to : p.to ≤ end
  pub enter : p.enter ≤ m
  pub leave : p.leave ≤ m

enters : (h : Heading) (f : ℕ → ℕ) (p : Piece) → Line h f p → p.enter ≡ f p.from
enters Rising f p l = omega (arith, l.along 0 (omega arith), ap f {x = p.from + 0} {y = p.from} (omega arith))
enters Falling f p l = omega (arith, l.along 0 (omega arith), ap f {x = p.from + 0} {y = p.from} (omega arith))

traces_up : (h : Heading) (f : ℕ → ℕ) (a n : ℕ) (ps : List Piece) → Traces h f a n ps → a ≤ n
traces_up h f a n [] t = omega arith
traces_up h f a n (p ∷ ps) t = omega (arith, t.1, traces_up h f p.to n ps t.3)

traces_below : (h : Heading) (f : ℕ → ℕ) (m end : ℕ) → ((k : ℕ) → f k ≤ m) → (a n : ℕ) → n ≤ end → (ps : List Piece) → Traces h f a n ps →
    All (PieceBelow end m) ps
traces_below h f m end b a n q [] t = tt
traces_below h f m end b a n q (p ∷ ps) t =
    let up = traces_up h f p.to n ps t.3 in (
      record {
        from = omega (arith, t.0, t.1);
        to = omega arith;
        enter = omega (arith, enters h f p t.2, b p.from);
        leave = omega (arith, t.2.ends, b p.to);
      },
      traces_below h f m end b p.to n q ps t.3,
    )

chain_up : (from to : ℕ) (ss : List Span) → Chain from ss to → from ≤ to
chain_up from to [] c = omega (arith, c)
chain_up from to (s ∷ ss) c = omega (arith, c.1, chain_up s.end to ss c.2)

pub pieces_below : (m from to end : ℕ) → to ≤ end → (ss : List Span) → Chain from ss to → All (SpanBelow m) ss → All (PieceBelow end m) (day_pieces ss)
unfolding day_pieces
pieces_below m from to end e [] c b = tt
pieces_below m from to end e (s ∷ ss) c b =
    all_append (PieceBelow end m) (pieces_in s.trajectory s.begin s.end) (day_pieces ss)
    (traces_below (heading s.trajectory) (λ k. level_at s.trajectory (k - s.begin)) m end
    (λ k. level_below s.trajectory m (k - s.begin) b.0.0 b.0.1)
    s.begin s.end (omega (arith, chain_up s.end to ss c.2)) (pieces_in s.trajectory s.begin s.end)
    (pieces_trace s.trajectory s.begin s.end (omega (arith, c.0, c.1))))
    (pieces_below m s.end to end e ss c.2 b.1)

-- ---- the closing state
watch_held : (c : Trajectory) (off k : ℕ) → (watch c off k).off ≤ 10000000
unfolding watch watch_next held
watch_held c off zero = go (eqb c.start 0)
  where
    go : (b : Bool) → pick b (min off 10000000) 0 ≤ 10000000
    go true = omega arith
    go false = omega arith
watch_held c off (suc k) = go (eqb (watch c off k).moment.level 0 && eqb (watch c off (suc k)).moment.level 0)
  where
    go : (b : Bool) → pick b (min (suc (watch c off k).off) 10000000) 0 ≤ 10000000
    go true = omega arith
    go false = omega arith

-- heat 1, 2 or 3
hot_below : (u : UnitData) (off : ℕ) → heat_by u off ≤ 3
unfolding heat_by
hot_below u off = go (leb off (60 * u.hot)) (leb off (60 * u.warm))
  where
    go : (a b : Bool) → pick a 1 (pick b 2 3) ≤ 3
    go true b = omega arith
    go false true = omega arith
    go false false = omega arith

abbrev HeatBelow : Setting → Type 0
HeatBelow g = g.heat ≤ 3

heat_below : (u : UnitData) (now : UnderWay) (i : Instruction) (s : State) (e : Effect) (g : Setting) → now.course.heat ≤ 3 →
    outcome_by u now i s e ≡ Some g → g.heat ≤ 3
unfolding outcome_by
heat_below u now i s Trip g h e = unless_sets HeatBelow (eqb s.level 0) _ g e h
heat_below u now i s Mwof g h e = unless_sets HeatBelow (eqb s.level 0 && eqb i.level 0) _ g e (go (eqb s.level 0))
  where
    go : (b : Bool) → pick b 3 now.course.heat ≤ 3
    go true = omega arith
    go false = h
heat_below u now i s Mxon g h e = unless_sets HeatBelow (eqb s.level 0 || now.maximised) _ g e h
heat_below u now i s Sync g h e = unless_sets HeatBelow (ltb 0 s.level) _ g e (hot_below u s.off)
heat_below u now i s Mxof g h e = unless_sets HeatBelow (not now.maximised) _ g e h
heat_below u now i s Desy g h e = unless_sets HeatBelow (eqb s.level 0) _ g e h
heat_below u now i s Fail g h e = absurd (none-some g e)

abbrev Warm : List Course → Type 0
Warm cs = All (λ (c : Course). c.heat ≤ 3) cs

follow_warm : (look : Trajectory → ℕ → ℕ → State) (u : UnitData) (now : UnderWay) (os : List Numbered) → now.course.heat ≤ 3 →
    Warm (map course_of (follow look u now os).courses)
follow_warm look u = follow_ind look u (λ now os f. now.course.heat ≤ 3 → Warm (map course_of f.courses))
    (λ now h. (h, tt))
    (λ now o os f e more h. unfold goes_on in more h)
    (λ now o os g f e more h. unfold replaces begun under_way course_from in
    (h, more (heat_below u now o.instruction (state_at look u now (acting o)) o.instruction.meaning.effect g h e)))

-- a fact of the first course and of all of some is one of the last
last_of_lem : (P : Course → Type 0) (c : UnderWay) (cs : List UnderWay) → P c.course → All P (map course_of cs) → P (last_of c cs).course
unfolding last_of
last_of_lem P c [] p a = p
last_of_lem P c (d ∷ ds) p a = last_of_lem P d ds a.0 a.1

pub record ClosingBelow (m : ℕ) (e : Closing) : Type 0 where
  pub level : e.level.grains ≤ grains m
  pub target : e.target ≤ m
  pub heat : e.heat ≤ 3
  pub off : e.off ≤ 10000000

-- a course and the state that it has come to
closing_below : (u : UnitData) (end m : ℕ) (c : UnderWay) → Below m c.course → c.course.heat ≤ 3 →
    ClosingBelow m (closing_by c (state_at by_rule u c end))
unfolding state_at by_rule trajectory_of
closing_below u end m c b w =
    let t : Trajectory = trajectory_of u c.course in
    let k : ℕ = end - c.course.begin in
    record {
      level = omega (arith, rule_level t c.off k, level_below t (grains m) k b.start (grown m c.course.target b.target));
      target = b.target;
      heat = w;
      off = watch_held t c.off k;
    }
  where
    grown : (m x : ℕ) → x ≤ m → grains x ≤ grains m
    grown m x h = unfold grains in omega arith

-- ---- the whole
module _ (n : ℕ) (t : Taken) where
  abbrev u : UnitData
  u = unit_or_zeros t

  abbrev is : List Instruction
  is = entered t

  abbrev first : UnderWay
  first = start_course u (start_or_zeros t)

  abbrev acts : List Numbered
  acts = (validated (half_hour * n) (numbered 1 is)).acts

  pub courses_few : length (found paper n t).courses ≤ suc (length (entered t))
  unfolding found found_by
  courses_few = omega (arith, follow_few by_rule u first acts, acts_few (half_hour * n) (numbered 1 is), numbered_length 1 is)

  pub fates_are_digits : All (λ (f : ℕ). f ≤ 8) (found paper n t).fates
  unfolding found found_by
  fates_are_digits =
      fates_digits (numbered 1 is) _ (numbered 1 is)
      (digits_append (follow by_rule u first acts).marks (validated (half_hour * n) (numbered 1 is)).marks (follow_digits by_rule u first acts)
      (marks_digits (half_hour * n) (numbered 1 is)))

  pub fates_many : length (found paper n t).fates ≡ length (entered t)
  unfolding found found_by
  fates_many = fates_length (numbered 1 is) _ (numbered 1 is) ∙ numbered_length 1 is

  first_heat : (start_or_zeros t).heat ≤ 3 → first.course.heat ≤ 3
  unfolding start_course under_way course_from
  first_heat h = h

  pub found_closing : (unit_or_zeros t).capacity ≤ (unit_or_zeros t).maximum → Low (unit_or_zeros t) (start_or_zeros t) →
      ClosingBelow (unit_or_zeros t).maximum (closing_by (found paper n t).last (found paper n t).end)
  unfolding found found_by
  found_closing fits low =
      let m : ℕ = u.maximum in
      let below : WayBelow m first = start_below u m fits (le_refl m) (start_or_zeros t) low.level low.target low.ordered in
      let cs : List UnderWay = (follow by_rule u first acts).courses in
      closing_below u (half_hour * n) m (last_of first cs)
      (last_of_lem (Below m) first cs below.course (courses_below u m fits (le_refl m) first acts below))
      (last_of_lem (λ (c : Course). c.heat ≤ 3) first cs (first_heat low.heat) (follow_warm by_rule u first acts (first_heat low.heat)))
