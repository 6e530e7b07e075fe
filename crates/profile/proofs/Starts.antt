-- Each course starts from the level recorded where the one before ends, or from 0 for a TRIP.
use mathlib.Core.Path.{◌≡◌, refl, ap, sym, ◌∙◌, subst}
use mathlib.Core.List.{List, [], ◌∷◌, map}
use mathlib.Core.Bool.{Bool, true, false, ◌&&◌, ◌||◌, not}
use Prim.Native.Nat.{ℕ, ◌*◌, ◌-◌, ◌<◌}
use native.Mathlib.Omega.{arith}
use lib.Dec.{ltb, eqb}
use borrow.Author.Tests.{eq-eqb, ne_eqb, lt-ltb, le-ltb}
use Rattle.level.specs.Choice.{pick}
use Rattle.level.specs.Level.{grains}
use Rattle.level.specs.Lists.{All, some}
use Rattle.level.specs.Numbers.{half_hour}
use Rattle.records.specs.declared.Effect.{Effect}
use Rattle.records.specs.declared.Effect.TheVariants.{Trip, Mwof, Mxon, Sync, Mxof, Desy, Fail}
use Rattle.records.specs.declared.UnitData.{UnitData}
use Rattle.records.specs.declared.Instruction.{Instruction}
use Rattle.records.specs.Codes.{same}
use Rattle.course.specs.declared.Course.{Course}
use Rattle.course.specs.Lists.{column_for}
use Rattle.course.specs.Course.{trajectory_of, level_at}
use Rattle.validation.specs.declared.Numbered.{Numbered}
use Rattle.validation.specs.Kept.{numbered, validated, effect_of, acting}
use Rattle.validation.proofs.Acting.{Rises, acting_rise}
use Rattle.profile.specs.declared.UnderWay.{UnderWay}
use Rattle.profile.specs.declared.State.{State}
use Rattle.profile.specs.declared.Setting.{Setting}
use Rattle.std.specs.Prelude.{Some}
use Rattle.std.proofs.lemmas.Option.{none-some}
use Rattle.profile.specs.declared.Start.{Start}
use Rattle.profile.specs.declared.Taken.{Taken}
use Rattle.profile.specs.State.{by_rule}
use Rattle.profile.specs.Taken.{entered, unit_or_zeros, start_or_zeros}
use Rattle.profile.specs.Effects.{outcome_by, stepped, under_way, course_from, begun, Followed, goes_on, replaces, start_course, state_at, follow}
use Rattle.profile.specs.Profile.{course_of, found_by, found, paper}
use Rattle.profile.specs.Starts.{trip_among, StartsFrom, StartsAfter, CoursesStart}
use Rattle.profile.proofs.Following.{unless_sets, comes_to, new_course, follow_ind}
use Rattle.profile.proofs.States.{rule_level}

-- ---- what an instruction sets out from
module _ (u : UnitData) (now : UnderWay) (i : Instruction) (s : State) (g : Setting) where
  abbrev From : Effect → Setting → Type 0
  From e x = x.from ≡ pick (same e Trip) 0 s.level

  sets_out : (e : Effect) → outcome_by u now i s e ≡ Some g → From e g
  unfolding outcome_by
  sets_out Trip h = unless_sets (From Trip) (eqb s.level 0) _ g h refl
  sets_out Mwof h = unless_sets (From Mwof) (eqb s.level 0 && eqb i.level 0) _ g h refl
  sets_out Mxon h = unless_sets (From Mxon) (eqb s.level 0 || now.maximised) _ g h refl
  sets_out Sync h = unless_sets (From Sync) (ltb 0 s.level) _ g h refl
  sets_out Mxof h = unless_sets (From Mxof) (not now.maximised) _ g h refl
  sets_out Desy h = unless_sets (From Desy) (eqb s.level 0) _ g h refl
  sets_out Fail h = absurd (none-some g h)

-- ---- the step from 0
starts_from : (u : UnitData) (v : ℕ) (c : Course) → c.start.grains ≡ stepped (grains (column_for u c.heat).block) (grains c.target) v →
    StartsFrom u v c
unfolding stepped grains
starts_from u v c e = record {
  there = λ some. e ∙ simp (ne_eqb v 0 (λ z. omega (arith, z)));
  step = λ z some. e ∙ simp (eq-eqb v 0 z, lt-ltb 0 (60 * c.target) (omega arith));
  still = λ z none. e ∙ simp (eq-eqb v 0 z, le-ltb 0 (60 * c.target) (omega arith)) z;
}

-- ---- one at a second: whether it is a TRIP
trip_none : (t : ℕ) (os : List Numbered) → All (λ o. t < acting o) os → trip_among os t ≡ false
unfolding trip_among some
trip_none t [] a = refl
trip_none t (o ∷ os) a = simp (ne_eqb (acting o) t (λ e. omega (arith, e, a.0)), trip_none t os a.1)

module _ (all : List Numbered) where
  -- whether a TRIP acts where one of them does is whether that one is a TRIP
  abbrev Told : Numbered → Type 0
  Told o = trip_among all (acting o) ≡ same (effect_of o) Trip

told_later : (o : Numbered) (os ls : List Numbered) → All (λ l. acting o < acting l) ls → All (Told os) ls → All (Told (o ∷ os)) ls
unfolding trip_among some
told_later o os [] a h = tt
told_later o os (l ∷ ls) a h = (
  ap (λ (b : Bool). (b && same (effect_of o) Trip) || trip_among os (acting l)) (ne_eqb (acting o) (acting l) (λ e. omega (arith, e, a.0))) ∙ h.0,
  told_later o os ls a.1 h.1,
)

told : (os : List Numbered) → Rises os → All (Told os) os
unfolding trip_among some
told [] r = tt
told (o ∷ os) r = (
  ap (λ (b : Bool). (b && same (effect_of o) Trip) || trip_among os (acting o)) (eq-eqb (acting o) (acting o) refl)
      ∙ (ap (λ (b : Bool). same (effect_of o) Trip || b) (trip_none (acting o) os r.0) ∙ or_none (same (effect_of o) Trip)),
  told_later o os os r.0 (told os r.1),
)
  where
    or_none : (b : Bool) → (b || false) ≡ b
    or_none true = refl
    or_none false = refl

-- ---- all that act
module _ (u : UnitData) (all : List Numbered) where
  -- the first of some courses is c, and those after it start where they should
  abbrev Headed : Course → List UnderWay → Type 0
  Headed c [] = ⊥
  Headed c (x ∷ xs) = (x.course ≡ c) × StartsAfter u all c (map course_of xs)

  -- the course that o begins starts from the level just before, or from 0
  begins : (now : UnderWay) (o : Numbered) (g : Setting) → comes_to by_rule u now o ≡ Some g → Told all o →
      let c : Course = (new_course by_rule u now o g).course in
      StartsFrom u (pick (trip_among all c.begin) 0 (level_at (trajectory_of u now.course) (c.begin - now.course.begin))) c
  unfolding begun under_way course_from state_at
  begins now o g e t =
      starts_from u _ (new_course by_rule u now o g).course
      (ap (stepped (grains (column_for u g.heat).block) (grains g.target))
      (sets_out u now o.instruction (state_at by_rule u now (acting o)) g (effect_of o) e
      ∙ (ap (λ (b : Bool). pick b 0 (state_at by_rule u now (acting o)).level) (sym t)
      ∙ ap (pick (trip_among all (acting o)) 0) (rule_level (trajectory_of u now.course) now.off (acting o - now.course.begin)))))

  next : (now : UnderWay) (c : Course) (xs : List UnderWay) →
      StartsFrom u (pick (trip_among all c.begin) 0 (level_at (trajectory_of u now.course) (c.begin - now.course.begin))) c →
      Headed c xs → StartsAfter u all now.course (map course_of xs)
  next now c [] f h = absurd h
  next now c (x ∷ xs) f h = subst (λ (d : Course).
      StartsFrom u (pick (trip_among all d.begin) 0 (level_at (trajectory_of u now.course) (d.begin - now.course.begin))) d
      × StartsAfter u all d (map course_of xs)) (sym h.0) (f, h.1)

  abbrev Started : UnderWay → List Numbered → Followed → Type 0
  Started now os f = All (Told all) os → Headed now.course f.courses

  headed : (now : UnderWay) (os : List Numbered) → Started now os (follow by_rule u now os)
  headed = follow_ind by_rule u Started
      (λ now a. (refl, tt))
      (λ now o os f e h a. unfold goes_on in h a.1)
      (λ now o os g f e h a. unfold replaces in (refl, next now (new_course by_rule u now o g).course f.courses (begins now o g e a.0) (h a.1)))

  -- the first course is that of the start
  first_starts : (s : Start) (xs : List UnderWay) → Headed (start_course u s).course xs → CoursesStart u all s.level (map course_of xs)
  unfolding start_course under_way course_from
  first_starts s [] h = absurd h
  first_starts s (x ∷ xs) h =
      subst (λ (c : Course). StartsFrom u s.level c × StartsAfter u all c (map course_of xs)) (sym h.0)
      (starts_from u s.level (start_course u s).course refl, h.1)

-- what close finds: the first course starts from the level of the start, each other where the one before ends or from 0
pub courses_start : (n : ℕ) (t : Taken) →
    CoursesStart (unit_or_zeros t) (validated (half_hour * n) (numbered 1 (entered t))).acts (start_or_zeros t).level (found paper n t).courses
unfolding found found_by
courses_start n t =
    let os : List Numbered = (validated (half_hour * n) (numbered 1 (entered t))).acts in
    let first : UnderWay = start_course (unit_or_zeros t) (start_or_zeros t) in
    first_starts (unit_or_zeros t) os (start_or_zeros t) (follow by_rule (unit_or_zeros t) first os).courses
    (headed (unit_or_zeros t) os first os (told os (acting_rise (half_hour * n) (numbered 1 (entered t))).0))
