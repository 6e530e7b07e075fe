-- The instructions that act, one after another: one step of `follow`, and induction over them. Nothing else goes by cases over an outcome.
use mathlib.Core.Path.{◌≡◌, refl, ap, subst}
use Prim.Native.Nat.{ℕ}
use mathlib.Core.List.{List, [], ◌∷◌}
use mathlib.Core.Bool.{Bool, true, false}
use Rattle.records.specs.declared.UnitData.{UnitData}
use Rattle.course.specs.Course.{Trajectory}
use Rattle.validation.specs.declared.Numbered.{Numbered}
use Rattle.validation.specs.Kept.{acting}
use Rattle.profile.specs.declared.UnderWay.{UnderWay}
use Rattle.profile.specs.declared.State.{State}
use Rattle.profile.specs.declared.Setting.{Setting}
use Rattle.std.specs.Prelude.{Some, None}
use Rattle.std.proofs.lemmas.Option.{none-some, same_Some}
use Rattle.profile.specs.Effects.{Outcome, unless, outcome, begun, Followed, goes_on, replaces, state_at, follow}

-- a fact of what would be set is a fact of what is
pub unless_sets : (P : Setting → Type 0) (b : Bool) (g h : Setting) → unless b g ≡ Some h → P g → P h
unless_sets P true g h e p = absurd (none-some h e)
unless_sets P false g h e p = subst P (same_Some g h e) p

module _ (look : Trajectory → ℕ → ℕ → State) (u : UnitData) where
  -- what the instruction o comes to with the course now under way
  abbrev pub comes_to : UnderWay → Numbered → Outcome
  comes_to now o = outcome u now o.instruction (state_at look u now (acting o))

  -- the course that it begins if it sets g
  abbrev pub new_course : UnderWay → Numbered → Setting → UnderWay
  new_course now o g = begun u o g (state_at look u now (acting o))

  -- ---- one step
  abbrev step_to : UnderWay → Numbered → List Numbered → Outcome → Followed
  step_to now o os x = elim x [
    | None ↦ goes_on o (follow look u now os)
    | Some g ↦ replaces now o (follow look u (new_course now o g) os)
  ]

  pub follow_on : (now : UnderWay) (o : Numbered) (os : List Numbered) → comes_to now o ≡ None →
      follow look u now (o ∷ os) ≡ goes_on o (follow look u now os)
  unfolding follow
  follow_on now o os e = ap (step_to now o os) e

  pub follow_new : (now : UnderWay) (o : Numbered) (os : List Numbered) (g : Setting) → comes_to now o ≡ Some g →
      follow look u now (o ∷ os) ≡ replaces now o (follow look u (new_course now o g) os)
  unfolding follow
  follow_new now o os g e = ap (step_to now o os) e

  -- ---- all of them: what holds of none, and goes over to one more, ignored or with effect, holds of what `follow` gives
  module _ (P : UnderWay → List Numbered → Followed → Type 0) (base : (now : UnderWay) → P now [] (record { marks = []; courses = now ∷ [] }))
      (on : (now : UnderWay) (o : Numbered) (os : List Numbered) (f : Followed) → comes_to now o ≡ None → P now os f → P now (o ∷ os) (goes_on o f))
      (new : (now : UnderWay) (o : Numbered) (os : List Numbered) (g : Setting) (f : Followed) → comes_to now o ≡ Some g → P (new_course now o g) os
      f → P now (o ∷ os) (replaces now o f)) where
    pub follow_ind : (now : UnderWay) (os : List Numbered) → P now os (follow look u now os)
    unfolding follow
    follow_ind now [] = base now
    follow_ind now (o ∷ os) = go (comes_to now o) refl (follow_ind now os) (λ g. follow_ind (new_course now o g) os)
      where
        go : (x : Outcome) → comes_to now o ≡ x → P now os (follow look u now os) →
            ((g : Setting) → P (new_course now o g) os (follow look u (new_course now o g) os)) →
            P now (o ∷ os) (step_to now o os x)
        go None e stays next = on now o os (follow look u now os) e stays
        go (Some g) e stays next = new now o os g (follow look u (new_course now o g) os) e (next g)
