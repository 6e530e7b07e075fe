-- The hold at a level: below MSG the soaks of a rising course, from MSG on the dwells.
use Prim.Native.Nat.{ℕ, suc, ◌+◌, ◌*◌, ◌≤◌, ◌<◌}
use mathlib.Core.Path.{◌≡◌, refl, ap, sym, ◌∙◌}
use mathlib.Core.List.{List, [], ◌∷◌, ◌++◌, map}
use mathlib.Core.Bool.{Bool, true, false, ◌&&◌}
use native.Mathlib.Decide.{dec_le, ℕ_discrete}
use native.Mathlib.Omega.{arith}
use lib.Dec.{leb, ltb}
use native.Mathlib.Numerals.{add-one}
use lib.ListN.{length, get_or, drop, drop_of_length-le}
use lib.Seq.{drop-cons}
use borrow.Author.Tests.{lt-ltb, le-ltb, le-leb, lt-leb, eq-eqb, ne_eqb}
use Rattle.level.specs.Choice.{pick}
use Rattle.level.specs.Lists.{those}
use Rattle.level.specs.Level.{grains}
use Rattle.records.specs.declared.Trigger.{Trigger}
use Rattle.course.specs.Lists.{Lists, in_grains}
use Rattle.course.specs.declared.Heading.{Heading}
use Rattle.course.specs.declared.Heading.TheVariants.{Rising, Falling}
use Rattle.course.specs.Course.{counting, triggers, holding, hold_at}

and_false : (a b : Bool) → b ≡ false → (a && b) ≡ false
and_false true b e = e
and_false false b e = refl

module _ (w : ℕ) where
  at_level : (g : Trigger) (gs : List Trigger) → g.level ≡ w → holding w (g ∷ gs) ≡ g.minutes * 60 + holding w gs
  unfolding holding
  at_level g gs e = simp (eq-eqb g.level w e)

  off_level : (g : Trigger) (gs : List Trigger) → (g.level ≡ w → ⊥) → holding w (g ∷ gs) ≡ holding w gs
  unfolding holding
  off_level g gs e = simp (ne_eqb g.level w e) (omega arith)

  none : holding w [] ≡ 0
  unfolding holding
  none = refl

  -- a single trigger (kW)
  pub held_at : (g : Trigger) → grains g.level ≡ w → holding w (in_grains g ∷ []) ≡ g.minutes * 60
  unfolding in_grains
  held_at g e = omega (arith, none, at_level (in_grains g) [] e)

  pub held_off : (g : Trigger) → (grains g.level ≡ w → ⊥) → holding w (in_grains g ∷ []) ≡ 0
  unfolding in_grains
  held_off g e = omega (arith, none, off_level (in_grains g) [] e)

  holding_cons : (g : Trigger) (gs : List Trigger) → holding w (g ∷ gs) ≡ holding w (g ∷ []) + holding w gs
  holding_cons g gs = elim (ℕ_discrete g.level w) [
    | yes e ↦ omega (arith, none, at_level g gs e, at_level g [] e)
    | no e ↦ omega (arith, none, off_level g gs e, off_level g [] e)
  ]

  -- a loop over the triggers of a list has come to the place i, with so many seconds so far
  module _ (gs : List Trigger) (i s : ℕ) where
    abbrev left : ℕ → ℕ
    left k = holding w (map in_grains (drop k gs))

    pub held_more : (d : Trigger) (m : ℕ) → i < length gs → m ≡ holding w (in_grains (get_or gs i d) ∷ []) →
        s + left i ≡ left 0 → s + m + left (i + 1) ≡ left 0
    held_more d m lt e so = omega (
      arith,
      so,
      e,
      ap (λ (hs : List Trigger). holding w (map in_grains hs)) (drop-cons gs i d lt),
      holding_cons (in_grains (get_or gs i d)) (map in_grains (drop (suc i) gs)),
      ap left (add-one i),
    )

    pub held_all : length gs ≤ i → s + left i ≡ left 0 → s ≡ left 0
    held_all le so = omega (arith, so, none, ap (λ (hs : List Trigger). holding w (map in_grains hs)) (drop_of_length-le gs {i = i} le))

  holding_append : (gs hs : List Trigger) → holding w (gs ++ hs) ≡ holding w gs + holding w hs
  holding_append [] hs = omega (arith, none)
  holding_append (g ∷ gs) hs = omega (arith, holding_cons g (gs ++ hs), holding_cons g gs, holding_append gs hs)

  -- of the triggers that count, all or none are at w
  module _ (f : ℕ → Bool) where
    kept : f w ≡ true → (g : Trigger) (b : Bool) → (ltb 0 g.minutes && f g.level) ≡ b → (gs hs : List Trigger) → holding w hs ≡ holding w gs →
        holding w (pick b (g ∷ hs) hs) ≡ holding w (g ∷ gs)
    kept t g true e gs hs ih = omega (arith, holding_cons g hs, holding_cons g gs)
    kept t g false e gs hs ih = elim (ℕ_discrete g.level w) [
      | yes q ↦ elim (dec_le 1 g.minutes) [
        | yes some ↦ let z : true ≡ false = sym (simp (lt-ltb 0 g.minutes some, ap f q ∙ t)) ∙ e in cc
        | no some ↦ omega (arith, at_level g gs q)
      ]
      | no q ↦ omega (arith, off_level g gs q)
    ]

    dropped : f w ≡ false → (g : Trigger) (b : Bool) → (ltb 0 g.minutes && f g.level) ≡ b → (hs : List Trigger) → holding w hs ≡ 0 →
        holding w (pick b (g ∷ hs) hs) ≡ 0
    dropped t g true e hs ih = elim (ℕ_discrete g.level w) [
      | yes q ↦ let z : false ≡ true = sym (and_false (ltb 0 g.minutes) (f g.level) (ap f q ∙ t)) ∙ e in cc
      | no q ↦ omega (arith, off_level g hs q)
    ]
    dropped t g false e hs ih = ih

    pub holding_all : f w ≡ true → (gs : List Trigger) → holding w (counting f gs) ≡ holding w gs
    unfolding counting those
    holding_all t [] = refl
    holding_all t (g ∷ gs) = kept t g (ltb 0 g.minutes && f g.level) refl gs (counting f gs) (holding_all t gs)

    pub holding_none : f w ≡ false → (gs : List Trigger) → holding w (counting f gs) ≡ 0
    unfolding counting those
    holding_none t [] = none
    holding_none t (g ∷ gs) = dropped t g (ltb 0 g.minutes && f g.level) refl (counting f gs) (holding_none t gs)

module _ (l : Lists) (t w : ℕ) where
  pub hold_target : (h : Heading) → w ≡ t → hold_at h l t w ≡ 0
  unfolding hold_at
  hold_target h e = simp (eq-eqb w t e)

  module _ (short : w ≡ t → ⊥) where
    pub hold_dwell : (h : Heading) → l.msg ≤ w → hold_at h l t w ≡ holding w l.dwells
    unfolding hold_at triggers
    hold_dwell Rising p = simp (ne_eqb w t short) (omega (
      arith,
      holding_append w (counting (λ v. ltb v l.msg) l.soaks) (counting (λ v. leb l.msg v) l.dwells),
      holding_none w (λ v. ltb v l.msg) (le-ltb w l.msg p) l.soaks,
      holding_all w (λ v. leb l.msg v) (le-leb l.msg w p) l.dwells,
    ))
    hold_dwell Falling p = simp (ne_eqb w t short) (holding_all w (λ v. leb l.msg v) (le-leb l.msg w p) l.dwells)

    pub hold_soak : w < l.msg → hold_at Rising l t w ≡ holding w l.soaks
    unfolding hold_at triggers
    hold_soak p = simp (ne_eqb w t short) (omega (
      arith,
      holding_append w (counting (λ v. ltb v l.msg) l.soaks) (counting (λ v. leb l.msg v) l.dwells),
      holding_all w (λ v. ltb v l.msg) (lt-ltb w l.msg p) l.soaks,
      holding_none w (λ v. leb l.msg v) (lt-leb l.msg w p) l.dwells,
    ))

    pub hold_no_soak : w < l.msg → hold_at Falling l t w ≡ 0
    unfolding hold_at triggers
    hold_no_soak p = simp (ne_eqb w t short) (holding_none w (λ v. leb l.msg v) (lt-leb l.msg w p) l.dwells)
