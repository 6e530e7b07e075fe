-- Acting times strictly increase in the acting order, and all lie before the day's end.
use mathlib.Core.Path.{◌≡◌, refl, sym}
use mathlib.Core.List.{List, [], ◌∷◌}
use mathlib.Core.Bool.{Bool, true, false, true≢false}
use Prim.Native.Nat.{ℕ, ◌<◌}
use lib.Dec.{leb, eqb, nleb→lt}
use Rattle.level.specs.Choice.{pick}
use Rattle.level.specs.Lists.{All, some}
use Rattle.level.proofs.Lists.{by_bool, or_false}
use Rattle.validation.specs.declared.Numbered.{Numbered}
use Rattle.validation.specs.Kept.{acting, overtaken, late_fate, actors, kept_of, validated}

-- each acts before all after it
abbrev pub Rises : List Numbered → Type 0
Rises [] = Unit {0}
Rises (o ∷ os) = All (λ l. acting o < acting l) os × Rises os

not_overtaken : (o : Numbered) (ls : List Numbered) → overtaken o ls ≡ false → All (λ l. acting o < acting l) ls
unfolding overtaken some
not_overtaken o [] e = tt
not_overtaken o (l ∷ ls) e =
    let q = or_false (leb (acting l) (acting o)) (overtaken o ls) e in
    (nleb→lt (acting l) (acting o) (rw q.0 tt), not_overtaken o ls q.1)

acts : (end : ℕ) (o : Numbered) (later : List Numbered) → eqb (late_fate end o later) 0 ≡ true → (overtaken o later ≡ false) × (acting o < end)
unfolding late_fate
acts end o later = go (overtaken o later) (leb end (acting o)) refl refl
  where
    go : (a b : Bool) → overtaken o later ≡ a → leb end (acting o) ≡ b → eqb (pick a 6 (pick b 8 0)) 0 ≡ true →
        (overtaken o later ≡ false) × (acting o < end)
    go true b p q e = absurd (true≢false (sym e))
    go false true p q e = absurd (true≢false (sym e))
    go false false p q e = (p, nleb→lt end (acting o) (rw q tt))

module _ (end : ℕ) where
  actors_all : (P : Numbered → Type 0) (os : List Numbered) → All P os → All P (actors end os)
  unfolding actors
  actors_all P [] h = tt
  actors_all P (o ∷ os) h =
      let ih = actors_all P os h.1 in
      by_bool (eqb (late_fate end o os) 0) (λ e. rw e (h.0, ih)) (λ e. rw e ih)

  pub actors_before : (os : List Numbered) → All (λ o. acting o < end) (actors end os)
  unfolding actors
  actors_before [] = tt
  actors_before (o ∷ os) =
      let ih = actors_before os in
      by_bool (eqb (late_fate end o os) 0) (λ e. rw e ((acts end o os e).1, ih)) (λ e. rw e ih)

  pub actors_rise : (os : List Numbered) → Rises (actors end os)
  unfolding actors
  actors_rise [] = tt
  actors_rise (o ∷ os) =
      let ih = actors_rise os in
      by_bool (eqb (late_fate end o os) 0)
      (λ e. rw e (actors_all (λ l. acting o < acting l) os (not_overtaken o os (acts end o os e).0), ih)) (λ e. rw e ih)

  -- of any instructions at all
  pub acting_rise : (os : List Numbered) → Rises (validated end os).acts × All (λ o. acting o < end) (validated end os).acts
  unfolding validated kept_of
  acting_rise os = (actors_rise _, actors_before _)
