-- The first refusal of several conditions: what an acceptance says of each of them.
use mathlib.Core.Path.{◌≡◌, refl, ap, sym}
use mathlib.Core.List.{List, [], ◌∷◌}
use mathlib.Core.Bool.{Bool, true, false, ◌||◌, not, true≢false}
use Rattle.level.specs.Lists.{All}
use Rattle.level.specs.Choice.{pick}
use Rattle.std.specs.Prelude.{Option, None, Some, Ok, Err}
use Rattle.std.specs.Option.{is_some}
use Rattle.records.specs.declared.Refusal.{Refusal}
use Rattle.records.specs.Answers.{Answer, number_of, accepted, refusing, answered, first_refusal}
use Rattle.day.specs.declared.Day.{Day}
use Rattle.day.specs.declared.Stepped.{Stepped}
use Rattle.day.specs.Step.{settle}

pub never : {P : Type 0} → false ≡ true → P
never e = absurd (true≢false (sym e))

pub is_accepted : (a : Answer) → accepted a ≡ true → a ≡ Ok tt
is_accepted (Ok _) e = refl
is_accepted (Err r) e = never e

-- each of several answers is an acceptance where the first refusal of them is none
pub all_accepted : (xs : List Answer) → first_refusal xs ≡ Ok tt → All (λ (a : Answer). a ≡ Ok tt) xs
all_accepted [] e = tt
all_accepted (Ok _ ∷ xs) e = (refl, all_accepted xs e)
all_accepted (Err r ∷ xs) e = never (ap accepted e)

-- a condition that does not hold
pub not_met : (c : Bool) (r : Refusal) → refusing c r ≡ Ok tt → c ≡ false
not_met true r e = never (ap accepted e)
not_met false r e = refl

pub met_not : (c : Bool) (r : Refusal) → refusing (not c) r ≡ Ok tt → c ≡ true
met_not true r e = refl
met_not false r e = never (ap accepted e)

-- ---- a value that a condition gives
pub some_or : {A : Type 0} (c : Bool) (x : A) (o : Option A) → is_some (pick c (Some x) o) ≡ (c || is_some o)
some_or true x o = refl
some_or false x o = refl

pub some_if : {A : Type 0} (c : Bool) (x : A) → is_some (pick c (Some x) None) ≡ c
some_if true x = refl
some_if false x = refl

-- ---- with a value
module _ {A : Type 0} (x : A) where
  pub number_same : (a : Answer) → number_of (answered a x) ≡ number_of a
  number_same (Ok _) = refl
  number_same (Err r) = refl

  pub accepted_same : (a : Answer) → accepted (answered a x) ≡ accepted a
  accepted_same (Ok _) = refl
  accepted_same (Err r) = refl

-- ---- a step, by its answer
pub settle_refused : (a : Answer) (d : Day) (x : Stepped) → accepted a ≡ false → record { answer = a; day = d; used = 0 } ≡ settle a d x
settle_refused a d x e = rw e
