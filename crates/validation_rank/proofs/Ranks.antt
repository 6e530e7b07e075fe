-- The one that is used of a group, with its conditions as plain facts.
use mathlib.Core.Path.{◌≡◌, refl, sym, ap, ◌∙◌}
use mathlib.Core.List.{List, [], ◌∷◌}
use native.Mathlib.Omega.{arith}
use lib.ListN.{length, get_or}
use Rattle.std.specs.Prelude.{Option, Some, None, option_to_list}
use Rattle.std.specs.Option.{option_or}
use Rattle.records.specs.declared.Effect.TheVariants.{Sync, Desy}
use Rattle.validation.specs.declared.Numbered.{Numbered}
use Rattle.validation.specs.Kept.{or_else, present, merged, used_of}
use Rattle.validation_rank.specs.Best.{best_from}

-- the first picked, else the other
pub or_listed : (a b : Option Numbered) → option_to_list (option_or a b) ≡ or_else (option_to_list a) (option_to_list b)
or_listed (Some x) b = refl
or_listed None b = refl

merged_best : (o : Numbered) (g : List Numbered) → o ∷ [] ≡ best_from [] g → merged g o ≡ used_of g
unfolding used_of best_from
merged_best o [] e = absurd (omega (arith, ap length e))
merged_best o (x ∷ xs) e = ap (merged (x ∷ xs)) (ap (λ (l : List Numbered). get_or l 0 o) e)

none_best : (g : List Numbered) → [] ≡ best_from [] g → [] ≡ used_of g
unfolding used_of best_from
none_best [] e = refl
none_best (x ∷ xs) e = absurd (omega (arith, ap length e))

module _ (g : List Numbered) (best : Option Numbered) (p : option_to_list best ≡ best_from [] g) where
  pub used_best : (o u : Numbered) (sync desy carrier : Option Numbered) → best ≡ Some o → carrier ≡ option_or sync desy →
      option_to_list sync ≡ present Sync g → option_to_list desy ≡ present Desy g →
      ((g : List Numbered) → option_to_list carrier ≡ or_else (present Sync g) (present Desy g) → u ∷ [] ≡ merged g o) → u ∷ [] ≡ used_of g
  used_best o u sync desy carrier e f q r m =
      m g (ap option_to_list f ∙ (or_listed sync desy ∙ (λ j. or_else (q j) (r j)))) ∙ merged_best o g (sym (ap option_to_list e) ∙ p)

  pub used_none : (r : Option Numbered) → best ≡ None → r ≡ None → option_to_list r ≡ used_of g
  used_none r e f = ap option_to_list f ∙ none_best g (sym (ap option_to_list e) ∙ p)
