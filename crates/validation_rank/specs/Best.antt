-- Working. The highest ranked of a group, one after another.
use Rattle.std.specs.Prelude.{List, [], ◌∷◌}
use Rattle.validation.specs.declared.Numbered.{Numbered}
use Rattle.validation.specs.Kept.{highest}

-- the highest ranked of these, where it is known of those before them
unfoldable pub best_from : List Numbered → List Numbered → List Numbered
best_from [] [] = []
best_from [] (x ∷ xs) = highest x xs ∷ []
best_from (b ∷ bs) xs = highest b xs ∷ []
