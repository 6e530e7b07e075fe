use mathlib.Core.Path.{refl}
use borrow.Author.Rules.{rules}
use Rattle.level.specs.Level.{grains, from_kw}
use Rattle.level.proofs.Level.from_kw.Statement.{statement}
use Rattle.level.proofs.Level.from_kw.Tie as tie

returns : tie.Need-returns
unfolding from_kw grains
returns c = refl

pub from_kw_spec : {M : Type 1} → statement M
from_kw_spec = tie.close (tie.spec (λ c. search rules) returns)
