use Rattle.std.proofs.Common.{◌≡◌, ℕ, ◌≤◌, List, length, drop}
use Rattle.level.specs.Few.{Few}
use Rattle.validation.specs.declared.Numbered.{Numbered}
use Rattle.validation.specs.Kept.{actors}
use Rattle.validation_groups.proofs.Laws.{Begun}
use Rattle.validation_kept.specs.Late.{LateFates}
use Rattle.validation_kept.proofs.acts_of.Given as goal

-- those up to a place that act are in; what is left of the kept ones and of their fates
pub record ActsProgress (ks : List Numbered) (late : List ℕ) (rest : List Numbered) (fates : List ℕ) (out : Few Numbered) : Type 0 where
  pub place : ℕ
  pub rest_is : rest ≡ drop place ks
  pub fates_is : fates ≡ drop place late
  pub few : length out.these ≤ place
  pub begun : (end : ℕ) → LateFates end ks late → Begun out (actors end (drop place ks)) (actors end ks)

abbrev pub invariant-loop-k : goal.invariant-loop-k
invariant-loop-k l = ActsProgress l.kept.these l.late l.k-iterator.a.rest.now l.k-iterator.b.rest.now l.out
