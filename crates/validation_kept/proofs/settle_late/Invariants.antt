use Rattle.std.proofs.Common.{◌≡◌, ℕ, List, length, drop}
use Rattle.level.specs.Numbers.{instruction_places}
use Rattle.validation.specs.declared.Numbered.{Numbered}
use Rattle.validation.specs.Kept.{late_marks}
use Rattle.validation_kept.specs.Late.{settled, LateFates}
use Rattle.validation_kept.proofs.settle_late.Given as goal

-- with the marks still to come, in whatever day, the fates so settled come to the same; what is left of the kept ones and of their fates
pub record SettleProgress (ks : List Numbered) (late before : List ℕ) (rest : List Numbered) (fates out : List ℕ) : Type 0 where
  pub place : ℕ
  pub rest_is : rest ≡ drop place ks
  pub fates_is : fates ≡ drop place late
  pub long : length out ≡ instruction_places
  pub settles : (end : ℕ) → LateFates end ks late → settled out (late_marks end (drop place ks)) ≡ settled before (late_marks end ks)

abbrev pub invariant-loop-k : goal.invariant-loop-k
invariant-loop-k l = SettleProgress l.kept.these l.late l.fn.before l.k-iterator.a.rest.now l.k-iterator.b.rest.now l.out
