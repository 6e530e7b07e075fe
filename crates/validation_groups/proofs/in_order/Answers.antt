use Rattle.std.proofs.Common.{rules}
use Rattle.std.proofs.lemmas.List.Sorted.{answers_always}
use Rattle.validation.specs.Kept.{effective_of}
use Rattle.validation_groups.proofs.Order.{sorted_is}
use Rattle.validation_groups.proofs.in_order.Goals as goal

pub returns : goal.returns
returns c =
    sorted_is c.args.os.now c.is_sorted_by_key.result
    (c.is_sorted_by_key.ensures.cases effective_of (answers_always _ _ _ (λ f a r g h. search rules)))
