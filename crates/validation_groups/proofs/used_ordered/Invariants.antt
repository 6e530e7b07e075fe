use Rattle.std.specs.Slice.Iter.{chunk_by_rest}
use Rattle.validation_groups.proofs.Order.{RunsProgress}
use Rattle.validation_groups.proofs.used_ordered.Given as goal

abbrev pub invariant-loop-run : goal.invariant-loop-run
invariant-loop-run l =
    (goal.iterator-loop-run).can_next l.run-iterator × (goal.iterator-loop-run).is_finite l.run-iterator
    × RunsProgress l.end l.os (chunk_by_rest l.run-iterator) l.out
