use Rattle.std.proofs.lemmas.List.Sorted.{non_decreasing_from_is_sorted}
use Rattle.records_unit.proofs.Laws.{falls_is}
use Rattle.records_unit.proofs.breaks_fall.Goals as goal

pub returns : goal.returns
returns c = falls_is c.is_sorted.result _ (non_decreasing_from_is_sorted _ _ c.is_sorted.ensures.cases)
