-- Working. The laws of the two places for lines.
use Rattle.std.proofs.Common.{refl, arith, ◌∙◌, length-append}
use Rattle.lines.specs.Writing.{SinkLaws}
use Rattle.lines.specs.Filled.{counted_more, filled_none, filled_length, filled_more}
use Rattle.lines_kinds.specs.Sinks.{can_count, counts, can_keep, keeps}

pub measuring : SinkLaws can_count counts
measuring = record {
  none = λ s k h. record { count_is = omega arith; few = omega arith };
  more = λ s t u xs ys j k l h p q. counted_more h p q;
  first = λ s xs ys j l h r. omega arith;
  rest = λ s t xs ys j k l h r p. omega (arith, p.few);
}

pub keeping : SinkLaws can_keep keeps
keeping = record {
  none = λ s k h. record { same = refl; filled = filled_none (omega arith) };
  more = λ s t u xs ys j k l h p q. record { same = q.same ∙ p.same; filled = filled_more p.filled q.filled };
  first = λ s xs ys j l h r. omega (arith, length-append xs ys);
  rest = λ s t xs ys j k l h r p. omega (arith, length-append xs ys, p.filled.to_is, filled_length p.filled);
}
