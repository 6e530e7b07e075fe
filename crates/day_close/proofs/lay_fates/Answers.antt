use Rattle.std.proofs.Common.{◌≡◌, length, ◌∙◌, inl, inr}
use Rattle.day_close.proofs.Laying.{last_laid, all_laid}
use Rattle.day_close.proofs.lay_fates.Goals as goal

pub loop-o-preserved : goal.loop-o-preserved
loop-o-preserved c =
    let s = c.in-Some.ensures.steps in
    rw c.lay_fate.ensures (last_laid _ _ _ _ s.0 s.1 c.loop-o.invariant)

pub returns : goal.returns
returns c =
    let v = c.loop-o.invariant in
    let none : length c.loop-o.o-iterator.a.iter.rest.now ≡ 0 = elim c.in-None.ensures.steps [
      | inl e ↦ e.1.0
      | inr e ↦ v.paired ∙ e.1.0
    ] in
    all_laid _ _ _ _ none v
