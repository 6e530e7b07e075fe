use Rattle.std.proofs.Common.{◌≤◌, ◌+◌, length, sym, ap, ◌∙◌, arith, inl, inr}
use Rattle.std.proofs.lemmas.List.{drop_all}
use Rattle.validation.specs.Kept.{late_marks}
use Rattle.validation_groups.specs.Working.{no_numbered}
use Rattle.validation_kept.specs.Late.{settled, settle_fate}
use Rattle.validation_kept.proofs.Late.{settled_more, front_at, both_past}
use Rattle.validation_kept.proofs.settle_late.Goals as goal

pub loop-k-preserved : goal.loop-k-preserved
loop-k-preserved c =
    let ks = c.args.kept.now.these in
    let late = c.args.late.now in
    let r = c.loop-k.invariant in
    let s = c.in-Some.ensures.steps in
    let k = front_at ks r.place no_numbered c.in-Some.k.now _ (sym s.0 ∙ r.rest_is) in
    let f = front_at late r.place 0 c.in-Some.fate.now _ (sym s.1 ∙ r.fates_is) in
    record {
      place = r.place + 1;
      rest_is = k.left;
      fates_is = f.left;
      long = c.settle_fate.ensures.long;
      settles = λ end told.
          settled_more ks r.place k.here end c.loop-k.out _ c.in-Some.fate.now (f.is ∙ told r.place k.here)
          (c.settle_fate.ensures.value ∙ ap (λ o. settle_fate c.loop-k.out o.number c.in-Some.fate.now) k.is) ∙ r.settles end told;
    }

pub returns : goal.returns
unfolding settled late_marks
returns c =
    let r = c.loop-k.invariant in
    let few : length c.args.kept.now.these ≤ length c.args.late.now = omega (arith, c.as_slice.ensures.fits, ap length c.as_slice.ensures.value) in
    let past = both_past c.args.kept.now.these c.args.late.now r.place _ _ few r.rest_is r.fates_is (elim c.in-None.ensures.steps [
      | inl e ↦ inl e.1.0
      | inr e ↦ inr e.1.0
    ]) in
    λ end told. rw (drop_all r.place c.args.kept.now.these past) at (r.settles end told)
