use Rattle.std.proofs.Common.{◌≤◌, ◌+◌, sym, ◌∙◌, ap, length, arith, length-append, inl, inr}
use Rattle.std.proofs.lemmas.List.{drop_all}
use Rattle.validation.specs.Kept.{actors}
use Rattle.validation_groups.specs.Working.{no_numbered}
use Rattle.validation_groups.proofs.Laws.{begun_push, begun_all}
use Rattle.validation_kept.proofs.Late.{actors_skip, actors_keep, front_at, both_past}
use Rattle.validation_kept.proofs.acts_of.Goals as goal

pub loop-k-preserved-then-fate-eq0 : goal.loop-k-preserved-then-fate-eq0
loop-k-preserved-then-fate-eq0 c =
    let ks = c.args.kept.now.these in
    let r = c.loop-k.invariant in
    let s = c.in-Some.ensures.steps in
    let k = front_at ks r.place no_numbered c.in-Some.k.now _ (sym s.0 ∙ r.rest_is) in
    let f = front_at c.args.late.now r.place 0 c.in-Some.fate.now _ (sym s.1 ∙ r.fates_is) in
    rw (c.push.ensures, k.is) (record {
      place = r.place + 1;
      rest_is = k.left;
      fates_is = f.left;
      few = simp length-append (omega (arith, r.few));
      begun = λ end told.
          let acts = sym (told r.place k.here) ∙ (sym f.is ∙ c.if-fate-eq0.true) in
          begun_push _ (rw (actors_keep ks r.place k.here end acts) at (r.begun end told));
    })

pub loop-k-preserved : goal.loop-k-preserved
loop-k-preserved c =
    let ks = c.args.kept.now.these in
    let r = c.loop-k.invariant in
    let s = c.in-Some.ensures.steps in
    let k = front_at ks r.place no_numbered c.in-Some.k.now _ (sym s.0 ∙ r.rest_is) in
    let f = front_at c.args.late.now r.place 0 c.in-Some.fate.now _ (sym s.1 ∙ r.fates_is) in
    record {
      place = r.place + 1;
      rest_is = k.left;
      fates_is = f.left;
      few = omega (arith, r.few);
      begun = λ end told. rw (actors_skip ks r.place k.here end (λ q. c.if-fate-eq0.false (f.is ∙ (told r.place k.here ∙ q)))) at (r.begun end told);
    }

pub returns : goal.returns
unfolding actors
returns c =
    let r = c.loop-k.invariant in
    let few : length c.args.kept.now.these ≤ length c.args.late.now = omega (arith, c.as_slice.ensures.fits, ap length c.as_slice.ensures.value) in
    let past = both_past c.args.kept.now.these c.args.late.now r.place _ _ few r.rest_is r.fates_is (elim c.in-None.ensures.steps [
      | inl e ↦ inl e.1.0
      | inr e ↦ inr e.1.0
    ]) in
    λ end told. begun_all (rw (drop_all r.place c.args.kept.now.these past) at (r.begun end told))
