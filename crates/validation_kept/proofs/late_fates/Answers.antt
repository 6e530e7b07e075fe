use Rattle.std.proofs.Common.{rules, ◌≡◌, ◌≤◌, length, refl, ap, arith, length-set, [], append-nil}
use Rattle.std.proofs.lemmas.List.{drop_all}
use Rattle.level.specs.Numbers.{instruction_places}
use Rattle.validation_kept.specs.Late.{earliest_acting}
use Rattle.validation_kept.proofs.Late.{late_back}
use Rattle.validation_kept.proofs.late_fates.Goals as goal

pub loop-i-init : goal.loop-i-init
unfolding earliest_acting
loop-i-init c =
    let ks = c.args.kept.now.these in
    let e : c.into_iter-i-iterator.result.iter.iter.rest.now ≡ ks = search rules in
    rw e (record {
      counted = search rules;
      done = [];
      parts = append-nil ks;
      from = record {
        within = omega arith;
        long = refl;
        earliest_is = rw (drop_all (length ks) ks (omega arith));
        fates_are = λ j p q. absurd (omega arith);
      };
    })

pub loop-i-preserved : goal.loop-i-preserved
loop-i-preserved c =
    let s = c.in-Some.ensures.steps in
    let few : length c.args.kept.now.these ≤ instruction_places = omega (arith, c.as_slice.ensures.fits, ap length c.as_slice.ensures.value) in
    late_back c.in-Some.k.now s.0 s.1.0 few c.acting-own.ensures c.late_fate.ensures c.min-earliest.ensures
    (simp length-set (omega (arith, c.loop-i.invariant.from.long))) (search rules) c.loop-i.invariant
