use denote.Param.Always.{mut_total}
use Rattle.std.proofs.Common.{rules, ◌≡◌, Some, get_or, option_to_list, ap, ◌∙◌}
use Rattle.std.proofs.lemmas.List.Sorted.{answers_always}
use Rattle.validation.specs.declared.Numbered.{Numbered}
use Rattle.validation.specs.Kept.{effective_of, group, used_of}
use Rattle.validation_groups.specs.Working.{no_numbered, time_at, same_time}
use Rattle.validation_groups.proofs.Laws.{begun_all, picked_none}
use Rattle.validation_groups.proofs.Order.{next_run, order_none, runs_all, runs_late, runs_alone, runs_more}
use Rattle.validation_groups.proofs.used_ordered.Goals as goal

pub loop-run-init : goal.loop-run-init
loop-run-init c = (
  mut_total _ _ (λ s a. tt),
  search rules,
  record {
    place = 0;
    rest_is = search rules;
    progress = rw c.none-out.ensures (order_none c.requires.1 c.args.end);
  },
)

pub returns-then-end-t : goal.returns-then-end-t
returns-then-end-t c =
    let r = c.loop-run.invariant.2 in
    let s = c.in-Some.ensures.steps in
    let cut = (s.2 same_time (answers_always _ _ _ (λ f a r g h. search rules))).1 in
    begun_all (runs_late c.requires.1 r (next_run c.args.os.now _ c.in-Some.run'.now _ r.place r.rest_is s.0 s.1 cut) c.if-end-t.true)

-- one alone is used as it is
pub loop-run-preserved-then-run-eq1 : goal.loop-run-preserved-then-run-eq1
loop-run-preserved-then-run-eq1 c =
    let r = c.loop-run.invariant.2 in
    let s = c.in-Some.ensures.steps in
    let cut = (s.2 same_time (answers_always _ _ _ (λ f a r g h. search rules))).1 in
    let run = c.in-Some.run'.now in
    let n = next_run c.args.os.now _ run _ r.place r.rest_is s.0 s.1 cut in
    let e = runs_alone c.requires.1 r n c.if-run-eq1.true in
    (search rules, search rules, rw c.push.ensures (runs_more c.requires.1 r n (Some (get_or run 0 no_numbered)) c.if-end-t.false e))

pub loop-run-preserved-in-Some-used_at : goal.loop-run-preserved-in-Some-used_at
loop-run-preserved-in-Some-used_at c =
    let os = c.args.os.now in
    let r = c.loop-run.invariant.2 in
    let s = c.in-Some.ensures.steps in
    let cut = (s.2 same_time (answers_always _ _ _ (λ f a r g h. search rules))).1 in
    let n = next_run os _ c.in-Some.run'.now _ r.place r.rest_is s.0 s.1 cut in
    let e : option_to_list c.used_at.result ≡ used_of (group os (time_at os r.place)) =
    c.used_at.ensures ∙ ap (λ (o : Numbered). used_of (group os (effective_of o))) n.first_is in (
      search rules,
      search rules,
      rw c.push-in-Some-used_at.ensures (rw c.in-Some-used_at.is at (runs_more c.requires.1 r n c.used_at.result c.if-end-t.false e)),
    )

pub loop-run-preserved : goal.loop-run-preserved
loop-run-preserved c =
    let os = c.args.os.now in
    let r = c.loop-run.invariant.2 in
    let s = c.in-Some.ensures.steps in
    let cut = (s.2 same_time (answers_always _ _ _ (λ f a r g h. search rules))).1 in
    let n = next_run os _ c.in-Some.run'.now _ r.place r.rest_is s.0 s.1 cut in
    let e : option_to_list c.used_at.result ≡ used_of (group os (time_at os r.place)) =
    c.used_at.ensures ∙ ap (λ (o : Numbered). used_of (group os (effective_of o))) n.first_is in
    (search rules, search rules, rw (picked_none c.used_at.result c.in_default.not-Some) at (runs_more c.requires.1 r n c.used_at.result c.if-end-t.false e))

pub returns : goal.returns
returns c = begun_all (runs_all c.requires.1 c.loop-run.invariant.2 c.in-None.ensures.steps.0)
