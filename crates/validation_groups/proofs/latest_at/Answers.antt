use Rattle.std.proofs.Common.{unwrap_or, ap, ◌∙◌, eqb, rules, tests}
use Rattle.std.specs.List.{filter}
use Rattle.std.proofs.lemmas.Iterator.{YieldsList-from_slice, YieldsList-from_map}
use Rattle.std.proofs.lemmas.Iterator.Consumers.{YieldsList-at, YieldsList-from_filter, reduce_from_yields_List}
use Rattle.std.proofs.lemmas.List.Folds.{max_of_map}
use Rattle.validation.specs.declared.Numbered.{Numbered}
use Rattle.validation.specs.Kept.{effective_of}
use Rattle.validation_groups.specs.Working.{issue_time_of}
use Rattle.validation_groups.proofs.Laws.{latest_walk}
use Rattle.validation_groups.proofs.latest_at.Goals as goal

pub returns : goal.returns
returns c =
    let os = c.args.os.now in
    let t = c.args.t in
    c.unwrap_or.ensures
    ∙ (ap (λ o. unwrap_or o 0) (reduce_from_yields_List _ c.map.result _ c.max.ensures.ran
    (YieldsList-from_map _ issue_time_of (YieldsList-at c.map.ensures.source
    (YieldsList-from_filter _ (λ (o : Numbered). eqb (effective_of o) t) (YieldsList-from_slice os (cc)) c.filter.ensures.closure
    (λ x r q k. search (rules, tests)))) c.map.ensures.closure (λ x b q k. search (rules, tests))))
    ∙ (max_of_map issue_time_of (filter (λ (o : Numbered). eqb (effective_of o) t) os) ∙ latest_walk os t 0))
