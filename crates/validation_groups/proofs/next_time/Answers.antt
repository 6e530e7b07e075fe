use Rattle.std.proofs.Common.{unwrap_or, sym, ap, ◌∙◌, rules, tests}
use Rattle.std.proofs.lemmas.Iterator.{YieldsList-from_slice, YieldsList-from_map}
use Rattle.std.proofs.lemmas.Iterator.Consumers.{YieldsList-at, YieldsList-from_filter, min_from_yields_List}
use Rattle.std.proofs.lemmas.Iterator.Adapters.{option_map_id}
use Rattle.validation.specs.Kept.{effective_of}
use Rattle.validation_groups.proofs.Laws.{within, next_is}
use Rattle.validation_groups.proofs.next_time.Goals as goal

pub returns : goal.returns
returns c =
    let os = c.args.os.now in
    c.unwrap_or.ensures
    ∙ (ap (λ o. unwrap_or o c.args.end) (sym (option_map_id _) ∙ min_from_yields_List c.filter.result _ c.min.ensures.ran
    (YieldsList-from_filter _ (within c.args.t c.args.end) (YieldsList-at c.filter.ensures.source
    (YieldsList-from_map _ effective_of (YieldsList-from_slice os (cc)) c.map.ensures.closure (λ x b q k. search (rules, tests))))
    c.filter.ensures.closure (λ x r q k. search (rules, tests))))
    ∙ next_is c.args.end c.args.t os)
