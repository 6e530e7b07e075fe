use Rattle.std.proofs.Common.{◌≡◌, ℕ, true, false, not, eqb, rules, tests, ◌∙◌}
use Rattle.std.proofs.lemmas.Iterator.{first_from_Range}
use Rattle.profile.specs.Finding.{quantity_at}
use Rattle.listing_parts.proofs.Laws.{run_found, other_is}
use Rattle.listing_parts.proofs.run_end.Goals as goal

pub returns : goal.returns
returns c =
    let f = quantity_at c.args.sums.now in
    let other = λ (i : ℕ). other_is c.args.sums.now i c.args.twice c.args.kw c.requires.quantity in
    rw c.unwrap_or.ensures
    (run_found f c.args.kw c.args.from c.args.end c.find.result c.requires.ordered
    (first_from_Range _ _ _ _ (λ i. true ≡ not (eqb (f i) c.args.kw)) (λ i. false ≡ not (eqb (f i) c.args.kw)) c.find.ensures.ran
    (λ x q k. search (rules, tests) ∙ other x) (λ x q k. (search rules, search (rules, tests) ∙ other x))))
