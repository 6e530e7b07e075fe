use Rattle.std.proofs.Common.{ap, Iter, ℕ, ◌≡◌, ◌∙◌, arith, take, drop, rules, tests}
use Rattle.std.proofs.lemmas.List.{take_all, length-drop}
use Rattle.std.proofs.lemmas.Iterator.{YieldsList-from_slice, YieldsList-from_zip}
use Rattle.std.proofs.lemmas.Iterator.Search.{any_from_yields_List}
use Rattle.profile_quantity.proofs.Above.{above, above_all}
use Rattle.profile_quantity.proofs.quantity_too_high.Goals as goal

pub returns : goal.returns
returns c =
    let next : c.zip.result.b.rest.now ≡ drop 1 c.args.sums =
    c.zip.ensures.second.0 ∙ take_all 48 (drop 1 c.args.sums) (omega (arith, length-drop 1 c.args.sums, c.well_formed)) in
    let here : c.zip.result.a.rest.now ≡ take c.args.halves c.args.sums = ap (λ (i : Iter ℕ). i.rest.now) c.zip.ensures.first ∙ c.iter.ensures.rest in
    any_from_yields_List (above c.args.u.maximum) c.any.new.self _ c.any.result c.any.ensures.ran
    (YieldsList-from_zip (YieldsList-from_slice _ here) (YieldsList-from_slice _ next)) (λ x b q k. (search rules, search (rules, tests)))
    ∙ above_all c.args.u.maximum c.args.sums c.args.halves (omega (arith, c.well_formed))
