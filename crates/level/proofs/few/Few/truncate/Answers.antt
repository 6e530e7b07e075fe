use Rattle.level.proofs.FewLists.{first_few_is}
use Rattle.level.proofs.few.Few.truncate.Goals as goal
use Rattle.std.proofs.Common.{arith}

pub returns : goal.returns
returns g c =
    let v = c.self.inside in
    first_few_is v.items v.count c.args.n (omega (arith, c.self.invariant.0, c.self.invariant.1)) c.min-self-inside.result
    c.min-self-inside.ensures c.args.self.now c.self.view_is
