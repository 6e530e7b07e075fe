use Rattle.std.proofs.Common.{rules, ◌≡◌, [], None, ◌∙◌, arith}
use borrow.Author.Tests.{le-leb, lt-leb}
use Rattle.validation.specs.Kept.{effective_of, sync_within_hour}
use Rattle.validation_sequence.proofs.Stack.{skip_hour, hour_at}
use Rattle.validation_sequence.proofs.sync_within_hour.Goals as goal

pub returns-in_err-at : goal.returns-in_err-at
unfolding sync_within_hour
returns-in_err-at c =
    let e : c.from_residual.result ≡ None = search rules in
    rw e (skip_hour (effective_of c.args.o.now) c.args.kept.now [] c.in_err-at.ensures)

pub returns-then-own-sync : goal.returns-then-own-sync
returns-then-own-sync c =
    record {
      latest = c.in_ok-at.ensures;
      near = hour_at c.args.kept.now c.in_ok-at.at c.in_ok-at.ensures (effective_of c.args.o.now) ∙ le-leb _ _ (omega arith);
    }

pub returns-else-own-sync : goal.returns-else-own-sync
returns-else-own-sync c = hour_at c.args.kept.now c.in_ok-at.at c.in_ok-at.ensures (effective_of c.args.o.now) ∙ lt-leb _ _ (omega arith)
