use Rattle.std.proofs.Common.{◌≡◌, Ok, Err, sym, ap, ◌∙◌, arith}
use Rattle.records.specs.declared.Kind.{Kind}
use Rattle.records.specs.declared.Kind.TheVariants.{Unit, Opening, Instruction, Close}
use Rattle.day_step.specs.Taking.{kind_at}
use Rattle.day_step.proofs.Laws.{unit_step, opening_step, instruction_step, close_step, of_kind, no_kind_step}
use Rattle.day_step.proofs.take_record.Goals as goal

pub returns-in_err-kind_at : goal.returns-in_err-kind_at
returns-in_err-kind_at c =
    let e : c.from_residual.result ≡ Err c.in_err-kind_at.field-0.0 = grind arith in
    rw e (no_kind_step c.args.day.now c.args.input.now _ c.in_err-kind_at.ensures)

pub returns-in-Unit : goal.returns-in-Unit
returns-in-Unit c =
    let e : Ok Unit ≡ kind_at c.args.input.now = ap (λ (v : Kind). Ok v) (sym c.in-Unit.is) ∙ c.in_ok-kind_at.ensures in
    let k = of_kind c.args.day.now c.args.input.now Unit e in
    unit_step c.args.day.now c.args.input.now k.0 k.1 c.is_some-closed.ensures _ _ c.take_unit.ensures

pub returns-in-Opening : goal.returns-in-Opening
returns-in-Opening c =
    let e : Ok Opening ≡ kind_at c.args.input.now = ap (λ (v : Kind). Ok v) (sym c.in-Opening.is) ∙ c.in_ok-kind_at.ensures in
    let k = of_kind c.args.day.now c.args.input.now Opening e in
    opening_step c.args.day.now c.args.input.now k.0 k.1 c.is_some-closed.ensures _ _ c.take_opening.ensures

pub returns-in-Instruction : goal.returns-in-Instruction
returns-in-Instruction c =
    let e : Ok Instruction ≡ kind_at c.args.input.now = ap (λ (v : Kind). Ok v) (sym c.in-Instruction.is) ∙ c.in_ok-kind_at.ensures in
    let k = of_kind c.args.day.now c.args.input.now Instruction e in
    instruction_step c.args.day.now c.args.input.now k.0 k.1 c.is_some-closed.ensures _ _ c.take_instruction.ensures

pub returns-in-Close : goal.returns-in-Close
returns-in-Close c =
    let e : Ok Close ≡ kind_at c.args.input.now = ap (λ (v : Kind). Ok v) (sym c.in-Close.is) ∙ c.in_ok-kind_at.ensures in
    let k = of_kind c.args.day.now c.args.input.now Close e in
    c.take_close.ensures ∙ close_step c.args.day.now c.args.input.now k.0 k.1
