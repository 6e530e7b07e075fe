use Rattle.std.proofs.Common.{◌≡◌, Err, arith}
use Rattle.day_step.proofs.Laws.{instruction_refused, instruction_fits, instruction_taken}
use Rattle.day_step.proofs.take_instruction.Goals as goal

pub returns-in_err-instruction : goal.returns-in_err-instruction
returns-in_err-instruction c =
    let e : c.from_residual.result ≡ Err c.in_err-instruction.field-0.0 = grind arith in
    rw e (instruction_refused c.args.taken.now c.args.closed c.args.input.now _ (rw c.is_some.ensures at c.in_err-instruction.ensures))

-- an instruction that is taken is one of the first forty
pub offset_bounds-taken-taken : goal.offset_bounds-taken-taken
offset_bounds-taken-taken c =
    omega (arith, instruction_fits c.args.taken.now c.args.closed c.args.input.now _ (rw c.is_some.ensures at c.in_ok-instruction.ensures))

pub bounds-taken-taken : goal.bounds-taken-taken
bounds-taken-taken c =
    omega (arith, instruction_fits c.args.taken.now c.args.closed c.args.input.now _ (rw c.is_some.ensures at c.in_ok-instruction.ensures))

pub overflow_add-taken : goal.overflow_add-taken
overflow_add-taken c =
    omega (arith, instruction_fits c.args.taken.now c.args.closed c.args.input.now _ (rw c.is_some.ensures at c.in_ok-instruction.ensures))

pub returns : goal.returns
returns c = instruction_taken c.args.taken.now c.args.closed c.args.input.now _ (rw c.is_some.ensures at c.in_ok-instruction.ensures)
