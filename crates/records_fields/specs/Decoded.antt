-- Working. The bodies of an opening and of an instruction, decoded: what they say, or the refusal of their fields.
use Rattle.std.specs.Prelude.{ℕ, List, Result}
use Rattle.records.specs.declared.Meaning.{Meaning}
use Rattle.records.specs.declared.Opening.{Opening}
use Rattle.records.specs.declared.Instruction.{Instruction}
use Rattle.records.specs.declared.Refusal.{Refusal}
use Rattle.records.specs.Answers.{answered}
use Rattle.records.specs.Records.{number_at, issue_of, opening_of, instruction_of}
use Rattle.records.specs.Fields.{opening_answer, instruction_answer}

abbrev pub opening_read : List ℕ → Result Opening Refusal
opening_read b = answered (opening_answer b) (opening_of b)

-- what a body says as an instruction whose code means this
abbrev pub instruction_with : Meaning → List ℕ → Instruction
instruction_with m b = record {
  effective = number_at b 0;
  issue = issue_of (number_at b 4);
  meaning = m;
  level = number_at b 9;
  up = number_at b 13;
  down = number_at b 17;
}

-- in a day of so many seconds
abbrev pub instruction_read : ℕ → List ℕ → Result Instruction Refusal
instruction_read end b = answered (instruction_answer end b) (instruction_of b)
