-- Believed: document 01, Units and records. What the bytes of a record say. A record is a byte of kind, then a body.
use Rattle.std.specs.Prelude.{ℕ, zero, suc, ◌+◌, ◌*◌, ◌%◌, List, [], ◌∷◌, ◌++◌, eqb, get_or}
use Rattle.level.specs.Choice.{pick}
use Rattle.records.specs.declared.Effect.TheVariants.{Trip}
use Rattle.records.specs.declared.Trigger.{Trigger}
use Rattle.records.specs.declared.Column.{Column}
use Rattle.records.specs.declared.UnitData.{UnitData}
use Rattle.records.specs.declared.Opening.{Opening}
use Rattle.records.specs.declared.Instruction.{Instruction}
use Rattle.records.specs.Codes.{meaning_of, meaning_in}

-- "a body whose length the kind fixes": the bytes of a record, with the byte of kind
abbrev pub unit_size : ℕ
unit_size = 249

abbrev pub opening_size : ℕ
opening_size = 17

abbrev pub instruction_size : ℕ
instruction_size = 22

abbrev pub close_size : ℕ
close_size = 1

-- of a record of the kind k
unfoldable pub size_of : ℕ → ℕ
size_of k = pick (eqb k 1) unit_size (pick (eqb k 2) opening_size (pick (eqb k 3) instruction_size close_size))

-- "numbers are big-endian, four bytes wide": the number whose four bytes begin at a place
abbrev pub number_at : List ℕ → ℕ → ℕ
number_at b at = get_or b at 0 * 16777216 + get_or b (at + 1) 0 * 65536 + get_or b (at + 2) 0 * 256 + get_or b (at + 3) 0

-- the first n numbers of the body b
unfoldable pub numbers : List ℕ → ℕ → List ℕ
numbers b zero = []
numbers b (suc n) = numbers b n ++ (number_at b (n * 4) ∷ [])

-- ---- kind 1, of its 62 numbers ns
module _ (ns : List ℕ) where
  -- the trigger whose level and minutes stand at these places
  unfoldable pub trigger_of : ℕ → ℕ → Trigger
  trigger_of at minutes = record { level = get_or ns at 0; minutes = get_or ns minutes 0 }

  -- "block load, rates 1-3, breaks 1-2, soak triggers 1-2, soak minutes 1-2", from a place on
  unfoldable pub column_of : ℕ → Column
  column_of at = record {
    block = get_or ns at 0;
    rates = get_or ns (at + 1) 0 ∷ get_or ns (at + 2) 0 ∷ get_or ns (at + 3) 0 ∷ [];
    breaks = get_or ns (at + 4) 0 ∷ get_or ns (at + 5) 0 ∷ [];
    soaks = trigger_of (at + 6) (at + 8) ∷ trigger_of (at + 7) (at + 9) ∷ [];
  }

  -- "capacity, short-term maximum, Minimum Stable Generation (MSG), hot and warm cooling boundary; for hot, warm, cold in turn ..;
  -- ramp-up rates 1-5, breaks 1-4; dwell triggers 1-3, dwell minutes 1-3; ramp-down rates 1-5, breaks 1-4; deload rates 1-2, break"
  unfoldable pub unit_of : UnitData
  unit_of = record {
    capacity = get_or ns 0 0;
    maximum = get_or ns 1 0;
    msg = get_or ns 2 0;
    hot = get_or ns 3 0;
    warm = get_or ns 4 0;
    columns = column_of 5 ∷ column_of 15 ∷ column_of 25 ∷ [];
    up = record {
      rates = get_or ns 35 0 ∷ get_or ns 36 0 ∷ get_or ns 37 0 ∷ get_or ns 38 0 ∷ get_or ns 39 0 ∷ [];
      breaks = get_or ns 40 0 ∷ get_or ns 41 0 ∷ get_or ns 42 0 ∷ get_or ns 43 0 ∷ [];
    };
    dwells = trigger_of 44 47 ∷ trigger_of 45 48 ∷ trigger_of 46 49 ∷ [];
    down = record {
      rates = get_or ns 50 0 ∷ get_or ns 51 0 ∷ get_or ns 52 0 ∷ get_or ns 53 0 ∷ get_or ns 54 0 ∷ [];
      breaks = get_or ns 55 0 ∷ get_or ns 56 0 ∷ get_or ns 57 0 ∷ get_or ns 58 0 ∷ [];
    };
    deload = record { rates = get_or ns 59 0 ∷ get_or ns 60 0 ∷ []; breaks = get_or ns 61 0 ∷ [] };
  }

-- ---- kind 2: "level in grains, target kW, heat, seconds off"
unfoldable pub opening_of : List ℕ → Opening
opening_of b = record { level = number_at b 0; target = number_at b 4; heat = number_at b 8; off = number_at b 12 }

-- ---- kind 3: "issue time, signed (two's complement)", as seconds above -604,800: what is out of range comes out above 1,209,600
unfoldable pub issue_of : ℕ → ℕ
issue_of n = (n + 604800) % 4294967296

-- "effective time; issue time; one byte of code; level kW; up rate and down rate"
unfoldable pub instruction_of : List ℕ → Instruction
instruction_of b = record {
  effective = number_at b 0;
  issue = issue_of (number_at b 4);
  meaning = meaning_in (meaning_of (get_or b 8 0));
  level = number_at b 9;
  up = number_at b 13;
  down = number_at b 17;
}

-- what a place for an instruction holds that none has taken: zeros
abbrev pub no_instruction : Instruction
no_instruction = record { effective = 0; issue = 0; meaning = record { lag = 0; rank = 0; effect = Trip }; level = 0; up = 0; down = 0 }
