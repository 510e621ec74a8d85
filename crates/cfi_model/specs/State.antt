-- The policy machine's state between two units.
-- Words are numbers below 2 ^ 32; addresses and offsets are in bytes; registers go by their numbers.
use Rattle.std.specs.Prelude.{ℕ, ◌+◌, ◌%◌, ◌^◌, ◌==◌, if◌then◌else◌, ℤ, Option, None, List, [], slice_index, slice_set, replicate}
use Rattle.std.specs.Int.{w32, cast_unsigned}
use Rattle.cfi_unit.specs.declared.unit.TheConstants.{FREE_REGISTERS}
use Rattle.cfi_unit.specs.declared.fill.Fill.{Fill}
use Rattle.cfi_unit.specs.declared.log.Log.{Log}
use Rattle.cfi_unit.specs.declared.log.Stop.{Stop}
use Rattle.cfi_word.specs.declared.services.TheConstants.{ARGUMENT}
use Rattle.cfi_word.specs.declared.map.TheConstants.{STACK}
use Rattle.cfi_model.specs.Pages.{Memory, blank_memory, memory_filled}

-- the guest's number, x0 to x27, the address of the next unit, private data, what was put, the log, how many units and
-- instructions were run, and why the guest stopped
pub record State : Type 0 where
  pub number : ℕ
  pub regs : List ℕ
  pub pc : ℕ
  pub memory : Memory
  pub output : List ℕ
  pub log : List Log
  pub units : ℕ
  pub steps : ℕ
  pub stop : Option Stop

-- a guest at its start: x2 is past the end of private data, a0 its number
abbrev pub opened : (number entry : ℕ) → List Fill → State
opened number entry fills = record {
  number = number;
  regs = slice_set (slice_set (replicate FREE_REGISTERS 0) 2 STACK) ARGUMENT number;
  pc = entry;
  memory = memory_filled blank_memory fills;
  output = [];
  log = [];
  units = 0;
  steps = 0;
  stop = None;
}

-- what a register holds
abbrev pub register : State → ℕ → ℕ
register s k = slice_index s.regs k

-- the registers after a write; x0 stays 0
abbrev pub regs_with : List ℕ → (k value : ℕ) → List ℕ
regs_with regs k value = if k == 0 then regs else slice_set regs k value

-- the number that lies so far from another, in 32 bits
abbrev pub displaced : ℕ → ℤ → ℕ
displaced n off = (n + cast_unsigned w32 off) % 2 ^ 32

-- the address after so many bytes
abbrev pub after : (bytes pc : ℕ) → ℕ
after bytes pc = (pc + bytes) % 2 ^ 32
