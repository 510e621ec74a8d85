-- The fault of a source by its number.
use Rattle.std.specs.Prelude.{ℕ}
use Rattle.cfi_commands.specs.declared.fault.CommandFault.{CommandFault}
use Rattle.cfi_commands.specs.declared.fault.CommandFault.TheVariants.{File, Together, Memory}

-- the same fault, of the source of this number
abbrev pub fault_at : (number : ℕ) → CommandFault → CommandFault
fault_at number (File k refusal) = File number refusal
fault_at number (Together fault) = Together fault
fault_at number Memory = Memory
