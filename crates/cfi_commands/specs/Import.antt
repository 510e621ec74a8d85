-- The faults of stubs, in words: the fault and its field.
use Rattle.std.specs.Prelude.{ℕ, List, ◌++◌, codes}
use Rattle.cfi_import.specs.declared.fault.StubFault.{StubFault}
use Rattle.cfi_import.specs.declared.fault.StubFault.TheVariants.{TooMany, Memory}
use Rattle.cfi_commands.specs.Elf.{limit_text}

-- want of memory is no refusal, and has a name for completeness alone
abbrev pub import_text : StubFault → List ℕ
import_text (TooMany limit) = codes "TooMany " ++ limit_text limit
import_text Memory = codes "Memory"
