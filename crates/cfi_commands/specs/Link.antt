-- The faults of the linker, in words: the fault and its fields. A module by its number, from 0.
use Rattle.std.specs.Prelude.{ℕ, List, ◌++◌, codes}
use Rattle.std.specs.Fmt.{decimal}
use Rattle.cfi_link.specs.declared.fault.LinkFault.{LinkFault}
use Rattle.cfi_link.specs.declared.fault.LinkFault.TheVariants.{NoText, NotUnit, TooMany, Twice, BadReloc, Memory}
use Rattle.cfi_commands.specs.Elf.{limit_text}

-- want of memory is no refusal, and has a name for completeness alone
abbrev pub link_text : LinkFault → List ℕ
link_text NoText = codes "NoText"
link_text (NotUnit number offset) = codes "NotUnit " ++ decimal number ++ codes " " ++ decimal offset
link_text (TooMany limit) = codes "TooMany " ++ limit_text limit
link_text (Twice name) = codes "Twice " ++ name
link_text (BadReloc number reloc) = codes "BadReloc " ++ decimal number ++ codes " " ++ decimal reloc
link_text Memory = codes "Memory"
