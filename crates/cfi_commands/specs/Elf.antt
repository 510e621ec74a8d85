-- The faults of an object, in words: the fault and its fields, single spaces between them.
use Rattle.std.specs.Prelude.{ℕ, List, ◌++◌, codes}
use Rattle.std.specs.Fmt.{decimal}
use Rattle.elf_read.specs.declared.fault.ElfFault.{ElfFault}
use Rattle.elf_read.specs.declared.fault.ElfFault.TheVariants.{Short, NotElf32, NotRiscv, NotRelocatable, BadSection, BadSymbol, BadReloc, UnknownReloc, Common, TooMany, Memory}
use Rattle.elf_read.specs.declared.fault.Limit.{Limit}
use Rattle.elf_read.specs.declared.fault.Limit.TheVariants.{Sections, Symbols, Relocs, Words, Data, Types, Functions, Branches}

-- the words of each limit
abbrev pub limit_text : Limit → List ℕ
limit_text Sections = codes "Sections"
limit_text Symbols = codes "Symbols"
limit_text Relocs = codes "Relocs"
limit_text Words = codes "Words"
limit_text Data = codes "Data"
limit_text Types = codes "Types"
limit_text Functions = codes "Functions"
limit_text Branches = codes "Branches"

-- want of memory is no refusal, and has a name for completeness alone
abbrev pub elf_text : ElfFault → List ℕ
elf_text (Short offset) = codes "Short " ++ decimal offset
elf_text NotElf32 = codes "NotElf32"
elf_text NotRiscv = codes "NotRiscv"
elf_text NotRelocatable = codes "NotRelocatable"
elf_text (BadSection section) = codes "BadSection " ++ decimal section
elf_text (BadSymbol symbol) = codes "BadSymbol " ++ decimal symbol
elf_text (BadReloc reloc) = codes "BadReloc " ++ decimal reloc
elf_text (UnknownReloc reloc kind) = codes "UnknownReloc " ++ decimal reloc ++ codes " " ++ decimal kind
elf_text (Common symbol) = codes "Common " ++ decimal symbol
elf_text (TooMany limit) = codes "TooMany " ++ limit_text limit
elf_text Memory = codes "Memory"
