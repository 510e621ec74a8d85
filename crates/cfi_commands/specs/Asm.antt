-- The faults of a source, in words: the fault and its line.
use Rattle.std.specs.Prelude.{ℕ, List, ◌++◌, codes}
use Rattle.std.specs.Fmt.{decimal}
use Rattle.rv_asm.specs.declared.fault.AsmFault.{AsmFault}
use Rattle.rv_asm.specs.declared.fault.AsmFault.TheVariants.{Syntax, UnknownName, Twice, Range, Memory}

-- want of memory is no refusal, and has a name for completeness alone
abbrev pub asm_text : AsmFault → List ℕ
asm_text (Syntax line) = codes "Syntax " ++ decimal line
asm_text (UnknownName line) = codes "UnknownName " ++ decimal line
asm_text (Twice line) = codes "Twice " ++ decimal line
asm_text (Range line) = codes "Range " ++ decimal line
asm_text Memory = codes "Memory"
