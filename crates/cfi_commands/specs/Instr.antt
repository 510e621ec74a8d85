-- The faults of the instrumenter, in words: the fault and its offset in bytes, or its number.
use Rattle.std.specs.Prelude.{ℕ, List, ◌++◌, codes}
use Rattle.std.specs.Fmt.{decimal}
use Rattle.cfi_instr.specs.declared.fault.InstrFault.{InstrFault}
use Rattle.cfi_instr.specs.declared.fault.InstrFault.TheVariants.{Illegal, Reserved, Trap, BadLink, BadReloc, Function, Stray, NoKind, Switch, FallsThrough, TooLong, Memory}

-- want of memory is no refusal, and has a name for completeness alone
abbrev pub instr_text : InstrFault → List ℕ
instr_text (Illegal offset) = codes "Illegal " ++ decimal offset
instr_text (Reserved offset) = codes "Reserved " ++ decimal offset
instr_text (Trap offset) = codes "Trap " ++ decimal offset
instr_text (BadLink offset) = codes "BadLink " ++ decimal offset
instr_text (BadReloc reloc) = codes "BadReloc " ++ decimal reloc
instr_text (Function function) = codes "Function " ++ decimal function
instr_text (Stray offset) = codes "Stray " ++ decimal offset
instr_text (NoKind offset) = codes "NoKind " ++ decimal offset
instr_text (Switch branch) = codes "Switch " ++ decimal branch
instr_text (FallsThrough function) = codes "FallsThrough " ++ decimal function
instr_text TooLong = codes "TooLong"
instr_text Memory = codes "Memory"
