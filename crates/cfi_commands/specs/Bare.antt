-- Why a file is no bare file, in words: the fault and its field.
use Rattle.std.specs.Prelude.{ℕ, List, ◌++◌, codes}
use Rattle.std.specs.Fmt.{decimal}
use Rattle.cfi_bare.specs.declared.fault.BareFault.{BareFault}
use Rattle.cfi_bare.specs.declared.fault.BareFault.TheVariants.{Length, Memory}

-- want of memory is no refusal, and has a name for completeness alone
abbrev pub bare_text : BareFault → List ℕ
bare_text (Length count) = codes "Length " ++ decimal count
bare_text Memory = codes "Memory"
