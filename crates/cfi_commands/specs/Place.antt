-- The faults of placing, in words: the fault and its fields. A relocation by its number, from 0.
use Rattle.std.specs.Prelude.{ℕ, List, ◌++◌, codes}
use Rattle.std.specs.Fmt.{decimal}
use Rattle.rv_reloc.specs.declared.fault.RelocFault.{RelocFault}
use Rattle.rv_reloc.specs.declared.fault.RelocFault.TheVariants.{Range, NoPartner, Field}
use Rattle.cfi_place.specs.declared.fault.PlaceFault.{PlaceFault}
use Rattle.cfi_place.specs.declared.fault.PlaceFault.TheVariants.{Undefined, CodeFull, DataFull, Reloc, Memory}

-- the words of a fault of a relocation
abbrev pub reloc_text : RelocFault → List ℕ
reloc_text Range = codes "Range"
reloc_text NoPartner = codes "NoPartner"
reloc_text Field = codes "Field"

-- want of memory is no refusal, and has a name for completeness alone
abbrev pub place_text : PlaceFault → List ℕ
place_text (Undefined name) = codes "Undefined " ++ name
place_text CodeFull = codes "CodeFull"
place_text DataFull = codes "DataFull"
place_text (Reloc reloc fault) = codes "Reloc " ++ decimal reloc ++ codes " " ++ reloc_text fault
place_text Memory = codes "Memory"
