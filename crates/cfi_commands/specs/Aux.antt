-- Why an object is no module, in words: the layer, the fault, and the number of the node or record.
use Rattle.std.specs.Prelude.{ℕ, List, ◌++◌, codes}
use Rattle.std.specs.Fmt.{decimal}
use Rattle.cfi_type_table.specs.declared.fault.TypeFault.{TypeFault}
use Rattle.cfi_type_table.specs.declared.fault.TypeFault.TheVariants as types
use Rattle.cfi_aux.specs.declared.fault.AuxFault.{AuxFault}
use Rattle.cfi_aux.specs.declared.fault.AuxFault.TheVariants.{NoRecords, Types, Version, Short, BadRecord, Memory}

-- want of memory is no refusal, and has a name for completeness alone
abbrev pub types_text : TypeFault → List ℕ
types_text (types.BadNode node) = codes "BadNode " ++ decimal node
types_text (types.BadIndex node) = codes "BadIndex " ++ decimal node
types_text types.Short = codes "Short"
types_text types.Memory = codes "Memory"

-- the words of each fault of records
abbrev pub aux_text : AuxFault → List ℕ
aux_text NoRecords = codes "aux NoRecords"
aux_text (Types fault) = codes "types " ++ types_text fault
aux_text Version = codes "aux Version"
aux_text Short = codes "aux Short"
aux_text (BadRecord at) = codes "aux BadRecord " ++ decimal at
aux_text Memory = codes "aux Memory"
