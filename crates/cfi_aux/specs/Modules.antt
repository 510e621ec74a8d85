-- Which module an object is: its records are read with its types, both sections are used up, and the cells of imports
-- lie within its data.
use Rattle.std.specs.Prelude.{◌≡◌, ℕ, IsTrue, List, length, Option, Some, None, Result, Ok, Err}
use Rattle.elf_read.specs.declared.object.Object.{Object}
use Rattle.cfi_type_table.specs.declared.fault.TypeFault.{TypeFault}
use Rattle.cfi_type_table.specs.declared.fault.TypeFault.TheVariants as faults
use Rattle.cfi_type_table.specs.Node.{Node}
use Rattle.cfi_type_table.specs.Spelling as spelled
use Rattle.cfi_type_table.specs.Reading.{types_in}
use Rattle.cfi_aux.specs.declared.fault.AuxFault.{AuxFault}
use Rattle.cfi_aux.specs.declared.fault.AuxFault.TheVariants.{NoRecords, Types, Memory}
use Rattle.cfi_aux.specs.declared.modules.Module.{Module}
use Rattle.cfi_aux.specs.declared.records.Records.{Records}
use Rattle.cfi_aux.specs.declared.version.RecordVersion.{RecordVersion}
use Rattle.cfi_aux.specs.Records.{AreRecordsIn, spelling_in}
use Rattle.cfi_aux.specs.Cells.{have_cells}
use Rattle.cfi_values.specs.Then.{◌>>=◌}
use Rattle.cfi_aux.specs.Fault.{records_within}

-- the bytes spell the records, in a version of which they are records, and cells lie within `size` bytes of data
pub record SpellsWithin (types : List Node) (size : ℕ) (bytes : List ℕ) (r : Records) : Type 0 where
  pub version : RecordVersion
  pub good : AreRecordsIn version types r
  pub cells : IsTrue (have_cells size r.branches)
  pub spelled : bytes ≡ spelling_in version r

-- a type table and records, spelled by the two sections of the object, in a version that the second names, with cells
-- within the object's data
pub record AreSpelled (object : Object) (types : List Node) (records : Records) : Type 0 where
  pub table : spelled.AreTypes types
  pub types_spelled : object.types ≡ Some (spelled.spelling types)
  pub version : RecordVersion
  pub good : AreRecordsIn version types records
  pub cells : IsTrue (have_cells (length object.static_data) records.branches)
  pub records_spelled : object.records ≡ Some (spelling_in version records)

-- the object, with the type table and the records that its two sections spell
pub record IsModuleOf (object : Object) (m : Module) : Type 0 where
  pub object_kept : m.object ≡ object
  pub parts : AreSpelled object m.types m.records

-- a fault of a type table, as one of a module; want of memory is no fault of the table
abbrev pub fault_of : TypeFault → AuxFault
fault_of faults.Memory = Memory
fault_of (faults.BadNode k) = Types (faults.BadNode k)
fault_of (faults.BadIndex k) = Types (faults.BadIndex k)
fault_of faults.Short = Types faults.Short

-- what reading types gives, with its fault as one of records
abbrev pub as_types : Result (List Node) TypeFault → Result (List Node) AuxFault
as_types (Ok table) = Ok table
as_types (Err fault) = Err (fault_of fault)

-- what the two sections give, or what stands first: a section is missing, the types have a fault, the records have one
abbrev pub parts_by : (size : ℕ) → (types records : Option (List ℕ)) → Result (List Node × Records) AuxFault
parts_by size None records = Err NoRecords
parts_by size (Some types) None = Err NoRecords
parts_by size (Some types) (Some records) =
    as_types (types_in types) >>= λ table. records_within table (Some size) records >>= λ found. Ok (table, found)

-- the types and records of an object, or the first fault of these
abbrev pub parts_in : Object → Result (List Node × Records) AuxFault
parts_in object = parts_by (length object.static_data) object.types object.records
