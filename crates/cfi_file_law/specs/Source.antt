-- The module that a source says: its object, with the types and the records of its lines.
use Rattle.std.specs.Prelude.{◌≡◌, ℕ, ◌≤◌, Bool, List, length}
use Rattle.cfi_word.specs.declared.limits.TheConstants.{MAX_ENTRIES}
use Rattle.elf_read.specs.Lists.{IsFirstBreak, own_number}
use Rattle.elf_read.specs.declared.object.Object.{Object}
use Rattle.cfi_type_table.specs.Node.{Node}
use Rattle.cfi_aux.specs.Records.{kind_words}
use Rattle.cfi_aux.specs.declared.modules.Module.{Module}
use Rattle.cfi_aux.specs.declared.records.Kind.{Kind}
use Rattle.cfi_aux.specs.declared.records.Records.{Records}
use Rattle.rv_asm.specs.Made.{nodes_of, functions_of, branches_of}
use Rattle.rv_asm.specs.Placed.{lines_in}
use Rattle.rv_asm.specs.Symbols.{file_in}
use Rattle.rv_asm.specs.declared.file.File.{File}

-- what the lines of a source's text say
abbrev pub source_file : (text : List ℕ) → File
source_file text = file_in (lines_in text)

-- a line of it is one of records
abbrev pub has_records : (text : List ℕ) → Bool
has_records text = (source_file text).records

-- the types and the records of its lines
abbrev pub source_types : (text : List ℕ) → List Node
source_types text = nodes_of (lines_in text)

-- the records that its lines say
abbrev pub source_records : (text : List ℕ) → Records
source_records text = record {
  functions = functions_of (source_file text).kinds (lines_in text);
  branches = branches_of (source_file text) (lines_in text);
}

-- the module that these are with an object
pub record IsSourceModule (text : List ℕ) (object : Object) (m : Module) : Type 0 where
  pub object_is : m.object ≡ object
  pub types : m.types ≡ source_types text
  pub records : m.records ≡ source_records text

-- a branch has no more words than a record may: a switch may have more entries in a source
abbrev pub IsFew : Kind → Type 0
IsFew branch = length (kind_words branch) ≤ MAX_ENTRIES

-- the number of the first branch that has more
abbrev pub IsFirstLong : List Kind → (number : ℕ) → Type 0
IsFirstLong branches number = IsFirstBreak branches own_number (λ k branch. IsFew branch) number
