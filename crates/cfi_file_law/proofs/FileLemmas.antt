-- Modules that fit and whose two sections spell their types and records are what their files are read as.
use Rattle.std.proofs.Common.{ℕ, List, refl, subst}
use Rattle.elf_read.specs.Fault.{IsObject}
use Rattle.elf_read.specs.declared.object.Object.{Object}
use Rattle.elf_write.specs.File.{bytes_of}
use Rattle.elf_write.specs.Whole.{IsWhole}
use Rattle.cfi_aux.specs.Modules.{AreSpelled, IsModuleOf}
use Rattle.cfi_aux.specs.declared.modules.Module.{Module}
use Rattle.cfi_commands.specs.Reading.{IsModuleFile}
use Rattle.cfi_made_law.specs.Order.{object_of_file, module_of_file}
use Rattle.cfi_made_law.proofs.ReadLemmas.{IsFit}
use Rattle.cfi_made_law.proofs.OrderLemmas.{bytes-same}
use Rattle.cfi_made_law.proofs.WholeLemmas.{AreFew, whole}
use Rattle.cfi_made_law.proofs.SpellingLemmas.{spelled-few}

abbrev pub ReadsBack : Type 0
ReadsBack = (object : Object) → IsWhole object → IsObject (bytes_of object) object

pub object-file : ReadsBack → (object : Object) → IsFit object → AreFew object
    → IsObject (bytes_of object) (object_of_file object)
object-file reads object fit few =
    subst (λ (bytes : List ℕ). IsObject bytes (object_of_file object)) (bytes-same object)
    (reads (object_of_file object) (whole object fit few))

-- the two sections are kept
pub kept : (m : Module) → AreSpelled m.object m.types m.records → IsModuleOf (object_of_file m.object) (module_of_file m)
kept m is = record {
  object_kept = refl;
  parts = record {
    table = is.table;
    types_spelled = is.types_spelled;
    version = is.version;
    good = is.good;
    cells = is.cells;
    records_spelled = is.records_spelled;
  };
}

pub module-file : ReadsBack → (m : Module) → IsFit m.object → AreSpelled m.object m.types m.records
    → IsModuleFile (bytes_of m.object) (module_of_file m)
module-file reads m fit is = record {
  object = object_of_file m.object;
  is = object-file reads m.object fit (spelled-few m.object m.types m.records is);
  whole = kept m is;
}
