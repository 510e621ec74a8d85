-- The module that a file is, and why a file is none.
use Rattle.std.specs.Prelude.{◌≡◌, ◌≢◌, ℕ, List, Err}
use Rattle.elf_read.specs.declared.object.Object.{Object}
use Rattle.elf_read.specs.declared.fault.ElfFault.TheVariants as elf_faults
use Rattle.elf_read.specs.Fault.{IsObject, IsFirstFault}
use Rattle.cfi_aux.specs.declared.fault.AuxFault.TheVariants as aux_faults
use Rattle.cfi_aux.specs.declared.modules.Module.{Module}
use Rattle.cfi_aux.specs.Modules.{IsModuleOf, parts_in}
use Rattle.cfi_commands.specs.declared.refusal.Refusal.{Refusal}
use Rattle.cfi_commands.specs.declared.refusal.Refusal.TheVariants.{Elf, Aux}

-- the bytes are an object, and this is the module that the object is
pub record IsModuleFile (bytes : List ℕ) (m : Module) : Type 0 where
  pub object : Object
  pub is : IsObject bytes object
  pub whole : IsModuleOf object m

-- the first fault of the bytes as an object, or of the object that they are as a module
abbrev pub IsFileFault : (bytes : List ℕ) → Refusal → Type 0
IsFileFault bytes (Elf fault) = IsFirstFault bytes fault × (fault ≢ elf_faults.Memory)
IsFileFault bytes (Aux fault) =
    (object : Object) × IsObject bytes object × (parts_in object ≡ Err fault) × (fault ≢ aux_faults.Memory)
IsFileFault bytes refusal = ⊥
