-- The file of a module with stubs, and why a file gets none.
use Rattle.std.specs.Prelude.{◌≡◌, ◌≢◌, ℕ, List, None}
use Rattle.elf_write.specs.File.{bytes_of}
use Rattle.cfi_aux.specs.declared.modules.Module.{Module}
use Rattle.cfi_import.specs.declared.fault.StubFault.TheVariants as faults
use Rattle.cfi_import.specs.Stubbed.{IsStubbed, IsStubFault, stubs_pass}
use Rattle.cfi_commands.specs.declared.refusal.Refusal.{Refusal}
use Rattle.cfi_commands.specs.declared.refusal.Refusal.TheVariants.{Import}
use Rattle.cfi_commands.specs.Reading.{IsModuleFile, IsFileFault}

-- the bytes are a module, and the file is the one that is written of the module with stubs, which passes no limit
pub record IsStubbedFile (bytes file : List ℕ) : Type 0 where
  pub source : Module
  pub is : IsModuleFile bytes source
  pub out : Module
  pub made : IsStubbed source out
  pub within : stubs_pass source ≡ None
  pub written : file ≡ bytes_of out.object

-- the first fault of the bytes as a module, or of the module that they are
abbrev pub IsStubbingFault : (bytes : List ℕ) → Refusal → Type 0
IsStubbingFault bytes (Import fault) =
    (source : Module) × IsModuleFile bytes source × IsStubFault source fault × (fault ≢ faults.Memory)
IsStubbingFault bytes refusal = IsFileFault bytes refusal
