-- The file of an instrumented module, and why a file is not instrumented.
use Rattle.std.specs.Prelude.{◌≡◌, ◌≢◌, ℕ, List}
use Rattle.elf_write.specs.File.{bytes_of}
use Rattle.cfi_aux.specs.declared.modules.Module.{Module}
use Rattle.cfi_instr.specs.declared.fault.InstrFault.TheVariants as faults
use Rattle.cfi_instr.specs.Output.{IsInstrumented, IsFirstInstrFault}
use Rattle.cfi_commands.specs.declared.refusal.Refusal.{Refusal}
use Rattle.cfi_commands.specs.declared.refusal.Refusal.TheVariants.{Instr}
use Rattle.cfi_commands.specs.Reading.{IsModuleFile, IsFileFault}

-- the bytes are a module, and the file is the one that is written of the instrumented module
pub record IsInstrumentedFile (bytes file : List ℕ) : Type 0 where
  pub unplaced : Module
  pub is : IsModuleFile bytes unplaced
  pub out : Module
  pub made : IsInstrumented unplaced out
  pub written : file ≡ bytes_of out.object

-- the first fault of the bytes as a module, or of the module that they are
abbrev pub IsInstrumentFault : (bytes : List ℕ) → Refusal → Type 0
IsInstrumentFault bytes (Instr fault) =
    (unplaced : Module) × IsModuleFile bytes unplaced × IsFirstInstrFault unplaced fault × (fault ≢ faults.Memory)
IsInstrumentFault bytes refusal = IsFileFault bytes refusal
