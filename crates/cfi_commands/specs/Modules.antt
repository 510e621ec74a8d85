-- The modules that several files are, and the first of the files that is none.
use Rattle.std.specs.Prelude.{ℕ, ◌≤◌, List, length, take, IsSomeAnd, ⊤}
use Rattle.std.specs.List.{AllZip, slice_get}
use Rattle.elf_read.specs.declared.rela.TheConstants.{MAX_FILE}
use Rattle.cfi_aux.specs.declared.modules.Module.{Module}
use Rattle.cfi_commands.specs.declared.fault.CommandFault.{CommandFault}
use Rattle.cfi_commands.specs.declared.fault.CommandFault.TheVariants.{File, Together, Memory}
use Rattle.cfi_commands.specs.declared.refusal.Refusal.{Refusal}
use Rattle.cfi_commands.specs.Reading.{IsModuleFile, IsFileFault}

-- a file that is short enough to be read
abbrev pub IsShortFile : (bytes : List ℕ) → Type 0
IsShortFile bytes = length bytes ≤ MAX_FILE

-- the files are these modules, one by one
abbrev pub AreModuleFiles : (files : List (List ℕ)) → List Module → Type 0
AreModuleFiles = AllZip IsModuleFile

-- the files before the one of this number are modules, and it is refused so
pub record IsFirstBadFile (files : List (List ℕ)) (number : ℕ) (refusal : Refusal) : Type 0 where
  pub modules : List Module
  pub before : AreModuleFiles (take number files) modules
  pub here : IsSomeAnd (slice_get files number) (λ bytes. IsFileFault bytes refusal)

-- the first file that is no module, and why it is none
abbrev pub IsModulesFault : (files : List (List ℕ)) → CommandFault → Type 0
IsModulesFault files (File number refusal) = IsFirstBadFile files number refusal
IsModulesFault files (Together fault) = ⊥
IsModulesFault files Memory = ⊤
