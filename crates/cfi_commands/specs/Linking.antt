-- The file of the module that several are linked into, and why files are not linked.
use Rattle.std.specs.Prelude.{◌≡◌, ◌≢◌, ℕ, List, ⊤}
use Rattle.elf_write.specs.File.{bytes_of}
use Rattle.cfi_aux.specs.declared.modules.Module.{Module}
use Rattle.cfi_link.specs.declared.fault.LinkFault.TheVariants as faults
use Rattle.cfi_link.specs.Fault.{IsFirstLinkFault}
use Rattle.cfi_link.specs.Linked.{Linked}
use Rattle.cfi_commands.specs.declared.fault.CommandFault.{CommandFault}
use Rattle.cfi_commands.specs.declared.fault.CommandFault.TheVariants.{File, Together, Memory}
use Rattle.cfi_commands.specs.Modules.{AreModuleFiles, IsFirstBadFile}

-- the files are modules, and the file is the one that is written of what links them
pub record IsLinkedFile (files : List (List ℕ)) (file : List ℕ) : Type 0 where
  pub modules : List Module
  pub are : AreModuleFiles files modules
  pub output : Module
  pub made : Linked modules output
  pub written : file ≡ bytes_of output.object

-- the first fault of the files as modules, or of the modules that they are
abbrev pub IsLinkingFault : (files : List (List ℕ)) → CommandFault → Type 0
IsLinkingFault files (File number refusal) = IsFirstBadFile files number refusal
IsLinkingFault files (Together fault) =
    (modules : List Module) × AreModuleFiles files modules × IsFirstLinkFault modules fault × (fault ≢ faults.Memory)
IsLinkingFault files Memory = ⊤
