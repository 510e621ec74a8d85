-- The placed modules of files, and the first reason why there are none. Every file is taken as a module, in order,
-- before the first is placed. Files and modules are numbered from 0.
use Rattle.std.specs.Prelude.{ℕ, List, ⊤}
use Rattle.cfi_aux.specs.declared.modules.Module.{Module}
use Rattle.cfi_aux.specs.declared.placed.Placed.{Placed}
use Rattle.cfi_modules.specs.declared.fault.JoinFault.{JoinFault}
use Rattle.cfi_modules.specs.declared.fault.JoinFault.TheVariants as joins
use Rattle.cfi_modules.specs.Order.{AreInOrder, IsFirstRefused}
use Rattle.cfi_commands.specs.declared.fault.CommandFault.{CommandFault}
use Rattle.cfi_commands.specs.declared.fault.CommandFault.TheVariants.{File, Together, Memory}
use Rattle.cfi_commands.specs.declared.refusal.Refusal.TheVariants.{Place, Verify}
use Rattle.cfi_commands.specs.Modules.{AreModuleFiles, IsFirstBadFile}

-- the placed modules of the files
pub record ArePlacedFiles (code_words : ℕ) (files : List (List ℕ)) (placed : List Placed) : Type 0 where
  pub modules : List Module
  pub read : AreModuleFiles files modules
  pub order : AreInOrder code_words modules placed

-- all files are modules, and the module of this number is the first that does not join those before it
pub record IsFirstBadModule (code_words : ℕ) (files : List (List ℕ)) (number : ℕ) (fault : JoinFault) : Type 0 where
  pub modules : List Module
  pub read : AreModuleFiles files modules
  pub refused : IsFirstRefused code_words modules number fault

-- the first fault of the files, as modules in so many code words
abbrev pub IsFilesFault : (code_words : ℕ) → (files : List (List ℕ)) → CommandFault → Type 0
IsFilesFault code_words files (File number (Place fault)) =
    IsFirstBadModule code_words files number (joins.Place fault)
IsFilesFault code_words files (File number (Verify fault)) =
    IsFirstBadModule code_words files number (joins.Verify fault)
IsFilesFault code_words files (File number refusal) = IsFirstBadFile files number refusal
IsFilesFault code_words files (Together fault) = ⊥
IsFilesFault code_words files Memory = ⊤
