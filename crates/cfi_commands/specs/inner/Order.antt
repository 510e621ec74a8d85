-- The fault of modules that are placed one after the other.
use Rattle.std.specs.Prelude.{◌≡◌, ℕ, List}
use Rattle.cfi_aux.specs.declared.modules.Module.{Module}
use Rattle.cfi_modules.specs.declared.fault.JoinFault.{JoinFault}
use Rattle.cfi_modules.specs.declared.fault.JoinFault.TheVariants as joins
use Rattle.cfi_modules.specs.Order.{IsFirstRefused}
use Rattle.cfi_commands.specs.declared.fault.CommandFault.{CommandFault}
use Rattle.cfi_commands.specs.declared.fault.CommandFault.TheVariants.{File, Memory}
use Rattle.cfi_commands.specs.declared.refusal.Refusal.TheVariants.{Place, Verify}

-- the fault of the module of a number
abbrev pub fault_at : (number : ℕ) → JoinFault → CommandFault
fault_at number (joins.Place fault) = File number (Place fault)
fault_at number (joins.Verify fault) = File number (Verify fault)
fault_at number joins.Memory = Memory

-- the module of a number is the first that does not join those before it
pub record IsSeriesFault (code_words : ℕ) (modules : List Module) (fault : CommandFault) : Type 0 where
  pub number : ℕ
  pub why : JoinFault
  pub is : fault ≡ fault_at number why
  pub first : IsFirstRefused code_words modules number why
