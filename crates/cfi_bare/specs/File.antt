-- The module of a bare file, and why a file is none.
use Rattle.std.specs.Prelude.{◌≡◌, ◌≢◌, ℕ, ◌%◌, List, length, ⊤}
use Rattle.cfi_aux.specs.declared.modules.Module.{Module}
use Rattle.cfi_bare.specs.declared.fault.BareFault.{BareFault}
use Rattle.cfi_bare.specs.declared.fault.BareFault.TheVariants.{Length, Memory}
use Rattle.cfi_bare.specs.Modules.{bare_module}

-- the bytes are whole words, and this is their module, in which no check has a record
pub record IsBareFile (bytes : List ℕ) (m : Module) : Type 0 where
  pub whole : length bytes % 4 ≡ 0
  pub is : m ≡ bare_module bytes

-- the bytes are no whole words, told with their number; want of memory may always be
abbrev pub IsBareFault : (bytes : List ℕ) → BareFault → Type 0
IsBareFault bytes (Length count) = (length bytes ≡ count) × (count % 4 ≢ 0)
IsBareFault bytes Memory = ⊤
