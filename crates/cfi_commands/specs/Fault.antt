-- Why a command makes nothing of its files, of which one is at fault.
use Rattle.std.specs.Prelude.{◌≡◌, ℕ, ⊤}
use Rattle.cfi_commands.specs.declared.fault.CommandFault.{CommandFault}
use Rattle.cfi_commands.specs.declared.fault.CommandFault.TheVariants.{File, Together, Memory}
use Rattle.cfi_commands.specs.declared.refusal.Refusal.{Refusal}

-- the file of this number is refused, and so
abbrev pub IsOfFile : (number : ℕ) → (Refusal → Type 0) → CommandFault → Type 0
IsOfFile number Refuses (File k refusal) = (k ≡ number) × Refuses refusal
IsOfFile number Refuses (Together fault) = ⊥
IsOfFile number Refuses Memory = ⊤
