-- Relocations that can be tried.
use Rattle.std.specs.Prelude.{◌≡◌, ℕ, ◌+◌, ◌≤◌, true, Option, Some, None, ⊤}
use Rattle.elf_read.specs.declared.object.Reloc.{Reloc}
use Rattle.elf_read.specs.Relocation.{is_known, field_size}

-- the kind is known, and the field lies in the text
pub record IsInText (text : ℕ) (reloc : Reloc) : Type 0 where
  pub known : is_known reloc.kind ≡ true
  pub within : reloc.offset + field_size reloc.kind ≤ text

-- a relocation with a target does, in text of so many bytes
abbrev pub CanBeApplied : (target : Option ℕ) → (text : ℕ) → Reloc → Type 0
CanBeApplied None text reloc = ⊤
CanBeApplied (Some value) text reloc = IsInText text reloc
