-- The file of the object that a source makes, and why a source makes none.
use Rattle.std.specs.Prelude.{◌≡◌, ◌≢◌, ℕ, List, Ok, Err}
use Rattle.elf_read.specs.declared.object.Object.{Object}
use Rattle.elf_write.specs.File.{bytes_of}
use Rattle.rv_asm.specs.Assembled.{object_in}
use Rattle.rv_asm.specs.declared.fault.AsmFault.TheVariants as faults
use Rattle.cfi_commands.specs.declared.refusal.Refusal.{Refusal}
use Rattle.cfi_commands.specs.declared.refusal.Refusal.TheVariants.{Asm}

-- the lines of the text make an object, and the file is the one that is written of it
pub record IsAssembled (text file : List ℕ) : Type 0 where
  pub object : Object
  pub is : object_in text ≡ Ok object
  pub written : file ≡ bytes_of object

-- the least fault of the first faulty line of the text
abbrev pub IsSourceFault : (text : List ℕ) → Refusal → Type 0
IsSourceFault text (Asm fault) = (object_in text ≡ Err fault) × (fault ≢ faults.Memory)
IsSourceFault text refusal = ⊥
