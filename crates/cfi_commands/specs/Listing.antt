-- The listing of the text of an object, and why bytes are no object.
use Rattle.std.specs.Prelude.{◌≢◌, ℕ, List}
use Rattle.elf_read.specs.declared.fault.ElfFault.TheVariants as faults
use Rattle.elf_read.specs.declared.object.Object.{Object}
use Rattle.elf_read.specs.Fault.{IsObject, IsFirstFault}
use Rattle.rv_words.specs.Words.{AreWords}
use Rattle.rv_text.specs.Listing.{IsListing}
use Rattle.cfi_commands.specs.declared.refusal.Refusal.{Refusal}
use Rattle.cfi_commands.specs.declared.refusal.Refusal.TheVariants.{Elf}

-- the bytes are an object, and the text is the listing of the words of its text
pub record IsObjectListing (bytes text : List ℕ) : Type 0 where
  pub object : Object
  pub is : IsObject bytes object
  pub words : List ℕ
  pub spelled : AreWords object.text words
  pub listed : IsListing words text

-- the first fault of the bytes as an object
abbrev pub IsObjectFault : (bytes : List ℕ) → Refusal → Type 0
IsObjectFault bytes (Elf fault) = IsFirstFault bytes fault × (fault ≢ faults.Memory)
IsObjectFault bytes refusal = ⊥
