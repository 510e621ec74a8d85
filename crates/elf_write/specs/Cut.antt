-- Files that are cut off.
use Rattle.std.specs.Prelude.{◌≡◌, ◌⊎◌, List, ℕ}
use Rattle.elf_read.specs.declared.object.Object.{Object}
use Rattle.elf_read.specs.declared.fault.ElfFault.{ElfFault}
use Rattle.elf_read.specs.declared.fault.ElfFault.TheVariants.{Memory}
use Rattle.elf_read.specs.Fault.{IsFirstFault, IsObject}

-- the bytes are no object, and have this first fault and no other but want of memory
pub record AreRefused (bytes : List ℕ) (fault : ElfFault) : Type 0 where
  pub is : IsFirstFault bytes fault
  pub one : (other : ElfFault) → IsFirstFault bytes other → (other ≡ fault) ⊎ (other ≡ Memory)
  pub none : (object : Object) → IsObject bytes object → ⊥
