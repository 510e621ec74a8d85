-- Modules that were read of files are small.
use Rattle.std.proofs.Common.{ℕ, List, sym, subst}
use Rattle.elf_read.specs.Fault.{IsObject}
use Rattle.elf_read.specs.Sound.{IsSoundObject}
use Rattle.elf_read.specs.declared.object.Object.{Object}
use Rattle.cfi_aux.specs.declared.modules.Module.{Module}
use Rattle.cfi_aux.proofs.VersionLemmas.{records-later}
use Rattle.cfi_made_law.specs.Read.{IsReadOf}
use Rattle.cfi_made_law.proofs.ReadLemmas.{IsSmall, read-small}
use Rattle.cfi_made_law.proofs.LinkLemmas.{IsReadModule}

abbrev pub ReadIsSound : Type 0
ReadIsSound = (bytes : List ℕ) → (object : Object) → IsObject bytes object → IsSoundObject object

pub small-source : ReadIsSound → (m : Module) → IsReadOf m → IsSmall m.object
small-source sound m read =
    subst IsSmall (sym read.whole.object_kept)
    (read-small read.bytes read.object read.is (sound read.bytes read.object read.is))

pub read-source : ReadIsSound → (m : Module) → IsReadOf m → IsReadModule m
read-source sound m read = record {
  words = (small-source sound m read).sound.words;
  records = records-later read.whole.parts.version m.types m.records read.whole.parts.good;
}
