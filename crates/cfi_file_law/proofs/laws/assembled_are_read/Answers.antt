use Rattle.std.proofs.Common.{List, ℕ, sym, subst}
use Rattle.elf_read.specs.Fault.{IsObject}
use Rattle.cfi_made_law.specs.Order.{object_of_file}
use Rattle.cfi_made_law.proofs.OrderLemmas.{bytes-same}
use Rattle.cfi_file_law.proofs.laws.assembled_are_read.Goals as goal

pub returns : goal.returns
returns c text file short is read =
    let made = object_of_file is.object in
    subst (λ (bytes : List ℕ). IsObject bytes made) (sym is.written)
    (subst (λ (bytes : List ℕ). IsObject bytes made) (bytes-same is.object)
    (c.written_is_read.ensures made (c.assembled_are_whole.ensures text is.object short is.is)))
