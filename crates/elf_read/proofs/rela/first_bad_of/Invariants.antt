use Rattle.elf_read.specs.Places.{IsNone}
use Rattle.elf_read.specs.Relocation.{entry_in}
use Rattle.elf_read.specs.inner.Targets.{breaks}
use Rattle.elf_read.proofs.rela.first_bad_of.Given as goal

abbrev pub invariant-loop-i : goal.invariant-loop-i
invariant-loop-i l = IsNone (λ i. breaks l.left_out l.target (entry_in l.entries i)) l.i
