use Rattle.std.proofs.Common.{not}
use Rattle.elf_read.specs.Places.{IsNone}
use Rattle.elf_read.specs.Relocation.{entry_in, kind_of, is_known}
use Rattle.elf_read.proofs.rela.first_unknown_of.Given as goal

abbrev pub invariant-loop-i : goal.invariant-loop-i
invariant-loop-i l = IsNone (λ i. not (is_known (kind_of (entry_in l.entries i)))) l.i
