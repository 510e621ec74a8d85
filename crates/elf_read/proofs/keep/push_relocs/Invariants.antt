use Rattle.std.proofs.Common.{◌≡◌, ◌++◌}
use Rattle.elf_read.specs.Places.{joined}
use Rattle.elf_read.specs.Object.{reloc_of}
use Rattle.elf_read.proofs.keep.push_relocs.Given as goal

abbrev pub invariant-loop-i : goal.invariant-loop-i
invariant-loop-i l = l.out.items ≡ l.fn.out.items ++ joined (reloc_of l.table l.s) l.i
