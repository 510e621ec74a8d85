use Rattle.std.proofs.Common.{◌≡◌}
use Rattle.elf_read.specs.Places.{joined}
use Rattle.elf_read.specs.Object.{relocs_of}
use Rattle.elf_read.proofs.keep.keep_relocs.Given as goal

abbrev pub invariant-loop-s : goal.invariant-loop-s
invariant-loop-s l = l.out.items ≡ joined (relocs_of l.table) l.s
