use Rattle.std.proofs.Common.{◌≡◌}
use Rattle.elf_read.specs.Places.{joined}
use Rattle.elf_read.specs.Object.{symbols_of}
use Rattle.elf_read.proofs.keep.keep_symbols.Given as goal

abbrev pub invariant-loop-k : goal.invariant-loop-k
invariant-loop-k l = l.out.items ≡ joined (symbols_of l.table) l.k
