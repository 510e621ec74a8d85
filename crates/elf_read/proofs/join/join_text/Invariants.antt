use Rattle.std.proofs.Common.{◌≡◌}
use Rattle.elf_read.specs.Places.{joined}
use Rattle.elf_read.specs.Join.{text_of}
use Rattle.elf_read.proofs.join.join_text.Given as goal

abbrev pub invariant-loop-k : goal.invariant-loop-k
invariant-loop-k l = l.out.items ≡ joined (text_of l.table) l.k
