use Rattle.std.proofs.Common.{◌≡◌, ◌++◌, take}
use Rattle.elf_write.specs.Contents.{name_table}
use Rattle.elf_write.proofs.contents.put_names.Given as goal

abbrev pub invariant-loop-symbol : goal.invariant-loop-symbol
invariant-loop-symbol l = l.out.items ≡ l.fn.out.items ++ name_table (take l.symbol-index l.symbols)
