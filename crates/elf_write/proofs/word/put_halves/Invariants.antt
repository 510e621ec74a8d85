use Rattle.std.proofs.Common.{◌≡◌, ◌++◌, take}
use Rattle.elf_write.specs.Words.{halves}
use Rattle.elf_write.proofs.word.put_halves.Given as goal

abbrev pub invariant-loop-number : goal.invariant-loop-number
invariant-loop-number l = l.out.items ≡ l.fn.out.items ++ halves (take l.number-index l.numbers)
