use Rattle.std.proofs.Common.{◌≡◌, ◌++◌, take}
use Rattle.elf_write.specs.Words.{words}
use Rattle.elf_write.proofs.word.put_words.Given as goal

abbrev pub invariant-loop-number : goal.invariant-loop-number
invariant-loop-number l = l.out.items ≡ l.fn.out.items ++ words (take l.number-index l.numbers)
