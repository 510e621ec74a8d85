use Rattle.elf_read.specs.Places.{IsNone}
use Rattle.elf_read.specs.Symbol.{is_common}
use Rattle.elf_read.proofs.bad_symbol.check_common.Given as goal

abbrev pub invariant-loop-k : goal.invariant-loop-k
invariant-loop-k l = IsNone (is_common l.table) l.k
