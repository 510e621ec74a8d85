use Rattle.elf_read.specs.Places.{IsNone}
use Rattle.cfi_instr.specs.inner.Functions.{is_malformed}
use Rattle.cfi_instr.proofs.source.Source.first_malformed.Given as goal

abbrev pub invariant-loop-k : goal.invariant-loop-k
invariant-loop-k l = IsNone (is_malformed l.self l.functions) l.k
