use Rattle.elf_read.specs.Places.{IsNone}
use Rattle.cfi_instr.specs.inner.Functions.{falls_through}
use Rattle.cfi_instr.proofs.source.Source.first_falling.Given as goal

abbrev pub invariant-loop-k : goal.invariant-loop-k
invariant-loop-k l = IsNone (falls_through l.self l.functions) l.k
