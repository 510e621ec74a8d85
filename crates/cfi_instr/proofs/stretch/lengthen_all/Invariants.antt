use Rattle.std.proofs.Common.{List}
use Rattle.elf_read.specs.declared.object.Symbol.{Symbol}
use Rattle.cfi_instr.specs.Words.{Words}
use Rattle.cfi_instr.specs.inner.Hops.{AreReady}
use Rattle.cfi_instr.proofs.stretch.lengthen_all.Given as goal

abbrev pub invariant-loop-turn : goal.invariant-loop-turn
invariant-loop-turn l = (t : Words) (symbols : List Symbol) → AreReady t symbols l.initial.hops.items l.initial.long.items
    → AreReady t symbols l.hops.items l.long.items
