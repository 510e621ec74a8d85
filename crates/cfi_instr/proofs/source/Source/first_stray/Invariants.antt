use Rattle.elf_read.specs.Places.{IsNone}
use Rattle.cfi_instr.specs.inner.Stray.{is_stray}
use Rattle.cfi_instr.proofs.source.Source.first_stray.Given as goal

abbrev pub invariant-loop-w : goal.invariant-loop-w
invariant-loop-w l = IsNone (is_stray l.self l.symbols l.functions) l.w
