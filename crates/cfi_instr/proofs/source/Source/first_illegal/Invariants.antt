use Rattle.elf_read.specs.Places.{IsNone}
use Rattle.cfi_instr.specs.inner.Flaws.{is_illegal_at}
use Rattle.cfi_instr.proofs.source.Source.first_illegal.Given as goal

abbrev pub invariant-loop-w : goal.invariant-loop-w
invariant-loop-w l = IsNone (is_illegal_at l.self) l.w
