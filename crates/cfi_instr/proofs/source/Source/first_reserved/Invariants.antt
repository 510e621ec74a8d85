use Rattle.elf_read.specs.Places.{IsNone}
use Rattle.cfi_instr.specs.inner.Flaws.{is_reserved_at}
use Rattle.cfi_instr.proofs.source.Source.first_reserved.Given as goal

abbrev pub invariant-loop-w : goal.invariant-loop-w
invariant-loop-w l = IsNone (is_reserved_at l.self) l.w
