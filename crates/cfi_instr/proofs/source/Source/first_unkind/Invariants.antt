use Rattle.std.proofs.Common.{◌≡◌, ◌≤◌}
use Rattle.elf_read.specs.Places.{IsNone}
use Rattle.cfi_instr.specs.Jumps.{ordinal_of}
use Rattle.cfi_instr.proofs.source.Source.first_unkind.Given as goal
use Rattle.cfi_instr.proofs.JumpLemmas.{lacks_kind}

abbrev pub invariant-loop-w : goal.invariant-loop-w
invariant-loop-w l = IsNone (lacks_kind l.self l.branches) l.w × (l.number ≡ ordinal_of l.self l.w) × (l.number ≤ l.w)
