use Rattle.std.proofs.Common.{◌≡◌, ◌≤◌}
use Rattle.elf_read.specs.Places.{IsNone}
use Rattle.cfi_instr.specs.Jumps.{ordinal_of}
use Rattle.cfi_instr.proofs.source.Source.first_bad_switch.Given as goal
use Rattle.cfi_instr.proofs.JumpLemmas.{has_bad_switch}

abbrev pub invariant-loop-w : goal.invariant-loop-w
invariant-loop-w l =
    IsNone (has_bad_switch l.self l.functions l.branches) l.w × (l.number ≡ ordinal_of l.self l.w) × (l.number ≤ l.w)
