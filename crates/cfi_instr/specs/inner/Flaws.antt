-- Tests of words that are refused for what they are, by their numbers.
use Rattle.std.specs.Prelude.{ℕ, Bool, is_none}
use Rattle.cfi_unit.specs.Free.{names_reserved}
use Rattle.cfi_instr.specs.Words.{Words, insn_at}
use Rattle.cfi_values.specs.Some.{holds}
use Rattle.cfi_instr.specs.inner.Insns.{is_trap, is_bad_link}

-- no instruction
abbrev pub is_illegal_at : Words → (w : ℕ) → Bool
is_illegal_at t w = is_none (insn_at t w)

-- names a register of the instrumentation
abbrev pub is_reserved_at : Words → (w : ℕ) → Bool
is_reserved_at t w = holds names_reserved (insn_at t w)

-- EBREAK
abbrev pub is_trap_at : Words → (w : ℕ) → Bool
is_trap_at t w = holds is_trap (insn_at t w)

-- JAL or JALR that writes another register than x0 and x1
abbrev pub is_bad_link_at : Words → (w : ℕ) → Bool
is_bad_link_at t w = holds is_bad_link (insn_at t w)
