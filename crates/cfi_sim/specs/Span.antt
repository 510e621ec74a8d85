-- Where the instruction that ends a unit stands in it, and the instruction that the unit stands for.
use Rattle.std.specs.Prelude.{ℕ, ℤ, ◌==◌, if◌then◌else◌, Option, Some, None}
use Rattle.rv_insn.specs.declared.insn.Insn.{Insn}
use Rattle.rv_insn.specs.declared.insn.Insn.TheVariants as insns
use Rattle.rv_insn.specs.declared.insn.ImmOp.TheVariants.{Addi}
use Rattle.cfi_sim.specs.declared.span.Span.{Span}

-- so many instructions before, and after
abbrev pub span : (before after : ℕ) → Span
span before after = record { before = before; after = after }

-- An access is the last of six instructions, through x31. A check has fourteen: it ends with its jump, before that with
-- EBREAK, or with its load of the target's word, where the target is misaligned. All else is a unit of its own.
abbrev pub span_of : Option Insn → Span
span_of (Some (insns.Load kind rd rs1 imm)) = if rs1 == 31 then span 20 0 else span 28 24
span_of (Some (insns.Store kind rs1 rs2 imm)) = span 20 0
span_of (Some insns.Ebreak) = span 48 4
span_of (Some (insns.Jalr rd rs1 imm)) = span 52 0
span_of insn = span 0 0

-- a register and an immediate that the first instruction of a unit puts into x31, for the last one
abbrev pub through : (rs1 : ℕ) → (imm : ℤ) → (last : Option Insn) → Option Insn
through rs1 imm (Some (insns.Load kind rd base off)) = Some (insns.Load kind rd rs1 imm)
through rs1 imm (Some (insns.Store kind base rs2 off)) = Some (insns.Store kind rs1 rs2 imm)
through rs1 imm (Some (insns.Jalr rd base off)) = Some (insns.Jalr rd rs1 imm)
through rs1 imm last = last

-- the instruction that a unit stands for, by its first and last: of a masked access the address is the first's
abbrev pub plain_of : (first last : Option Insn) → Option Insn
plain_of (Some (insns.OpImm Addi rd rs1 imm)) last = if rd == 31 then through rs1 imm last else last
plain_of first last = last
