-- Tests of instructions (RISC-V Unprivileged ISA 20191213, 2).
use Rattle.std.specs.Prelude.{ℕ, Bool, true, false, not, ◌||◌, ◌&&◌, ◌==◌, Option, Some, None}
use Rattle.rv_insn.specs.declared.insn.Insn.{Insn}
use Rattle.rv_insn.specs.declared.insn.Insn.TheVariants as insns
use Rattle.rv_insn.specs.declared.insn.ImmOp.{ImmOp}
use Rattle.rv_insn.specs.declared.insn.ImmOp.TheVariants as ops
use Rattle.cfi_instr.specs.Insns.{is_zero, jump_writes}

-- it is a LUI
abbrev pub is_lui : Insn → Bool
is_lui (insns.Lui rd imm) = true
is_lui insn = false

-- it is a JAL
abbrev pub is_jal : Insn → Bool
is_jal (insns.Jal rd off) = true
is_jal insn = false

-- it is a store
abbrev pub is_store : Insn → Bool
is_store (insns.Store kind rs1 rs2 imm) = true
is_store insn = false

-- the operation is ADDI
abbrev pub is_addi : ImmOp → Bool
is_addi ops.Addi = true
is_addi op = false

-- it has the field of a low part: a load, ADDI or JALR
abbrev pub has_low : Insn → Bool
has_low (insns.Load kind rd rs1 imm) = true
has_low (insns.OpImm op rd rs1 imm) = is_addi op
has_low (insns.Jalr rd rs1 imm) = true
has_low insn = false

-- `addi x0,x0,0`
abbrev pub is_nop : Insn → Bool
is_nop (insns.OpImm op rd rs1 imm) = is_addi op && rd == 0 && rs1 == 0 && is_zero imm
is_nop insn = false

-- EBREAK
abbrev pub is_trap : Insn → Bool
is_trap insns.Ebreak = true
is_trap insn = false

-- a jump that writes another register than x0 and x1
abbrev pub is_other_link : Option ℕ → Bool
is_other_link None = false
is_other_link (Some rd) = not (rd == 0 || rd == 1)

-- it links a register that no jump may
abbrev pub is_bad_link : Insn → Bool
is_bad_link insn = is_other_link (jump_writes insn)
