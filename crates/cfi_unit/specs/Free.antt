-- Instructions that name a register of the instrumentation, x28 to x31.
use Rattle.std.specs.Prelude.{ℕ, nat_le, Bool, false, ◌||◌}
use Rattle.rv_insn.specs.declared.insn.Insn.{Insn}
use Rattle.rv_insn.specs.declared.insn.Insn.TheVariants as insns
use Rattle.cfi_unit.specs.declared.unit.TheConstants.{FREE_REGISTERS}

-- a register of the instrumentation
abbrev pub is_reserved : (register : ℕ) → Bool
is_reserved register = nat_le FREE_REGISTERS register

-- the instruction names such a register; a fence names none
abbrev pub names_reserved : Insn → Bool
names_reserved (insns.Lui rd imm) = is_reserved rd
names_reserved (insns.Auipc rd imm) = is_reserved rd
names_reserved (insns.Jal rd off) = is_reserved rd
names_reserved (insns.Jalr rd rs1 imm) = is_reserved rd || is_reserved rs1
names_reserved (insns.Branch cond rs1 rs2 off) = is_reserved rs1 || is_reserved rs2
names_reserved (insns.Load kind rd rs1 imm) = is_reserved rd || is_reserved rs1
names_reserved (insns.Store kind rs1 rs2 imm) = is_reserved rs1 || is_reserved rs2
names_reserved (insns.OpImm op rd rs1 imm) = is_reserved rd || is_reserved rs1
names_reserved (insns.Op op rd rs1 rs2) = is_reserved rd || is_reserved rs1 || is_reserved rs2
names_reserved (insns.Fence fields) = false
names_reserved insns.Ecall = false
names_reserved insns.Ebreak = false
