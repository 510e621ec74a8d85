-- The rows of RV32I that share an opcode (RISC-V Unprivileged ISA 20191213, chapter 24, RV32I base instruction set).
use Rattle.std.specs.Prelude.{ℕ, Option, Some, None}
use Rattle.rv_insn.specs.declared.insn.Cond.{Cond}
use Rattle.rv_insn.specs.declared.insn.Cond.TheVariants.{Beq, Bne, Blt, Bge, Bltu, Bgeu}
use Rattle.rv_insn.specs.declared.insn.LoadKind.{LoadKind}
use Rattle.rv_insn.specs.declared.insn.LoadKind.TheVariants.{Lb, Lh, Lw, Lbu, Lhu}
use Rattle.rv_insn.specs.declared.insn.StoreKind.{StoreKind}
use Rattle.rv_insn.specs.declared.insn.StoreKind.TheVariants.{Sb, Sh, Sw}
use Rattle.rv_insn.specs.declared.insn.ImmOp.{ImmOp}
use Rattle.rv_insn.specs.declared.insn.ImmOp.TheVariants.{Addi, Slli, Slti, Sltiu, Xori, Srli, Srai, Ori, Andi}
use Rattle.rv_insn.specs.declared.insn.Op.{Op}
use Rattle.rv_insn.specs.declared.insn.Op.TheVariants.{Add, Sub, Sll, Slt, Sltu, Xor, Srl, Sra, Or, And}

-- funct3 of a branch
abbrev pub cond_funct3 : Cond → ℕ
cond_funct3 Beq = 0
cond_funct3 Bne = 1
cond_funct3 Blt = 4
cond_funct3 Bge = 5
cond_funct3 Bltu = 6
cond_funct3 Bgeu = 7

-- funct3 of a load
abbrev pub load_funct3 : LoadKind → ℕ
load_funct3 Lb = 0
load_funct3 Lh = 1
load_funct3 Lw = 2
load_funct3 Lbu = 4
load_funct3 Lhu = 5

-- funct3 of a store
abbrev pub store_funct3 : StoreKind → ℕ
store_funct3 Sb = 0
store_funct3 Sh = 1
store_funct3 Sw = 2

-- funct3 of an operation on an immediate
abbrev pub imm_funct3 : ImmOp → ℕ
imm_funct3 Addi = 0
imm_funct3 Slli = 1
imm_funct3 Slti = 2
imm_funct3 Sltiu = 3
imm_funct3 Xori = 4
imm_funct3 Srli = 5
imm_funct3 Srai = 5
imm_funct3 Ori = 6
imm_funct3 Andi = 7

-- funct7 of a shift by an immediate; the other operations on an immediate have none
abbrev pub imm_funct7 : ImmOp → Option ℕ
imm_funct7 Slli = Some 0
imm_funct7 Srli = Some 0
imm_funct7 Srai = Some 32
imm_funct7 _ = None

-- funct3 of an operation on two registers
abbrev pub op_funct3 : Op → ℕ
op_funct3 Add = 0
op_funct3 Sub = 0
op_funct3 Sll = 1
op_funct3 Slt = 2
op_funct3 Sltu = 3
op_funct3 Xor = 4
op_funct3 Srl = 5
op_funct3 Sra = 5
op_funct3 Or = 6
op_funct3 And = 7

-- funct7 of an operation on two registers
abbrev pub op_funct7 : Op → ℕ
op_funct7 Sub = 32
op_funct7 Sra = 32
op_funct7 _ = 0
