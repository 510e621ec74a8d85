-- The mnemonics of RV32I (RISC-V Unprivileged ISA 20191213, chapter 24, RV32I base instruction set).
use Rattle.std.specs.Prelude.{ℕ, List, codes}
use Rattle.rv_insn.specs.declared.insn.Cond.{Cond}
use Rattle.rv_insn.specs.declared.insn.Cond.TheVariants.{Beq, Bne, Blt, Bge, Bltu, Bgeu}
use Rattle.rv_insn.specs.declared.insn.LoadKind.{LoadKind}
use Rattle.rv_insn.specs.declared.insn.LoadKind.TheVariants.{Lb, Lh, Lw, Lbu, Lhu}
use Rattle.rv_insn.specs.declared.insn.StoreKind.{StoreKind}
use Rattle.rv_insn.specs.declared.insn.StoreKind.TheVariants.{Sb, Sh, Sw}
use Rattle.rv_insn.specs.declared.insn.ImmOp.{ImmOp}
use Rattle.rv_insn.specs.declared.insn.ImmOp.TheVariants.{Addi, Slli, Slti, Sltiu, Xori, Srli, Srai, Ori, Andi}
use Rattle.rv_insn.specs.declared.insn.Op.{Op}
use Rattle.rv_insn.specs.declared.insn.Op.TheVariants.{Add, Sub, Sll, Slt, Sltu, Xor, Srl, Sra, Or, And}

-- a branch
abbrev pub cond_name : Cond → List ℕ
cond_name Beq = codes "beq"
cond_name Bne = codes "bne"
cond_name Blt = codes "blt"
cond_name Bge = codes "bge"
cond_name Bltu = codes "bltu"
cond_name Bgeu = codes "bgeu"

-- a load
abbrev pub load_name : LoadKind → List ℕ
load_name Lb = codes "lb"
load_name Lh = codes "lh"
load_name Lw = codes "lw"
load_name Lbu = codes "lbu"
load_name Lhu = codes "lhu"

-- a store
abbrev pub store_name : StoreKind → List ℕ
store_name Sb = codes "sb"
store_name Sh = codes "sh"
store_name Sw = codes "sw"

-- an operation on a register and an immediate
abbrev pub imm_op_name : ImmOp → List ℕ
imm_op_name Addi = codes "addi"
imm_op_name Slli = codes "slli"
imm_op_name Slti = codes "slti"
imm_op_name Sltiu = codes "sltiu"
imm_op_name Xori = codes "xori"
imm_op_name Srli = codes "srli"
imm_op_name Srai = codes "srai"
imm_op_name Ori = codes "ori"
imm_op_name Andi = codes "andi"

-- an operation on two registers
abbrev pub op_name : Op → List ℕ
op_name Add = codes "add"
op_name Sub = codes "sub"
op_name Sll = codes "sll"
op_name Slt = codes "slt"
op_name Sltu = codes "sltu"
op_name Xor = codes "xor"
op_name Srl = codes "srl"
op_name Sra = codes "sra"
op_name Or = codes "or"
op_name And = codes "and"
