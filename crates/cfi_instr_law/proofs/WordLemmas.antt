-- The word of an instruction has 32 bits.
use Rattle.std.proofs.Common.{ℕ, ◌+◌, ◌*◌, ◌/◌, ◌%◌, ◌^◌, ◌<◌, ℤ, pos, negsuc, Some, arith}
use Rattle.rv_insn.specs.declared.insn.Cond.{Cond}
use Rattle.rv_insn.specs.declared.insn.Cond.TheVariants as conds
use Rattle.rv_insn.specs.declared.insn.Insn.{Insn}
use Rattle.rv_insn.specs.declared.insn.Insn.TheVariants as insns
use Rattle.rv_insn.specs.declared.insn.ImmOp.{ImmOp}
use Rattle.rv_insn.specs.declared.insn.ImmOp.TheVariants as imm_ops
use Rattle.rv_insn.specs.declared.insn.LoadKind.{LoadKind}
use Rattle.rv_insn.specs.declared.insn.LoadKind.TheVariants as loads
use Rattle.rv_insn.specs.declared.insn.StoreKind.{StoreKind}
use Rattle.rv_insn.specs.declared.insn.StoreKind.TheVariants as stores
use Rattle.rv_insn.specs.declared.insn.Op.{Op}
use Rattle.rv_insn.specs.declared.insn.Op.TheVariants as ops
use Rattle.rv_insn.specs.Word.{IsSigned, low_bits, word_by, i_word, s_word, b_word, j_word}
use Rattle.rv_insn.specs.Rows.{cond_funct3, load_funct3, store_funct3, imm_funct3, imm_funct7, op_funct3, op_funct7}
use Rattle.rv_insn.specs.Insn.{IsShift, IsImmOf, InRange, imm_word, word_of}

bits-small : (half : ℕ) (z : ℤ) → IsSigned half z → low_bits (2 * half) z < 2 * half
bits-small half (pos n) h = omega arith
bits-small half (negsuc n) h = omega arith

shift-small : (z : ℤ) → IsShift z → low_bits 32 z < 32
shift-small (pos n) h = h
shift-small (negsuc n) h = absurd h

fields-small : (opcode rd funct3 rs1 rs2 funct7 : ℕ) → opcode < 128 → rd < 32 → funct3 < 8 → rs1 < 32 → rs2 < 32
    → funct7 < 128 → word_by opcode rd funct3 rs1 rs2 funct7 < 2 ^ 32
fields-small opcode rd funct3 rs1 rs2 funct7 o d f r s g = omega arith

-- ---- rows

cond-small : (cond : Cond) → cond_funct3 cond < 8
cond-small conds.Beq = omega arith
cond-small conds.Bne = omega arith
cond-small conds.Blt = omega arith
cond-small conds.Bge = omega arith
cond-small conds.Bltu = omega arith
cond-small conds.Bgeu = omega arith

load-small : (kind : LoadKind) → load_funct3 kind < 8
load-small loads.Lb = omega arith
load-small loads.Lh = omega arith
load-small loads.Lw = omega arith
load-small loads.Lbu = omega arith
load-small loads.Lhu = omega arith

store-small : (kind : StoreKind) → store_funct3 kind < 8
store-small stores.Sb = omega arith
store-small stores.Sh = omega arith
store-small stores.Sw = omega arith

op-small : (op : Op) → (op_funct3 op < 8) × (op_funct7 op < 128)
op-small ops.Add = (omega arith, omega arith)
op-small ops.Sub = (omega arith, omega arith)
op-small ops.Sll = (omega arith, omega arith)
op-small ops.Slt = (omega arith, omega arith)
op-small ops.Sltu = (omega arith, omega arith)
op-small ops.Xor = (omega arith, omega arith)
op-small ops.Srl = (omega arith, omega arith)
op-small ops.Sra = (omega arith, omega arith)
op-small ops.Or = (omega arith, omega arith)
op-small ops.And = (omega arith, omega arith)

-- ---- forms

i-small : (opcode rd funct3 rs1 : ℕ) (imm : ℤ) → opcode < 128 → rd < 32 → funct3 < 8 → rs1 < 32
    → IsSigned (2 ^ 11) imm → i_word opcode rd funct3 rs1 imm < 2 ^ 32
i-small opcode rd funct3 rs1 imm o d f r h =
    let n = low_bits (2 ^ 12) imm in
    let small = bits-small (2 ^ 11) imm h in
    fields-small opcode rd funct3 rs1 (n % 32) (n / 32) o d f r (omega arith) (omega (arith, small))

s-small : (opcode funct3 rs1 rs2 : ℕ) (imm : ℤ) → opcode < 128 → funct3 < 8 → rs1 < 32 → rs2 < 32
    → IsSigned (2 ^ 11) imm → s_word opcode funct3 rs1 rs2 imm < 2 ^ 32
s-small opcode funct3 rs1 rs2 imm o f r s h =
    let n = low_bits (2 ^ 12) imm in
    let small = bits-small (2 ^ 11) imm h in
    fields-small opcode (n % 32) funct3 rs1 rs2 (n / 32) o (omega arith) f r s (omega (arith, small))

b-small : (opcode funct3 rs1 rs2 : ℕ) (off : ℤ) → opcode < 128 → funct3 < 8 → rs1 < 32 → rs2 < 32
    → IsSigned (2 ^ 12) off → b_word opcode funct3 rs1 rs2 off < 2 ^ 32
b-small opcode funct3 rs1 rs2 off o f r s h =
    let n = low_bits (2 ^ 13) off in
    let small = bits-small (2 ^ 12) off h in
    fields-small opcode (n / 2 ^ 11 % 2 + 2 * (n / 2 % 16)) funct3 rs1 rs2 (n / 2 ^ 5 % 64 + 64 * (n / 2 ^ 12)) o
    (omega arith) f r s (omega (arith, small))

j-small : (opcode rd : ℕ) (off : ℤ) → opcode < 128 → rd < 32 → IsSigned (2 ^ 20) off → j_word opcode rd off < 2 ^ 32
j-small opcode rd off o d h = let small = bits-small (2 ^ 20) off h in omega (arith, small)

shift-word : (rd funct3 rs1 funct7 : ℕ) (imm : ℤ) → rd < 32 → funct3 < 8 → rs1 < 32 → funct7 < 128 → IsShift imm
    → imm_word (Some funct7) rd funct3 rs1 imm < 2 ^ 32
shift-word rd funct3 rs1 funct7 imm d f r s h =
    fields-small 0x13 rd funct3 rs1 (low_bits 32 imm) funct7 (omega arith) d f r (shift-small imm h) s

op_imm-small : (op : ImmOp) (rd rs1 : ℕ) (imm : ℤ) → rd < 32 → rs1 < 32 → IsImmOf (imm_funct7 op) imm
    → imm_word (imm_funct7 op) rd (imm_funct3 op) rs1 imm < 2 ^ 32
op_imm-small imm_ops.Slli rd rs1 imm d r h = shift-word rd 1 rs1 0 imm d (omega arith) r (omega arith) h
op_imm-small imm_ops.Srli rd rs1 imm d r h = shift-word rd 5 rs1 0 imm d (omega arith) r (omega arith) h
op_imm-small imm_ops.Srai rd rs1 imm d r h = shift-word rd 5 rs1 32 imm d (omega arith) r (omega arith) h
op_imm-small imm_ops.Addi rd rs1 imm d r h = i-small 0x13 rd 0 rs1 imm (omega arith) d (omega arith) r h
op_imm-small imm_ops.Slti rd rs1 imm d r h = i-small 0x13 rd 2 rs1 imm (omega arith) d (omega arith) r h
op_imm-small imm_ops.Sltiu rd rs1 imm d r h = i-small 0x13 rd 3 rs1 imm (omega arith) d (omega arith) r h
op_imm-small imm_ops.Xori rd rs1 imm d r h = i-small 0x13 rd 4 rs1 imm (omega arith) d (omega arith) r h
op_imm-small imm_ops.Ori rd rs1 imm d r h = i-small 0x13 rd 6 rs1 imm (omega arith) d (omega arith) r h
op_imm-small imm_ops.Andi rd rs1 imm d r h = i-small 0x13 rd 7 rs1 imm (omega arith) d (omega arith) r h

pub word-small : (insn : Insn) → InRange insn → word_of insn < 2 ^ 32
word-small (insns.Lui rd imm) is = omega (arith, is.0, is.1)
word-small (insns.Auipc rd imm) is = omega (arith, is.0, is.1)
word-small (insns.Jal rd off) is = j-small 0x6f rd off (omega arith) is.0 is.1
word-small (insns.Jalr rd rs1 imm) is = i-small 0x67 rd 0 rs1 imm (omega arith) is.0 (omega arith) is.1 is.2
word-small (insns.Branch cond rs1 rs2 off) is =
    b-small 0x63 (cond_funct3 cond) rs1 rs2 off (omega arith) (cond-small cond) is.0 is.1 is.2
word-small (insns.Load kind rd rs1 imm) is =
    i-small 0x03 rd (load_funct3 kind) rs1 imm (omega arith) is.0 (load-small kind) is.1 is.2
word-small (insns.Store kind rs1 rs2 imm) is =
    s-small 0x23 (store_funct3 kind) rs1 rs2 imm (omega arith) (store-small kind) is.0 is.1 is.2
word-small (insns.OpImm op rd rs1 imm) is = op_imm-small op rd rs1 imm is.0 is.1 is.2
word-small (insns.Op op rd rs1 rs2) is =
    let row = op-small op in
    fields-small 0x33 rd (op_funct3 op) rs1 rs2 (op_funct7 op) (omega arith) is.0 row.0 is.1 is.2 row.1
word-small (insns.Fence fields) is = omega (arith, is.0, is.1, is.2)
word-small insns.Ecall is = omega arith
word-small insns.Ebreak is = omega arith
