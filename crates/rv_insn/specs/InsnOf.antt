-- The instruction that a word is, as a function of the word, by its opcode and the row of the table.
use Rattle.std.specs.Prelude.{ℕ, ◌-◌, ◌%◌, ◌^◌, ◌==◌, ◌&&◌, Bool, true, ℤ, pos, List, [], ◌∷◌, Option, Some, None, if◌then◌else◌, find, option_map}
use Rattle.rv_insn.specs.declared.insn.Insn.{Insn}
use Rattle.rv_insn.specs.declared.insn.Insn.TheVariants as insns
use Rattle.rv_insn.specs.declared.insn.Cond.{Cond}
use Rattle.rv_insn.specs.declared.insn.Cond.TheVariants.{Beq, Bne, Blt, Bge, Bltu, Bgeu}
use Rattle.rv_insn.specs.declared.insn.LoadKind.{LoadKind}
use Rattle.rv_insn.specs.declared.insn.LoadKind.TheVariants.{Lb, Lh, Lw, Lbu, Lhu}
use Rattle.rv_insn.specs.declared.insn.StoreKind.{StoreKind}
use Rattle.rv_insn.specs.declared.insn.StoreKind.TheVariants.{Sb, Sh, Sw}
use Rattle.rv_insn.specs.declared.insn.ImmOp.{ImmOp}
use Rattle.rv_insn.specs.declared.insn.ImmOp.TheVariants.{Addi, Slli, Slti, Sltiu, Xori, Srli, Srai, Ori, Andi}
use Rattle.rv_insn.specs.declared.insn.Op.{Op}
use Rattle.rv_insn.specs.declared.insn.Op.TheVariants.{Add, Sub, Sll, Slt, Sltu, Xor, Srl, Sra, Or, And}
use Rattle.rv_insn.specs.declared.opcode.TheConstants as opcodes
use Rattle.rv_insn.specs.Rows.{cond_funct3, load_funct3, store_funct3, imm_funct3, imm_funct7, op_funct3, op_funct7}
use Rattle.rv_insn.specs.Fields.{fields_at, imm_i_at, imm_s_at, imm_b_at, imm_u_at, imm_j_at}

-- the rows that share an opcode
abbrev pub conds : List Cond
conds = Beq ∷ Bne ∷ Blt ∷ Bge ∷ Bltu ∷ Bgeu ∷ []

-- the loads, in the table's order
abbrev pub load_kinds : List LoadKind
load_kinds = Lb ∷ Lh ∷ Lw ∷ Lbu ∷ Lhu ∷ []

-- the stores, in the table's order
abbrev pub store_kinds : List StoreKind
store_kinds = Sb ∷ Sh ∷ Sw ∷ []

-- the operations on an immediate, in the table's order
abbrev pub imm_ops : List ImmOp
imm_ops = Addi ∷ Slli ∷ Slti ∷ Sltiu ∷ Xori ∷ Srli ∷ Srai ∷ Ori ∷ Andi ∷ []

-- the operations on registers, in the table's order
abbrev pub ops : List Op
ops = Add ∷ Sub ∷ Sll ∷ Slt ∷ Sltu ∷ Xor ∷ Srl ∷ Sra ∷ Or ∷ And ∷ []

-- the condition of a branch's funct3
abbrev pub cond_at : (funct3 : ℕ) → Option Cond
cond_at funct3 = find (λ cond. cond_funct3 cond == funct3) conds

-- the kind of a load's funct3
abbrev pub load_at : (funct3 : ℕ) → Option LoadKind
load_at funct3 = find (λ kind. load_funct3 kind == funct3) load_kinds

-- the kind of a store's funct3
abbrev pub store_at : (funct3 : ℕ) → Option StoreKind
store_at funct3 = find (λ kind. store_funct3 kind == funct3) store_kinds

-- the row has this funct7, or none
abbrev pub allows_funct7 : Option ℕ → ℕ → Bool
allows_funct7 None funct7 = true
allows_funct7 (Some row) funct7 = row == funct7

-- the operation on an immediate of this funct3 and, in a shift, this funct7
abbrev pub imm_op_at : (funct3 funct7 : ℕ) → Option ImmOp
imm_op_at funct3 funct7 =
    find (λ op. (imm_funct3 op == funct3) && allows_funct7 (imm_funct7 op) funct7)
    imm_ops

-- the operation on two registers of this funct3 and funct7
abbrev pub op_at : (funct3 funct7 : ℕ) → Option Op
op_at funct3 funct7 =
    find (λ op. (op_funct3 op == funct3) && (op_funct7 op == funct7)) ops

-- the number that an operation takes: a shift's places, else the immediate of form I
abbrev pub imm_value : (funct7 : Option ℕ) → (imm : ℤ) → (rs2 : ℕ) → ℤ
imm_value None imm rs2 = imm
imm_value (Some funct7) imm rs2 = pos rs2

-- the rows of one opcode, over what a word's fields hold
abbrev pub jalr_row : (funct3 rd rs1 : ℕ) → ℤ → Option Insn
jalr_row funct3 rd rs1 imm = if funct3 == 0 then Some (insns.Jalr rd rs1 imm) else None

-- the branch of a row
abbrev pub branch_row : (funct3 rs1 rs2 : ℕ) → ℤ → Option Insn
branch_row funct3 rs1 rs2 off = option_map (λ cond. insns.Branch cond rs1 rs2 off) (cond_at funct3)

-- the load of a row
abbrev pub load_row : (funct3 rd rs1 : ℕ) → ℤ → Option Insn
load_row funct3 rd rs1 imm = option_map (λ kind. insns.Load kind rd rs1 imm) (load_at funct3)

-- the store of a row
abbrev pub store_row : (funct3 rs1 rs2 : ℕ) → ℤ → Option Insn
store_row funct3 rs1 rs2 imm = option_map (λ kind. insns.Store kind rs1 rs2 imm) (store_at funct3)

-- the operation on an immediate of a row
abbrev pub imm_row : (funct3 funct7 rd rs1 rs2 : ℕ) → ℤ → Option Insn
imm_row funct3 funct7 rd rs1 rs2 imm =
    option_map (λ op. insns.OpImm op rd rs1 (imm_value (imm_funct7 op) imm rs2)) (imm_op_at funct3 funct7)

-- the operation on registers of a row
abbrev pub op_row : (funct3 funct7 rd rs1 rs2 : ℕ) → Option Insn
op_row funct3 funct7 rd rs1 rs2 = option_map (λ op. insns.Op op rd rs1 rs2) (op_at funct3 funct7)

-- a fence, whose fields are what its word has beside the opcode
abbrev pub fence_row : (funct3 word : ℕ) → Option Insn
fence_row funct3 word = if funct3 == 0 then Some (insns.Fence (word - opcodes.FENCE)) else None

-- ECALL or EBREAK
abbrev pub system_row : (word : ℕ) → Option Insn
system_row word =
    if word == opcodes.ECALL then Some insns.Ecall else (if word == opcodes.EBREAK then Some insns.Ebreak else None)

-- the row of an opcode
abbrev pub row_of : (opcode word : ℕ) → Option Insn
row_of opcode word =
    let f = fields_at word in
    if opcode == opcodes.LUI then Some (insns.Lui f.rd (imm_u_at word)) else
    (if opcode == opcodes.AUIPC then Some (insns.Auipc f.rd (imm_u_at word)) else
    (if opcode == opcodes.JAL then Some (insns.Jal f.rd (imm_j_at word)) else
    (if opcode == opcodes.JALR then jalr_row f.funct3 f.rd f.rs1 (imm_i_at word) else
    (if opcode == opcodes.BRANCH then branch_row f.funct3 f.rs1 f.rs2 (imm_b_at word) else
    (if opcode == opcodes.LOAD then load_row f.funct3 f.rd f.rs1 (imm_i_at word) else
    (if opcode == opcodes.STORE then store_row f.funct3 f.rs1 f.rs2 (imm_s_at word) else
    (if opcode == opcodes.OP_IMM then imm_row f.funct3 f.funct7 f.rd f.rs1 f.rs2 (imm_i_at word) else
    (if opcode == opcodes.OP then op_row f.funct3 f.funct7 f.rd f.rs1 f.rs2 else
    (if opcode == opcodes.FENCE then fence_row f.funct3 word else
    (if opcode == opcodes.SYSTEM then system_row word else None))))))))))

-- the instruction that a word is, if it is one
unfoldable pub insn_of : ℕ → Option Insn
insn_of word = row_of (word % 2 ^ 7) word
