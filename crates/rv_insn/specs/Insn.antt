-- The instructions and their words: a case for each row (RISC-V Unprivileged ISA 20191213, chapter 24).
-- An offset is in bytes; a register is a number below 32.
use Rattle.std.specs.Prelude.{◌≡◌, ℕ, ◌+◌, ◌/◌, ◌%◌, ◌^◌, ◌<◌, ℤ, pos, negsuc, Option, Some, None, ⊤}
use Rattle.rv_insn.specs.declared.insn.Insn.{Insn}
use Rattle.rv_insn.specs.declared.insn.Insn.TheVariants as insns
use Rattle.rv_insn.specs.declared.opcode.TheConstants as opcodes
use Rattle.rv_insn.specs.Word.{IsSigned, IsEven, low_bits, word_by, i_word, s_word, b_word, u_word, j_word}
use Rattle.rv_insn.specs.Rows.{cond_funct3, load_funct3, store_funct3, imm_funct3, imm_funct7, op_funct3, op_funct7}

-- the number of a register
abbrev pub IsReg : ℕ → Type 0
IsReg r = r < 32

-- the number of places of a shift
abbrev pub IsShift : ℤ → Type 0
IsShift (pos n) = n < 32
IsShift (negsuc n) = ⊥

-- the immediate of an operation, which is a shift where it has a funct7
abbrev pub IsImmOf : (funct7 : Option ℕ) → ℤ → Type 0
IsImmOf None imm = IsSigned (2 ^ 11) imm
IsImmOf (Some funct7) imm = IsShift imm

-- bits 0 to 6 and 12 to 14 are 0
abbrev pub IsFence : ℕ → Type 0
IsFence fields = (fields % 2 ^ 7 ≡ 0) × (fields / 2 ^ 12 % 8 ≡ 0) × (fields < 2 ^ 32)

-- the fields are in range
abbrev pub InRange : Insn → Type 0
InRange (insns.Lui rd imm) = IsReg rd × (imm < 2 ^ 20)
InRange (insns.Auipc rd imm) = IsReg rd × (imm < 2 ^ 20)
InRange (insns.Jal rd off) = IsReg rd × IsSigned (2 ^ 20) off × IsEven off
InRange (insns.Jalr rd rs1 imm) = IsReg rd × IsReg rs1 × IsSigned (2 ^ 11) imm
InRange (insns.Branch cond rs1 rs2 off) = IsReg rs1 × IsReg rs2 × IsSigned (2 ^ 12) off × IsEven off
InRange (insns.Load kind rd rs1 imm) = IsReg rd × IsReg rs1 × IsSigned (2 ^ 11) imm
InRange (insns.Store kind rs1 rs2 imm) = IsReg rs1 × IsReg rs2 × IsSigned (2 ^ 11) imm
InRange (insns.OpImm op rd rs1 imm) = IsReg rd × IsReg rs1 × IsImmOf (imm_funct7 op) imm
InRange (insns.Op op rd rs1 rs2) = IsReg rd × IsReg rs1 × IsReg rs2
InRange (insns.Fence fields) = IsFence fields
InRange insns.Ecall = ⊤
InRange insns.Ebreak = ⊤

-- the word of an operation on an immediate: a shift has its places in the field of rs2
abbrev pub imm_word : (funct7 : Option ℕ) → (rd funct3 rs1 : ℕ) → ℤ → ℕ
imm_word None rd funct3 rs1 imm = i_word opcodes.OP_IMM rd funct3 rs1 imm
imm_word (Some funct7) rd funct3 rs1 imm = word_by opcodes.OP_IMM rd funct3 rs1 (low_bits 32 imm) funct7

-- the word of an instruction
abbrev pub word_of : Insn → ℕ
word_of (insns.Lui rd imm) = u_word opcodes.LUI rd imm
word_of (insns.Auipc rd imm) = u_word opcodes.AUIPC rd imm
word_of (insns.Jal rd off) = j_word opcodes.JAL rd off
word_of (insns.Jalr rd rs1 imm) = i_word opcodes.JALR rd 0 rs1 imm
word_of (insns.Branch cond rs1 rs2 off) = b_word opcodes.BRANCH (cond_funct3 cond) rs1 rs2 off
word_of (insns.Load kind rd rs1 imm) = i_word opcodes.LOAD rd (load_funct3 kind) rs1 imm
word_of (insns.Store kind rs1 rs2 imm) = s_word opcodes.STORE (store_funct3 kind) rs1 rs2 imm
word_of (insns.OpImm op rd rs1 imm) = imm_word (imm_funct7 op) rd (imm_funct3 op) rs1 imm
word_of (insns.Op op rd rs1 rs2) = word_by opcodes.OP rd (op_funct3 op) rs1 rs2 (op_funct7 op)
word_of (insns.Fence fields) = opcodes.FENCE + fields
word_of insns.Ecall = opcodes.ECALL
word_of insns.Ebreak = opcodes.EBREAK

-- the word is this instruction
pub record IsWord (insn : Insn) (word : ℕ) : Type 0 where
  pub range : InRange insn
  pub spelled : word ≡ word_of insn
