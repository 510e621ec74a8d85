-- The text of an instruction: a case a row of the table (RISC-V Unprivileged ISA 20191213, chapter 24).
-- Registers are x0 to x31, immediates signed decimal, the upper immediates hexadecimal, offsets from the instruction.
use Rattle.std.specs.Prelude.{ℕ, suc, ◌+◌, ◌==◌, ℤ, pos, negsuc, List, ◌++◌, Option, Some, None, codes, if◌then◌else◌, false, ⊤}
use Rattle.std.specs.Fmt.{decimal, signed_decimal, digits}
use Rattle.cfi_text.specs.Hex.{hex8_text}
use Rattle.rv_insn.specs.declared.insn.Insn.{Insn}
use Rattle.rv_insn.specs.declared.insn.Insn.TheVariants as insns
use Rattle.rv_insn.specs.declared.opcode.TheConstants as opcodes
use Rattle.rv_insn.specs.InsnOf.{insn_of}
use Rattle.rv_text.specs.declared.text.TheConstants.{FULL_FENCE}
use Rattle.rv_text.specs.Names.{cond_name, load_name, store_name, imm_op_name, op_name}

-- a number in lower-case hexadecimal digits, without leading zeros
abbrev pub hex : ℕ → List ℕ
hex value = digits 16 false value

-- where an offset leads, in bytes from the instruction
abbrev pub offset_text : ℤ → List ℕ
offset_text (pos n) = codes ".+" ++ decimal n
offset_text (negsuc n) = codes ".-" ++ decimal (suc n)

-- the forms of the operands, after a mnemonic
abbrev pub upper_text : (name : List ℕ) → (rd imm : ℕ) → List ℕ
upper_text name rd imm = name ++ codes " x" ++ decimal rd ++ codes ",0x" ++ hex imm

-- a jump
abbrev pub jump_text : (rd : ℕ) → (off : ℤ) → List ℕ
jump_text rd off = codes "jal x" ++ decimal rd ++ codes "," ++ offset_text off

-- a branch
abbrev pub branch_text : (name : List ℕ) → (rs1 rs2 : ℕ) → (off : ℤ) → List ℕ
branch_text name rs1 rs2 off =
    name ++ codes " x" ++ decimal rs1 ++ codes ",x" ++ decimal rs2 ++ codes "," ++ offset_text off

-- an instruction with an address, by an offset and a register
abbrev pub place_text : (name : List ℕ) → (register base : ℕ) → (imm : ℤ) → List ℕ
place_text name register base imm =
    name ++ codes " x" ++ decimal register ++ codes "," ++ signed_decimal imm ++ codes "(x" ++ decimal base ++ codes ")"

-- an operation on a register and a number
abbrev pub immediate_text : (name : List ℕ) → (rd rs1 : ℕ) → (imm : ℤ) → List ℕ
immediate_text name rd rs1 imm =
    name ++ codes " x" ++ decimal rd ++ codes ",x" ++ decimal rs1 ++ codes "," ++ signed_decimal imm

-- an operation on two registers
abbrev pub registers_text : (name : List ℕ) → (rd rs1 rs2 : ℕ) → List ℕ
registers_text name rd rs1 rs2 =
    name ++ codes " x" ++ decimal rd ++ codes ",x" ++ decimal rs1 ++ codes ",x" ++ decimal rs2

-- a word as a number
abbrev pub word_number : ℕ → List ℕ
word_number word = codes ".word 0x" ++ hex8_text word

-- the fence of everything against everything has its name, every other fence is a word
abbrev pub fence_text : (word : ℕ) → List ℕ
fence_text word = if word == FULL_FENCE then codes "fence" else word_number word

-- the instruction is no fence
abbrev pub IsNoFence : Insn → Type 0
IsNoFence (insns.Fence fields) = ⊥
IsNoFence insn = ⊤

-- the text of an instruction
abbrev pub text_of : Insn → List ℕ
text_of (insns.Lui rd imm) = upper_text (codes "lui") rd imm
text_of (insns.Auipc rd imm) = upper_text (codes "auipc") rd imm
text_of (insns.Jal rd off) = jump_text rd off
text_of (insns.Jalr rd rs1 imm) = place_text (codes "jalr") rd rs1 imm
text_of (insns.Branch cond rs1 rs2 off) = branch_text (cond_name cond) rs1 rs2 off
text_of (insns.Load kind rd rs1 imm) = place_text (load_name kind) rd rs1 imm
text_of (insns.Store kind rs1 rs2 imm) = place_text (store_name kind) rs2 rs1 imm
text_of (insns.OpImm op rd rs1 imm) = immediate_text (imm_op_name op) rd rs1 imm
text_of (insns.Op op rd rs1 rs2) = registers_text (op_name op) rd rs1 rs2
text_of (insns.Fence fields) = fence_text (opcodes.FENCE + fields)
text_of insns.Ecall = codes "ecall"
text_of insns.Ebreak = codes "ebreak"

-- a word as what `insn_of` says of it: an instruction, or a number
abbrev pub read_text : Option Insn → (word : ℕ) → List ℕ
read_text None word = word_number word
read_text (Some insn) word = text_of insn

-- the text of a word
abbrev pub word_text : ℕ → List ℕ
word_text word = read_text (insn_of word) word
