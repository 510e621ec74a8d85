-- The fields of a word that is spelled by its fields.
use Rattle.std.proofs.Common.{◌≡◌, ℕ, ◌+◌, ◌*◌, ◌/◌, ◌%◌, ◌^◌, ◌<◌, ℤ, pos, negsuc, ap, arith}
use Rattle.std.proofs.lemmas.Bool.{lt-ltb, le-ltb}
use Rattle.rv_insn.specs.Word.{IsSigned, IsEven, low_bits, word_by, i_word, s_word, b_word, j_word}
use Rattle.rv_insn.specs.Fields.{signed, imm_i_at, imm_s_at, imm_b_at, imm_j_at}

-- what the low bits of a number stand for is the number
pub signed-low_bits : (half n : ℕ) (z : ℤ) → IsSigned half z → n ≡ low_bits (2 * half) z → signed half n ≡ z
signed-low_bits half n (pos m) h e = rw (lt-ltb n half (omega arith)) (ap pos e)
signed-low_bits half n (negsuc m) h e = rw (le-ltb n half (omega arith)) (ap negsuc (omega arith))

pub imm_i-at : (word opcode rd funct3 rs1 : ℕ) (imm : ℤ) → opcode < 128 → rd < 32 → funct3 < 8 → rs1 < 32 →
    IsSigned (2 ^ 11) imm → word ≡ i_word opcode rd funct3 rs1 imm → imm_i_at word ≡ imm
imm_i-at word opcode rd funct3 rs1 (pos m) o d f r h e = signed-low_bits 2048 _ (pos m) h (omega arith)
imm_i-at word opcode rd funct3 rs1 (negsuc m) o d f r h e = signed-low_bits 2048 _ (negsuc m) h (omega arith)

pub imm_s-at : (word opcode funct3 rs1 rs2 : ℕ) (imm : ℤ) → opcode < 128 → funct3 < 8 → rs1 < 32 → rs2 < 32 →
    IsSigned (2 ^ 11) imm → word ≡ s_word opcode funct3 rs1 rs2 imm → imm_s_at word ≡ imm
imm_s-at word opcode funct3 rs1 rs2 (pos m) o f r s h e = signed-low_bits 2048 _ (pos m) h (omega arith)
imm_s-at word opcode funct3 rs1 rs2 (negsuc m) o f r s h e = signed-low_bits 2048 _ (negsuc m) h (omega arith)

pub imm_b-at : (word opcode funct3 rs1 rs2 : ℕ) (off : ℤ) → opcode < 128 → funct3 < 8 → rs1 < 32 → rs2 < 32 →
    IsSigned (2 ^ 12) off → IsEven off → word ≡ b_word opcode funct3 rs1 rs2 off → imm_b_at word ≡ off
imm_b-at word opcode funct3 rs1 rs2 (pos m) o f r s h v e = signed-low_bits 4096 _ (pos m) h (omega arith)
imm_b-at word opcode funct3 rs1 rs2 (negsuc m) o f r s h v e = signed-low_bits 4096 _ (negsuc m) h (omega arith)

pub imm_j-at : (word opcode rd : ℕ) (off : ℤ) → opcode < 128 → rd < 32 →
    IsSigned (2 ^ 20) off → IsEven off → word ≡ j_word opcode rd off → imm_j_at word ≡ off
imm_j-at word opcode rd (pos m) o d h v e = signed-low_bits 1048576 _ (pos m) h (omega arith)
imm_j-at word opcode rd (negsuc m) o d h v e = signed-low_bits 1048576 _ (negsuc m) h (omega arith)

-- the six fields of a word that is spelled by them
pub record HasFields (word opcode rd funct3 rs1 rs2 funct7 : ℕ) : Type 0 where
  pub opcode_is : word % 2 ^ 7 ≡ opcode
  pub rd_is : word / 2 ^ 7 % 32 ≡ rd
  pub funct3_is : word / 2 ^ 12 % 8 ≡ funct3
  pub rs1_is : word / 2 ^ 15 % 32 ≡ rs1
  pub rs2_is : word / 2 ^ 20 % 32 ≡ rs2
  pub funct7_is : word / 2 ^ 25 ≡ funct7

pub word_by-fields : (opcode rd funct3 rs1 rs2 funct7 : ℕ) → opcode < 128 → rd < 32 → funct3 < 8 → rs1 < 32 → rs2 < 32 →
    (word : ℕ) → word ≡ word_by opcode rd funct3 rs1 rs2 funct7 → HasFields word opcode rd funct3 rs1 rs2 funct7
word_by-fields opcode rd funct3 rs1 rs2 funct7 o d f r s word e = record {
  opcode_is = omega arith;
  rd_is = omega arith;
  funct3_is = omega arith;
  rs1_is = omega arith;
  rs2_is = omega arith;
  funct7_is = omega arith;
}

-- the parts of an immediate have the bits of their fields
pub i_word-fields : (opcode rd funct3 rs1 : ℕ) (imm : ℤ) → opcode < 128 → rd < 32 → funct3 < 8 → rs1 < 32 →
    (word : ℕ) → word ≡ i_word opcode rd funct3 rs1 imm →
    HasFields word opcode rd funct3 rs1 (low_bits (2 ^ 12) imm % 32) (low_bits (2 ^ 12) imm / 32)
i_word-fields opcode rd funct3 rs1 imm o d f r word e =
    word_by-fields opcode rd funct3 rs1 (low_bits (2 ^ 12) imm % 32) (low_bits (2 ^ 12) imm / 32) o d f r
    (omega arith) word e

pub s_word-fields : (opcode funct3 rs1 rs2 : ℕ) (imm : ℤ) → opcode < 128 → funct3 < 8 → rs1 < 32 → rs2 < 32 →
    (word : ℕ) → word ≡ s_word opcode funct3 rs1 rs2 imm →
    HasFields word opcode (low_bits (2 ^ 12) imm % 32) funct3 rs1 rs2 (low_bits (2 ^ 12) imm / 32)
s_word-fields opcode funct3 rs1 rs2 imm o f r s word e =
    word_by-fields opcode (low_bits (2 ^ 12) imm % 32) funct3 rs1 rs2 (low_bits (2 ^ 12) imm / 32) o (omega arith) f r
    s word e

pub b_word-fields : (opcode funct3 rs1 rs2 : ℕ) (off : ℤ) → opcode < 128 → funct3 < 8 → rs1 < 32 → rs2 < 32 →
    (word : ℕ) → word ≡ b_word opcode funct3 rs1 rs2 off →
    (rd funct7 : ℕ) × HasFields word opcode rd funct3 rs1 rs2 funct7
b_word-fields opcode funct3 rs1 rs2 off o f r s word e =
    let n = low_bits (2 ^ 13) off in (
      n / 2 ^ 11 % 2 + 2 * (n / 2 % 16),
      n / 2 ^ 5 % 64 + 64 * (n / 2 ^ 12),
      word_by-fields opcode _ funct3 rs1 rs2 _ o (omega arith) f r s word e,
    )
