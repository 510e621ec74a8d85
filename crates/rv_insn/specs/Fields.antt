-- The fields of a word, and the immediates of its forms, by arithmetic (RISC-V Unprivileged ISA 20191213, 2.2 and 2.3).
use Rattle.std.specs.Prelude.{ℕ, ◌+◌, ◌-◌, ◌*◌, ◌/◌, ◌%◌, ◌^◌, Bool, ℤ, pos, negsuc, nat_lt, if◌then◌else◌}
use Rattle.rv_insn.specs.declared.fields.Fields.{Fields}

-- the six fields that each word has
abbrev pub fields_at : ℕ → Fields
fields_at word = record {
  opcode = word % 2 ^ 7;
  rd = word / 2 ^ 7 % 32;
  funct3 = word / 2 ^ 12 % 8;
  rs1 = word / 2 ^ 15 % 32;
  rs2 = word / 2 ^ 20 % 32;
  funct7 = word / 2 ^ 25;
}

-- a number below 2 * half, its highest bit read as the sign
abbrev pub signed : (half n : ℕ) → ℤ
signed half n = if nat_lt n half then pos n else negsuc (2 * half - 1 - n)

-- the immediate of form I
abbrev pub imm_i_at : ℕ → ℤ
imm_i_at word = signed (2 ^ 11) (word / 2 ^ 20)

-- the immediate of form S
abbrev pub imm_s_at : ℕ → ℤ
imm_s_at word = signed (2 ^ 11) (word / 2 ^ 7 % 32 + 2 ^ 5 * (word / 2 ^ 25))

-- the offset of form B
abbrev pub imm_b_at : ℕ → ℤ
imm_b_at word = signed (2 ^ 12)
    (2 * (word / 2 ^ 8 % 16) + 2 ^ 5 * (word / 2 ^ 25 % 64) + 2 ^ 11 * (word / 2 ^ 7 % 2) + 2 ^ 12 * (word / 2 ^ 31))

-- the immediate of form U, bits 12 to 31
abbrev pub imm_u_at : ℕ → ℕ
imm_u_at word = word / 2 ^ 12

-- the offset of form J
abbrev pub imm_j_at : ℕ → ℤ
imm_j_at word = signed (2 ^ 20)
    (2 * (word / 2 ^ 21 % 1024) + 2 ^ 11 * (word / 2 ^ 20 % 2) + 2 ^ 12 * (word / 2 ^ 12 % 256) + 2 ^ 20 *
    (word / 2 ^ 31))

-- a number in two parts (RISC-V ELF psABI, %hi and %lo): the low part, 12 bits, is added with its sign, and the high
-- part makes up for it
abbrev pub high_of : ℕ → ℕ
high_of number = (number + 2 ^ 11) % 2 ^ 32 / 2 ^ 12

-- the lower twelve bits of a number, with a sign
abbrev pub low_of : ℕ → ℤ
low_of number = signed (2 ^ 11) (number % 2 ^ 12)

-- the number is from -half to half - 1
abbrev pub is_signed : (half : ℕ) → ℤ → Bool
is_signed half (pos n) = nat_lt n half
is_signed half (negsuc n) = nat_lt n half
