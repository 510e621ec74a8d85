-- How fields make a word (RISC-V Unprivileged ISA 20191213, 2.2 and 2.3, the base formats and their immediates).
-- Registers, funct3 and funct7 are the numbers of their bits; a signed immediate is the number that its bits stand for.
use Rattle.std.specs.Prelude.{◌≡◌, ℕ, ◌+◌, ◌-◌, ◌*◌, ◌/◌, ◌%◌, ◌^◌, ◌<◌, ℤ, pos, negsuc}

-- the number is from -half to half - 1
abbrev pub IsSigned : (half : ℕ) → ℤ → Type 0
IsSigned half (pos n) = n < half
IsSigned half (negsuc n) = n < half

-- the number is even
abbrev pub IsEven : ℤ → Type 0
IsEven (pos n) = n % 2 ≡ 0
IsEven (negsuc n) = n % 2 ≡ 1

-- the low bits of a number, of which there are as many as the modulus, a power of two, says
abbrev pub low_bits : (modulus : ℕ) → ℤ → ℕ
low_bits modulus (pos n) = n
low_bits modulus (negsuc n) = modulus - 1 - n

-- the word of six fields, from bit 0 up
abbrev pub word_by : (opcode rd funct3 rs1 rs2 funct7 : ℕ) → ℕ
word_by opcode rd funct3 rs1 rs2 funct7 =
    opcode + 2 ^ 7 * rd + 2 ^ 12 * funct3 + 2 ^ 15 * rs1 + 2 ^ 20 * rs2 + 2 ^ 25 * funct7

-- form I: bits 20 to 31 are the immediate
abbrev pub i_word : (opcode rd funct3 rs1 : ℕ) → ℤ → ℕ
i_word opcode rd funct3 rs1 imm =
    let n = low_bits (2 ^ 12) imm in word_by opcode rd funct3 rs1 (n % 32) (n / 32)

-- form S: bits 25 to 31 are imm 5 to 11, bits 7 to 11 are imm 0 to 4
abbrev pub s_word : (opcode funct3 rs1 rs2 : ℕ) → ℤ → ℕ
s_word opcode funct3 rs1 rs2 imm =
    let n = low_bits (2 ^ 12) imm in word_by opcode (n % 32) funct3 rs1 rs2 (n / 32)

-- form B: bit 31 is imm 12, bit 7 is imm 11, bits 25 to 30 are imm 5 to 10, bits 8 to 11 are imm 1 to 4
abbrev pub b_word : (opcode funct3 rs1 rs2 : ℕ) → ℤ → ℕ
b_word opcode funct3 rs1 rs2 off =
    let n = low_bits (2 ^ 13) off in
    word_by opcode (n / 2 ^ 11 % 2 + 2 * (n / 2 % 16)) funct3 rs1 rs2 (n / 2 ^ 5 % 64 + 64 * (n / 2 ^ 12))

-- form U: bits 12 to 31 are the immediate
abbrev pub u_word : (opcode rd imm : ℕ) → ℕ
u_word opcode rd imm = opcode + 2 ^ 7 * rd + 2 ^ 12 * imm

-- form J: bit 31 is imm 20, bits 12 to 19 are imm 12 to 19, bit 20 is imm 11, bits 21 to 30 are imm 1 to 10
abbrev pub j_word : (opcode rd : ℕ) → ℤ → ℕ
j_word opcode rd off =
    let n = low_bits (2 ^ 21) off in
    u_word opcode rd (n / 2 ^ 12 % 256 + 2 ^ 8 * (n / 2 ^ 11 % 2) + 2 ^ 9 * (n / 2 % 1024) + 2 ^ 19 * (n / 2 ^ 20))
