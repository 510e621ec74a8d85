-- What instructions are (RISC-V Unprivileged ISA 20191213, 2), and what the instrumenter asks of them.
use Rattle.std.specs.Prelude.{◌≡◌, ◌≢◌, ◌⊎◌, ℕ, ℤ, pos, negsuc, Bool, true, false, ◌==◌, Option, Some, None, ⊤}
use Rattle.rv_insn.specs.declared.insn.Insn.{Insn}
use Rattle.rv_insn.specs.declared.insn.Insn.TheVariants as insns
use Rattle.cfi_unit.specs.Free.{names_reserved}

-- ---- forms

-- it is an AUIPC
abbrev pub is_auipc : Insn → Bool
is_auipc (insns.Auipc rd imm) = true
is_auipc insn = false

-- it is a JALR
abbrev pub is_jalr : Insn → Bool
is_jalr (insns.Jalr rd rs1 imm) = true
is_jalr insn = false

-- it is a conditional branch
abbrev pub is_branch : Insn → Bool
is_branch (insns.Branch cond rs1 rs2 off) = true
is_branch insn = false

-- the number is 0
abbrev pub is_zero : ℤ → Bool
is_zero (pos n) = n == 0
is_zero (negsuc n) = false

-- ---- jumps

-- the register that a jump writes, where it is one
abbrev pub jump_writes : Insn → Option ℕ
jump_writes (insns.Jal rd off) = Some rd
jump_writes (insns.Jalr rd rs1 imm) = Some rd
jump_writes insn = None

-- a jump writes this register
abbrev pub is_link : (register : ℕ) → Option ℕ → Bool
is_link register None = false
is_link register (Some rd) = rd == register

-- a jump, direct or indirect, that links, and one that does not
abbrev pub is_linked : Insn → Bool
is_linked insn = is_link 1 (jump_writes insn)

-- a jump links nothing
abbrev pub is_unlinked : Insn → Bool
is_unlinked insn = is_link 0 (jump_writes insn)

-- ---- what the instrumenter asks of a word that is an instruction

-- it holds of a word's instruction, where it has one
abbrev pub OfInsn : (Insn → Type 0) → (w : ℕ) → Option Insn → Type 0
OfInsn P w None = ⊤
OfInsn P w (Some insn) = P insn

-- the word is one
abbrev pub IsInsn : (w : ℕ) → Option Insn → Type 0
IsInsn w insn = (is : Insn) × (insn ≡ Some is)

-- it names no register of the instrumentation
abbrev pub NamesFree : Insn → Type 0
NamesFree insn = names_reserved insn ≡ false

-- it is no EBREAK
abbrev pub IsNoTrap : Insn → Type 0
IsNoTrap insn = insn ≢ insns.Ebreak

-- a jump writes x0 or x1
abbrev pub LinksWell : Insn → Type 0
LinksWell (insns.Jal rd off) = (rd ≡ 0) ⊎ (rd ≡ 1)
LinksWell (insns.Jalr rd rs1 imm) = (rd ≡ 0) ⊎ (rd ≡ 1)
LinksWell insn = ⊤
