-- The units of instrumented code and their instructions: a case for each kind.
-- Registers of a guest are x0 to x27; offsets are in bytes, from the unit's own address.
use Rattle.std.specs.Prelude.{◌≡◌, ℕ, ◌+◌, ◌*◌, ◌/◌, ◌%◌, ◌^◌, ◌<◌, ℤ, pos, negsuc, Bool, true, false, List, [], ◌∷◌, length, map, ⊤}
use Rattle.rv_insn.specs.declared.insn.Insn.{Insn}
use Rattle.rv_insn.specs.declared.insn.Insn.TheVariants as insns
use Rattle.rv_insn.specs.declared.insn.Cond.TheVariants.{Beq, Bne}
use Rattle.rv_insn.specs.declared.insn.LoadKind.TheVariants.{Lw}
use Rattle.rv_insn.specs.declared.insn.ImmOp.TheVariants.{Addi, Slli, Srli}
use Rattle.rv_insn.specs.declared.insn.Op.TheVariants.{Add, Xor, Or}
use Rattle.rv_insn.specs.Fields.{signed, high_of, low_of}
use Rattle.rv_insn.specs.Rows.{imm_funct7}
use Rattle.rv_insn.specs.Word.{IsSigned, IsEven}
use Rattle.rv_insn.specs.Insn.{IsImmOf, IsFence, word_of}
use Rattle.cfi_unit.specs.declared.unit.TheConstants.{FREE_REGISTERS}
use Rattle.cfi_word.specs.declared.sizes.TheConstants.{SLOTS}
use Rattle.cfi_word.specs.declared.map.TheConstants.{BARY}
use Rattle.cfi_unit.specs.declared.unit.Unit.{Unit as CodeUnit}
use Rattle.cfi_unit.specs.declared.unit.Unit.TheVariants as units

-- a register that a guest's own instructions may name
abbrev pub IsFree : ℕ → Type 0
IsFree r = r < FREE_REGISTERS

-- an instruction on such registers alone; a fence names none
abbrev pub IsPlain : Insn → Type 0
IsPlain (insns.Lui rd imm) = IsFree rd × (imm < 2 ^ 20)
IsPlain (insns.Auipc rd imm) = IsFree rd × (imm < 2 ^ 20)
IsPlain (insns.OpImm op rd rs1 imm) = IsFree rd × IsFree rs1 × IsImmOf (imm_funct7 op) imm
IsPlain (insns.Op op rd rs1 rs2) = IsFree rd × IsFree rs1 × IsFree rs2
IsPlain (insns.Fence fields) = IsFence fields
IsPlain insn = ⊥

-- what has a spelling
abbrev pub IsUnit : CodeUnit → Type 0
IsUnit (units.Plain insn) = IsPlain insn
IsUnit (units.Load kind rd rs1 imm) = IsFree rd × IsFree rs1 × IsSigned (2 ^ 11) imm
IsUnit (units.Store kind rs1 rs2 imm) = IsFree rs1 × IsFree rs2 × IsSigned (2 ^ 11) imm
IsUnit (units.Branch cond rs1 rs2 off) = IsFree rs1 × IsFree rs2 × IsSigned (2 ^ 12) off × IsEven off
IsUnit (units.Jump link off) = IsSigned (2 ^ 20) off × IsEven off
IsUnit (units.Check link rs1 imm slot) = IsFree rs1 × IsSigned (2 ^ 11) imm × (slot < SLOTS)
IsUnit units.Service = ⊤

-- the register that a jump writes: x1, or x0, which keeps nothing
abbrev pub link_register : Bool → ℕ
link_register true = 1
link_register false = 0

-- a masked access: x31 is brought into private data, 2^20 bytes from 0x40000000 on
abbrev pub masked : (rs1 : ℕ) → ℤ → (access : Insn) → List Insn
masked rs1 imm access =
    insns.OpImm Addi 31 rs1 imm
    ∷ insns.OpImm Slli 31 31 (pos 12)
    ∷ insns.OpImm Srli 31 31 (pos 12)
    ∷ insns.Lui 30 0x40000
    ∷ insns.Op Or 31 31 30
    ∷ access
    ∷ []

-- the address of the Bary ID of a slot
abbrev pub bary_address : (slot : ℕ) → ℕ
bary_address slot = BARY + 4 * slot

-- the instructions that read the Bary ID of a slot into x29
abbrev pub high_insn : (slot : ℕ) → Insn
high_insn slot = insns.Lui 28 (high_of (bary_address slot))

-- the load of a slot's word
abbrev pub low_insn : (slot : ℕ) → Insn
low_insn slot = insns.Load Lw 29 28 (low_of (bary_address slot))

-- a check: x31 is the target, in the code's 2^18 bytes; x29 is the slot's ID, x30 the target's
abbrev pub check : (link : Bool) → (rs1 : ℕ) → ℤ → (slot : ℕ) → List Insn
check link rs1 imm slot =
    insns.OpImm Addi 31 rs1 imm
    ∷ insns.OpImm Srli 30 31 (pos 18)
    ∷ insns.Branch Bne 30 0 (pos 40)
    ∷ high_insn slot
    ∷ low_insn slot
    ∷ insns.Lui 30 0x10000
    ∷ insns.Op Add 30 30 31
    ∷ insns.Load Lw 30 30 (pos 0)
    ∷ insns.Branch Beq 29 30 (pos 20)
    ∷ insns.Op Xor 30 30 29
    ∷ insns.OpImm Slli 30 30 (pos 16)
    ∷ insns.Branch Bne 30 0 (negsuc 31)
    ∷ insns.Ebreak
    ∷ insns.Jalr (link_register link) 31 (pos 0)
    ∷ []

-- the instructions of a unit
abbrev pub insns_of : CodeUnit → List Insn
insns_of (units.Plain insn) = insn ∷ []
insns_of (units.Load kind rd rs1 imm) = masked rs1 imm (insns.Load kind rd 31 (pos 0))
insns_of (units.Store kind rs1 rs2 imm) = masked rs1 imm (insns.Store kind 31 rs2 (pos 0))
insns_of (units.Branch cond rs1 rs2 off) = insns.Branch cond rs1 rs2 off ∷ []
insns_of (units.Jump link off) = insns.Jal (link_register link) off ∷ []
insns_of (units.Check link rs1 imm slot) = check link rs1 imm slot
insns_of units.Service = insns.Ecall ∷ []

-- the unit has several words, those of an access or a jump at the register and the immediate
abbrev pub IsLong : CodeUnit → (rs1 : ℕ) → ℤ → Type 0
IsLong (units.Load kind rd r i) rs1 imm = (r ≡ rs1) × (i ≡ imm)
IsLong (units.Store kind r rs2 i) rs1 imm = (r ≡ rs1) × (i ≡ imm)
IsLong (units.Check link r i slot) rs1 imm = (r ≡ rs1) × (i ≡ imm)
IsLong unit rs1 imm = ⊥

-- the words of a unit
abbrev pub words_of : CodeUnit → List ℕ
words_of unit = map word_of (insns_of unit)

-- how many words it has
abbrev pub size_of : CodeUnit → ℕ
size_of unit = length (insns_of unit)

-- the words spell the unit
pub record Spells (unit : CodeUnit) (words : List ℕ) : Type 0 where
  pub fits : IsUnit unit
  pub spelled : words ≡ words_of unit
