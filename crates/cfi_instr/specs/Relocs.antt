-- Where the relocations of a module may sit, and what they may name (RISC-V ELF psABI, "Relocations", for the field of
-- each kind). Offsets are in bytes.
use Rattle.std.specs.Prelude.{◌≡◌, ◌⊎◌, ℕ, ◌*◌, ◌/◌, Bool, true, false, List, take, Some}
use Rattle.std.specs.List.{Contains}
use Rattle.elf_read.specs.declared.object.Symbol.{Symbol}
use Rattle.elf_read.specs.declared.object.Reloc.{Reloc}
use Rattle.elf_read.specs.declared.object.Area.TheVariants as areas
use Rattle.elf_read.specs.declared.object.Place.TheVariants as places
use Rattle.elf_read.specs.declared.relocation.TheConstants.{BRANCH, JAL, PCREL_HI20, PCREL_LO12_I, PCREL_LO12_S, HI20, LO12_I, LO12_S}
use Rattle.elf_read.specs.Relocation.{is_of_pair}
use Rattle.rv_insn.specs.declared.insn.Insn.{Insn}
use Rattle.rv_insn.specs.declared.insn.Insn.TheVariants as insns
use Rattle.rv_insn.specs.declared.insn.ImmOp.TheVariants.{Addi}
use Rattle.cfi_aux.specs.declared.records.Function.{Function}
use Rattle.cfi_aux.specs.Extent.{IsCovered}
use Rattle.cfi_instr.specs.Words.{Words, insn_at}
use Rattle.cfi_instr.specs.Items.{is_pair, item_of, IsItemBound}
use Rattle.cfi_instr.specs.Target.{offset_from, named_symbol}

-- the kinds of a low part, in an instruction of form I and of form S
abbrev pub IsLowOfI : (kind : ℕ) → Type 0
IsLowOfI kind = (kind ≡ PCREL_LO12_I) ⊎ (kind ≡ LO12_I)

-- the kind is the low part of a store's address
abbrev pub IsLowOfS : (kind : ℕ) → Type 0
IsLowOfS kind = (kind ≡ PCREL_LO12_S) ⊎ (kind ≡ LO12_S)

-- an instruction has the field that relocations of the kind fill
abbrev pub HasFieldOf : (kind : ℕ) → Insn → Type 0
HasFieldOf kind (insns.Branch cond rs1 rs2 off) = kind ≡ BRANCH
HasFieldOf kind (insns.Jal rd off) = kind ≡ JAL
HasFieldOf kind (insns.Auipc rd imm) = kind ≡ PCREL_HI20
HasFieldOf kind (insns.Lui rd imm) = kind ≡ HI20
HasFieldOf kind (insns.Load load rd rs1 imm) = IsLowOfI kind
HasFieldOf kind (insns.OpImm op rd rs1 imm) = (op ≡ Addi) × IsLowOfI kind
HasFieldOf kind (insns.Jalr rd rs1 imm) = IsLowOfI kind
HasFieldOf kind (insns.Store store rs1 rs2 imm) = IsLowOfS kind
HasFieldOf kind insn = ⊥

-- a pair begins at the word where the kind is one of a pair; else the word is an instruction with the kind's field
abbrev pub FitsAs : (of_pair : Bool) → Words → (kind w : ℕ) → Type 0
FitsAs true t kind w = is_pair t w ≡ true
FitsAs false t kind w = (insn : Insn) × (insn_at t w ≡ Some insn) × HasFieldOf kind insn

-- a relocation of the kind fits on the word, or on the pair that begins there
abbrev pub FitsOn : Words → (kind w : ℕ) → Type 0
FitsOn t kind w = FitsAs (is_of_pair kind) t kind w

-- a relocation of the text sits on the item on which another is
pub record SharesItem (t : Words) (other reloc : Reloc) : Type 0 where
  pub area : other.area ≡ areas.Text
  pub item : item_of t (other.offset / 4) ≡ item_of t (reloc.offset / 4)

-- a relocation of the text fits what it sits on, an item of a function on which no earlier one sits
pub record SitsOnItem (t : Words) (functions : List Function) (earlier : List Reloc) (reloc : Reloc) : Type 0 where
  pub fits : FitsOn t reloc.kind (reloc.offset / 4)
  pub home : IsCovered functions (4 * item_of t (reloc.offset / 4))
  pub alone : (other : Reloc) → Contains earlier other → ¬ SharesItem t other reloc

-- a symbol of the text that a relocation names is led by its addend to an item's start or the text's end
abbrev pub NamesWell : Words → List Symbol → Reloc → Type 0
NamesWell t symbols reloc =
    (symbol : Symbol) → named_symbol symbols reloc ≡ Some symbol → symbol.place ≡ places.Text
    → (to : ℕ) × (offset_from symbol.value reloc.addend ≡ Some to) × IsItemBound t to

-- a relocation after those before it
pub record IsRelocPlaced (t : Words) (symbols : List Symbol) (functions : List Function) (earlier : List Reloc)
    (reloc : Reloc) : Type 0 where
  pub sits : reloc.area ≡ areas.Text → SitsOnItem t functions earlier reloc
  pub names : NamesWell t symbols reloc

-- the relocation of the number is well placed
abbrev pub IsRelocPlacedBehind : Words → List Symbol → List Function → List Reloc → (number : ℕ) → Reloc → Type 0
IsRelocPlacedBehind t symbols functions relocs number reloc =
    IsRelocPlaced t symbols functions (take number relocs) reloc
