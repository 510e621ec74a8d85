-- The name that a statement refers to by a relocation, and the relocation's kind (RISC-V ELF psABI).
use Rattle.std.specs.Prelude.{ℕ, Bool, ◌||◌, ◌==◌, List, Option, Some, None}
use Rattle.elf_read.specs.declared.relocation.TheConstants as relocs
use Rattle.rv_line.specs.declared.statement.Statement.{Statement}
use Rattle.rv_line.specs.declared.statement.Statement.TheVariants as statements
use Rattle.rv_line.specs.declared.statement.Low.{Low}
use Rattle.rv_line.specs.declared.statement.Low.TheVariants as lows
use Rattle.rv_line.specs.declared.statement.High.{High}
use Rattle.rv_line.specs.declared.statement.High.TheVariants as highs
use Rattle.rv_line.specs.declared.statement.Target.{Target}
use Rattle.rv_line.specs.declared.statement.Target.TheVariants as targets
use Rattle.rv_line.specs.declared.statement.Datum.{Datum}
use Rattle.rv_line.specs.declared.statement.Datum.TheVariants as data_words

-- by an immediate of 12 bits, whose kinds depend on the instruction's form
abbrev pub low_reference : (lo pcrel_lo : ℕ) → Low → Option (ℕ × List ℕ)
low_reference lo pcrel_lo (lows.Number number) = None
low_reference lo pcrel_lo (lows.Lo name) = Some (lo, name)
low_reference lo pcrel_lo (lows.PcrelLo name) = Some (pcrel_lo, name)

-- by an immediate of 20 bits
abbrev pub high_reference : High → Option (ℕ × List ℕ)
high_reference (highs.Number number) = None
high_reference (highs.Hi name) = Some (relocs.HI20, name)
high_reference (highs.PcrelHi name) = Some (relocs.PCREL_HI20, name)

-- by where a jump or a branch leads
abbrev pub target_reference : (kind : ℕ) → Target → Option (ℕ × List ℕ)
target_reference kind (targets.Name name) = Some (kind, name)
target_reference kind (targets.Offset number) = None

-- the name to which a datum refers
abbrev pub datum_reference : Datum → Option (ℕ × List ℕ)
datum_reference (data_words.Number number) = None
datum_reference (data_words.Name name) = Some (relocs.WORD, name)

-- that to which a statement refers, with its relocation's kind
abbrev pub reference_of : Statement → Option (ℕ × List ℕ)
reference_of (statements.OpImm op rd rs1 imm) = low_reference relocs.LO12_I relocs.PCREL_LO12_I imm
reference_of (statements.Load kind rd rs1 imm) = low_reference relocs.LO12_I relocs.PCREL_LO12_I imm
reference_of (statements.Store kind rs1 rs2 imm) = low_reference relocs.LO12_S relocs.PCREL_LO12_S imm
reference_of (statements.Branch cond rs1 rs2 target) = target_reference relocs.BRANCH target
reference_of (statements.Lui rd imm) = high_reference imm
reference_of (statements.Auipc rd imm) = high_reference imm
reference_of (statements.Jal rd target) = target_reference relocs.JAL target
reference_of (statements.Jalr rd rs1 imm) = low_reference relocs.LO12_I relocs.PCREL_LO12_I imm
reference_of (statements.La rd name) = Some (relocs.PCREL_HI20, name)
reference_of (statements.Call name) = Some (relocs.CALL_PLT, name)
reference_of (statements.Tail name) = Some (relocs.CALL_PLT, name)
reference_of (statements.Word datum) = datum_reference datum
reference_of statement = None

-- a jump or a branch to a name that the text has is resolved, and needs no relocation
abbrev pub is_leap : (kind : ℕ) → Bool
is_leap kind = kind == relocs.BRANCH || kind == relocs.JAL

-- the name must be that of an `auipc` of the text
abbrev pub is_partner : (kind : ℕ) → Bool
is_partner kind = kind == relocs.PCREL_LO12_I || kind == relocs.PCREL_LO12_S
