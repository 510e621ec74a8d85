-- Which modules can be instrumented but for the length of the output, and the first fault of one that can not: a row
-- is looked at after those before it, and within a row the least place decides. Places of words are in bytes from the
-- text's start; relocations, functions and indirect jumps go by their numbers, from 0.
use Rattle.std.specs.Prelude.{◌≡◌, ◌⊎◌, ℕ, ◌*◌, List, length, Option, ⊤}
use Rattle.elf_read.specs.Lists.{Each, IsFirstBreak, own_number}
use Rattle.elf_read.specs.declared.object.Symbol.{Symbol}
use Rattle.elf_read.specs.declared.object.Reloc.{Reloc}
use Rattle.rv_insn.specs.declared.insn.Insn.{Insn}
use Rattle.cfi_aux.specs.declared.records.Function.{Function}
use Rattle.cfi_aux.specs.declared.records.Kind.{Kind}
use Rattle.cfi_aux.specs.declared.modules.Module.{Module}
use Rattle.cfi_instr.specs.declared.fault.InstrFault.{InstrFault}
use Rattle.cfi_instr.specs.declared.fault.InstrFault.TheVariants as faults
use Rattle.cfi_instr.specs.Words.{Words, read_words, count_of}
use Rattle.cfi_instr.specs.Insns.{OfInsn, IsInsn, NamesFree, IsNoTrap, LinksWell}
use Rattle.cfi_instr.specs.Functions.{IsFormedBehind, EndsInPadding, EndsInJump}
use Rattle.cfi_instr.specs.Relocs.{IsRelocPlacedBehind}
use Rattle.cfi_instr.specs.Leads.{WordLeadsWell}
use Rattle.cfi_instr.specs.Jumps.{ordinal_of, HasRecord, AreUsed, SwitchFits}

-- what the rows are about: the words that are read, and the module's symbols, relocations, functions and branches
pub record Input : Type 0 where
  pub words : Words
  pub symbols : List Symbol
  pub relocs : List Reloc
  pub functions : List Function
  pub branches : List Kind

-- the input that a module with these words is
abbrev pub input_by : Words → Module → Input
input_by words m = record {
  words = words;
  symbols = m.object.symbols;
  relocs = m.object.relocs;
  functions = m.records.functions;
  branches = m.records.branches;
}

-- the input that a module is
abbrev pub input_of : Module → Input
input_of m = input_by (read_words m.object) m

-- ---- what is asked, row by row

-- every word is an instruction, on free registers, no trap, and no jump that links elsewhere
pub record HasGoodWords (t : Words) : Type 0 where
  pub legal : Each t.insns IsInsn
  pub free : Each t.insns (OfInsn NamesFree)
  pub quiet : Each t.insns (OfInsn IsNoTrap)
  pub linked : Each t.insns (OfInsn LinksWell)

-- relocations are well placed, each after those before it
abbrev pub HasGoodRelocs : Input → Type 0
HasGoodRelocs p = Each p.relocs (IsRelocPlacedBehind p.words p.symbols p.functions p.relocs)

-- functions are well formed, each behind the one before
abbrev pub HasGoodFunctions : Input → Type 0
HasGoodFunctions p = Each p.functions (IsFormedBehind p.words p.functions)

-- words, relocations and functions are as they must be
pub record HasGoodShape (p : Input) : Type 0 where
  pub words : HasGoodWords p.words
  pub relocs : HasGoodRelocs p
  pub functions : HasGoodFunctions p
  pub padding : EndsInPadding p.words p.functions

-- each direct jump leads where it may
abbrev pub HasGoodTargets : Input → Type 0
HasGoodTargets p = Each p.words.insns (WordLeadsWell p.words p.symbols p.functions)

-- and each indirect one has its record
pub record HasGoodJumps (p : Input) : Type 0 where
  pub shaped : HasGoodShape p
  pub targets : HasGoodTargets p
  pub records : Each p.words.insns (HasRecord p.words p.branches)
  pub used : AreUsed p.words p.branches

-- the entries of switches are items of their functions
abbrev pub HasGoodSwitches : Input → Type 0
HasGoodSwitches p = Each p.words.insns (SwitchFits p.words p.functions p.branches)

-- the module can be instrumented
pub record IsInstrumentable (p : Input) : Type 0 where
  pub jumps : HasGoodJumps p
  pub switches : HasGoodSwitches p
  pub ends : Each p.functions (EndsInJump p.words)

-- ---- the first fault, a case a row

-- where a word is in bytes, and the number of an indirect jump
abbrev pub word_place : (w : ℕ) → Option Insn → ℕ
word_place w insn = 4 * w

-- the number of the branch at a word
abbrev pub jump_number : Words → (w : ℕ) → Option Insn → ℕ
jump_number t w insn = ordinal_of t w

-- the first word of which P does not hold is at the offset
abbrev pub IsFirstWord : Words → (P : ℕ → Option Insn → Type 0) → (offset : ℕ) → Type 0
IsFirstWord t P offset = IsFirstBreak t.insns word_place P offset

-- the first item that names a register which is kept free
abbrev pub IsFirstReserved : Words → (offset : ℕ) → Type 0
IsFirstReserved t o = Each t.insns IsInsn × IsFirstWord t (OfInsn NamesFree) o

-- the first that is no trap of those taken, where none is reserved
abbrev pub IsFirstTrap : Words → (offset : ℕ) → Type 0
IsFirstTrap t o = Each t.insns IsInsn × Each t.insns (OfInsn NamesFree) × IsFirstWord t (OfInsn IsNoTrap) o

-- the first that links another register than it may, where none breaks a rule before
abbrev pub IsFirstBadLink : Words → (offset : ℕ) → Type 0
IsFirstBadLink t o = Each t.insns IsInsn × Each t.insns (OfInsn NamesFree) × Each t.insns (OfInsn IsNoTrap)
    × IsFirstWord t (OfInsn LinksWell) o

-- the first relocation that is out of its place
abbrev pub IsFirstBadReloc : Input → (k : ℕ) → Type 0
IsFirstBadReloc p k = HasGoodWords p.words
    × IsFirstBreak p.relocs own_number (IsRelocPlacedBehind p.words p.symbols p.functions p.relocs) k

-- the first function that is malformed; their number where none is, and the rest of the text is no padding
abbrev pub IsFirstMalformed : Words → List Function → (k : ℕ) → Type 0
IsFirstMalformed t functions k = IsFirstBreak functions own_number (IsFormedBehind t functions) k
    ⊎ ((k ≡ length functions) × Each functions (IsFormedBehind t functions) × ¬ EndsInPadding t functions)

-- the first function that is malformed, where relocations are in place
abbrev pub IsFirstBadFunction : Input → (k : ℕ) → Type 0
IsFirstBadFunction p k = HasGoodWords p.words × HasGoodRelocs p × IsFirstMalformed p.words p.functions k

-- the first item that leads where it may not, where functions are well formed
abbrev pub IsFirstLost : Input → (offset : ℕ) → Type 0
IsFirstLost p o = HasGoodShape p × IsFirstWord p.words (WordLeadsWell p.words p.symbols p.functions) o

-- the first indirect jump without its record; the text's length where each has one, and records are left over
abbrev pub IsFirstBare : Words → List Kind → (offset : ℕ) → Type 0
IsFirstBare t branches o = IsFirstWord t (HasRecord t branches) o
    ⊎ ((o ≡ 4 * count_of t) × Each t.insns (HasRecord t branches) × ¬ AreUsed t branches)

-- the first indirect jump without a fitting branch, where all lead well
abbrev pub IsFirstUnkind : Input → (offset : ℕ) → Type 0
IsFirstUnkind p o = HasGoodShape p × HasGoodTargets p × IsFirstBare p.words p.branches o

-- the first switch with an entry elsewhere, where each indirect jump has its branch
abbrev pub IsFirstBadSwitch : Input → (k : ℕ) → Type 0
IsFirstBadSwitch p k = HasGoodJumps p
    × IsFirstBreak p.words.insns (jump_number p.words) (SwitchFits p.words p.functions p.branches) k

-- the first function that falls through, where all else is well
abbrev pub IsFirstFalling : Input → (k : ℕ) → Type 0
IsFirstFalling p k =
    HasGoodJumps p × HasGoodSwitches p × IsFirstBreak p.functions own_number (EndsInJump p.words) k

-- the first fault but for the length of the output, which is none of these rows
abbrev pub IsFirstFlaw : Input → InstrFault → Type 0
IsFirstFlaw p (faults.Illegal o) = IsFirstWord p.words IsInsn o
IsFirstFlaw p (faults.Reserved o) = IsFirstReserved p.words o
IsFirstFlaw p (faults.Trap o) = IsFirstTrap p.words o
IsFirstFlaw p (faults.BadLink o) = IsFirstBadLink p.words o
IsFirstFlaw p (faults.BadReloc k) = IsFirstBadReloc p k
IsFirstFlaw p (faults.Function k) = IsFirstBadFunction p k
IsFirstFlaw p (faults.Stray o) = IsFirstLost p o
IsFirstFlaw p (faults.NoKind o) = IsFirstUnkind p o
IsFirstFlaw p (faults.Switch k) = IsFirstBadSwitch p k
IsFirstFlaw p (faults.FallsThrough k) = IsFirstFalling p k
IsFirstFlaw p faults.TooLong = ⊥
IsFirstFlaw p faults.Memory = ⊤
