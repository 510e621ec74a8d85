-- Tests of relocations that are out of their places.
use Rattle.std.specs.Prelude.{ℕ, ◌*◌, ◌/◌, Bool, true, false, not, ◌&&◌, ◌||◌, ◌==◌, nat_lt, ℤ, List, Option, Some, None, if◌then◌else◌}
use Rattle.elf_read.specs.declared.object.Symbol.{Symbol}
use Rattle.elf_read.specs.declared.object.Reloc.{Reloc}
use Rattle.elf_read.specs.declared.object.Place.{Place}
use Rattle.elf_read.specs.declared.object.Place.TheVariants as places
use Rattle.elf_read.specs.declared.relocation.TheConstants.{BRANCH, JAL, PCREL_HI20, PCREL_LO12_I, PCREL_LO12_S, HI20, LO12_I, LO12_S}
use Rattle.elf_read.specs.Relocation.{is_of_pair}
use Rattle.rv_insn.specs.declared.insn.Insn.{Insn}
use Rattle.cfi_aux.specs.declared.records.Function.{Function}
use Rattle.cfi_instr.specs.Words.{Words, insn_at, is_of_text, count_of}
use Rattle.cfi_instr.specs.Insns.{is_auipc, is_branch}
use Rattle.cfi_values.specs.Some.{holds}
use Rattle.cfi_instr.specs.Items.{is_pair, item_of}
use Rattle.cfi_instr.specs.Target.{offset_from, named_symbol}
use Rattle.cfi_instr.specs.inner.Insns.{is_lui, is_jal, is_store, has_low}
use Rattle.cfi_instr.specs.inner.Items.{is_bound_at}
use Rattle.cfi_instr.specs.inner.Functions.{is_covered}

-- the instruction has the form of the kind: a case a row
abbrev pub has_form : (kind : ℕ) → Insn → Bool
has_form kind insn =
    (kind == BRANCH && is_branch insn)
    || (kind == JAL && is_jal insn)
    || (kind == PCREL_HI20 && is_auipc insn)
    || (kind == HI20 && is_lui insn)
    || ((kind == PCREL_LO12_I || kind == LO12_I) && has_low insn)
    || ((kind == PCREL_LO12_S || kind == LO12_S) && is_store insn)

-- what the relocation sits on has its form: a pair, or an instruction
abbrev pub fits_on : Words → (kind w : ℕ) → Bool
fits_on t kind w = if is_of_pair kind then is_pair t w else holds (has_form kind) (insn_at t w)

-- the relocation is on the item that begins at the word
abbrev pub is_on : Words → (w : ℕ) → Reloc → Bool
is_on t w reloc = is_of_text reloc.area && item_of t (reloc.offset / 4) == w && nat_lt w (count_of t)

-- it sits well in the text: on its form, in a function, on an item on which no earlier one is
abbrev pub sits_by : Words → List Function → (earlier : Bool) → Reloc → Bool
sits_by t functions earlier reloc =
    fits_on t reloc.kind (reloc.offset / 4) && is_covered functions (4 * item_of t (reloc.offset / 4)) && not earlier

-- an offset at which an item begins or the text ends
abbrev pub is_bound : Words → Option ℕ → Bool
is_bound t None = false
is_bound t (Some offset) = is_bound_at t offset

-- a symbol and an addend that do not lead into an item of the text
abbrev pub leads_to_bound : Words → Place → (value : ℕ) → (addend : ℤ) → Bool
leads_to_bound t places.Text value addend = is_bound t (offset_from value addend)
leads_to_bound t places.Undefined value addend = true
leads_to_bound t places.Absolute value addend = true
leads_to_bound t places.Data value addend = true

-- a relocation's symbol and addend name what may be named
abbrev pub names_well : Words → Option Symbol → (addend : ℤ) → Bool
names_well t None addend = true
names_well t (Some symbol) addend = leads_to_bound t symbol.place symbol.value addend

-- a relocation, where an earlier one is on its item or not
abbrev pub is_placed_by : Words → List Symbol → List Function → (earlier : Bool) → Reloc → Bool
is_placed_by t symbols functions earlier reloc =
    (not (is_of_text reloc.area) || sits_by t functions earlier reloc)
    && names_well t (named_symbol symbols reloc) reloc.addend
