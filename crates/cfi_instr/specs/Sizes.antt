-- How many words the unit of each item has, and where it begins in the output. `long` says of each word of the input
-- whether it is a long branch; offsets are in bytes.
use Rattle.std.specs.Prelude.{ℕ, ◌+◌, ◌*◌, ◌/◌, ◌<◌, ◌≤◌, Bool, false, if◌then◌else◌, List, map, Option, Some, None, slice_index, slice_index_or, ⊤}
use Rattle.std.specs.List.{range_with_len}
use Rattle.elf_read.specs.Places.{total_of}
use Rattle.rv_insn.specs.declared.insn.Insn.{Insn}
use Rattle.rv_insn.specs.declared.insn.Insn.TheVariants as insns
use Rattle.cfi_instr.specs.declared.fault.InstrFault.{InstrFault}
use Rattle.cfi_instr.specs.declared.fault.InstrFault.TheVariants as faults
use Rattle.cfi_instr.specs.Words.{Words, insn_at, count_of}
use Rattle.cfi_instr.specs.Items.{is_inner, item_of}
use Rattle.cfi_instr.specs.declared.sizes.TheConstants.{ACCESS_WORDS, CHECK_WORDS, LONG_WORDS, MAX_WORDS, MAX_BYTES}

-- the branch at the word is long
abbrev pub is_long : (long : List Bool) → (w : ℕ) → Bool
is_long long w = slice_index_or long w false

-- the words of a unit: a masked access, a check, a branch over a jump, one instruction
abbrev pub item_size : (long : Bool) → Insn → ℕ
item_size long (insns.Load kind rd rs1 imm) = ACCESS_WORDS
item_size long (insns.Store kind rs1 rs2 imm) = ACCESS_WORDS
item_size long (insns.Jalr rd rs1 imm) = CHECK_WORDS
item_size long (insns.Branch cond rs1 rs2 off) = if long then LONG_WORDS else 1
item_size long insn = 1

-- the words of a unit; none where no item begins
abbrev pub size_by : (long : Bool) → Option Insn → ℕ
size_by long None = 0
size_by long (Some insn) = item_size long insn

-- the words that a word of the input becomes; a pair becomes one, which its second word adds nothing to
unfoldable pub size_at : Words → (long : List Bool) → (w : ℕ) → ℕ
size_at t long w = if is_inner t w then 0 else size_by (is_long long w) (insn_at t w)

-- how many words of the output come before the unit of a word
abbrev pub words_before : Words → (long : List Bool) → (w : ℕ) → ℕ
words_before t long w = total_of (size_at t long) w

-- the offset of each word's unit in the output, and of the output's end
abbrev pub offset_of : Words → (long : List Bool) → (w : ℕ) → ℕ
offset_of t long w = 4 * words_before t long w

-- where the units of all words begin, and where the last one ends
abbrev pub offsets_of : Words → (long : List Bool) → List ℕ
offsets_of t long = map (offset_of t long) (range_with_len 0 (count_of t + 1))

-- where an offset of the input goes: to the start of its item's unit, and the text's end to the output's end
abbrev pub moved : Words → (offsets : List ℕ) → (offset : ℕ) → ℕ
moved t offsets offset = slice_index offsets (item_of t (offset / 4))

-- no offset is above the limit
abbrev pub AreSmall : (offsets : List ℕ) → Type 0
AreSmall offsets = (w : ℕ) → slice_index offsets w ≤ MAX_BYTES

-- the output is longer than it may be, unless memory ran out
abbrev pub IsOver : Words → (long : List Bool) → InstrFault → Type 0
IsOver t long faults.TooLong = MAX_WORDS < words_before t long (count_of t)
IsOver t long faults.Memory = ⊤
IsOver t long fault = ⊥
