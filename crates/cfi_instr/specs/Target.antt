-- Where direct jumps and relocations lead. Offsets are in bytes from the start of the text; a displacement counts from
-- the instruction's own offset (RISC-V Unprivileged ISA 20191213, 2.5).
use Rattle.std.specs.Prelude.{ℕ, ◌+◌, ◌-◌, ◌*◌, ℤ, pos, negsuc, nat_lt, if◌then◌else◌, List, Option, Some, None, option_and_then}
use Rattle.std.specs.List.{slice_get}
use Rattle.elf_read.specs.declared.object.Symbol.{Symbol}
use Rattle.elf_read.specs.declared.object.Reloc.{Reloc}
use Rattle.elf_read.specs.declared.object.Place.{Place}
use Rattle.elf_read.specs.declared.object.Place.TheVariants as places
use Rattle.cfi_instr.specs.declared.target.Aim.{Aim}
use Rattle.cfi_instr.specs.declared.target.Aim.TheVariants as aims
use Rattle.cfi_instr.specs.Words.{Words, reloc_on, call_on}
use Rattle.cfi_instr.specs.Insns.{is_zero}

-- the offset that lies so far from another; none before the start
abbrev pub offset_from : (at : ℕ) → ℤ → Option ℕ
offset_from at (pos n) = Some (at + n)
offset_from at (negsuc n) = if nat_lt n at then Some (at - (n + 1)) else None

-- the aim that an offset is; what has none is astray
abbrev pub aim_by : Option ℕ → Aim
aim_by None = aims.Astray
aim_by (Some offset) = aims.Offset offset

-- the symbol that a relocation names
abbrev pub named_symbol : List Symbol → Reloc → Option Symbol
named_symbol symbols reloc = option_and_then (λ k. slice_get symbols k) reloc.symbol

-- a symbol of another object is a name, which an addend leads away from
abbrev pub aim_at_name : (addend : ℤ) → Aim
aim_at_name addend = if is_zero addend then aims.Name else aims.Astray

-- where a symbol's place, its value and an addend lead
abbrev pub aim_at_symbol : Place → (value : ℕ) → (addend : ℤ) → Aim
aim_at_symbol places.Text value addend = aim_by (offset_from value addend)
aim_at_symbol places.Undefined value addend = aim_at_name addend
aim_at_symbol places.Absolute value addend = aims.Astray
aim_at_symbol places.Data value addend = aims.Astray

-- where a relocation's symbol and its addend lead
abbrev pub aim_through : Option Symbol → (addend : ℤ) → Aim
aim_through None addend = aims.Astray
aim_through (Some symbol) addend = aim_at_symbol symbol.place symbol.value addend

-- where a relocation leads
abbrev pub aim_of : List Symbol → Reloc → Aim
aim_of symbols reloc = aim_through (named_symbol symbols reloc) reloc.addend

-- where an instruction with a displacement leads: as its relocation says, where it has one
abbrev pub aim_under : List Symbol → Option Reloc → (plain : Option ℕ) → Aim
aim_under symbols None plain = aim_by plain
aim_under symbols (Some reloc) plain = aim_of symbols reloc

-- where the direct jump of a word leads, under the relocation that sits there
abbrev pub aim_of_jump : Words → List Symbol → (w : ℕ) → (off : ℤ) → Aim
aim_of_jump t symbols w off = aim_under symbols (reloc_on t w) (offset_from (4 * w) off)

-- where a pair leads
abbrev pub aim_of_pair : Words → List Symbol → (w : ℕ) → Aim
aim_of_pair t symbols w = aim_under symbols (call_on t w) None
