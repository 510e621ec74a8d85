-- What a word becomes when its field gets a number (RISC-V ELF psABI, "Relocations").
use Rattle.std.specs.Prelude.{ℕ, ◌+◌, ◌-◌, ◌%◌, ◌^◌, if◌then◌else◌, Option, option_map, option_and_then, Result, Ok, Err}
use Rattle.std.specs.Option.{ok_or}
use Rattle.rv_insn.specs.declared.insn.Insn.{Insn}
use Rattle.rv_insn.specs.Insn.{word_of}
use Rattle.rv_insn.specs.InsnOf.{insn_of}
use Rattle.rv_reloc.specs.declared.fault.RelocFault.{RelocFault}
use Rattle.rv_reloc.specs.declared.fault.RelocFault.TheVariants as faults
use Rattle.rv_reloc.specs.declared.table.Form.{Form}
use Rattle.rv_reloc.specs.declared.table.Field.{Field}
use Rattle.rv_reloc.specs.declared.table.Field.TheVariants as fields
use Rattle.rv_reloc.specs.Form.{fits, with_number}

-- the word of the instruction, with the number in its immediate; refused where it has another form
abbrev pub changed : Form → (number : ℕ) → Option Insn → Result ℕ RelocFault
changed form number insn = ok_or (option_map word_of (option_and_then (with_number form number) insn)) faults.Field

-- the word of an instruction gets the number, where that fits
abbrev pub immediate : Form → (number word : ℕ) → Result ℕ RelocFault
immediate form number word = if fits form number then changed form number (insn_of word) else Err faults.Range

-- a case for each field; sums are taken modulo 2 ^ 32
abbrev pub filled : Field → (number word : ℕ) → Result ℕ RelocFault
filled fields.Word number word = Ok number
filled fields.Sum number word = Ok ((word + number) % 2 ^ 32)
filled fields.Difference number word = Ok ((word + (2 ^ 32 - number)) % 2 ^ 32)
filled (fields.Immediate form) number word = immediate form number word
