-- What bytes become when a relocation is applied to them, or why it can not be (RISC-V ELF psABI, "Relocations").
use Rattle.std.specs.Prelude.{ℕ, ◌+◌, List, Option, Some, None, Result, Ok, Err}
use Rattle.elf_read.specs.declared.object.Reloc.{Reloc}
use Rattle.rv_reloc.specs.declared.fault.RelocFault.{RelocFault}
use Rattle.rv_reloc.specs.declared.table.Form.{Form}
use Rattle.rv_reloc.specs.declared.table.Rule.{Rule}
use Rattle.rv_reloc.specs.Table.{rule_of}
use Rattle.rv_reloc.specs.Formula.{number_by}
use Rattle.rv_reloc.specs.Field.{immediate, filled}
use Rattle.rv_reloc.specs.Bytes.{word_at, with_word}
use Rattle.cfi_values.specs.Then.{◌>>=◌}

-- the second word that a row changes, where it changes two
abbrev pub filled_next : (next : Option Form) → (number word : ℕ) → Result (Option ℕ) RelocFault
filled_next None number word = Ok None
filled_next (Some form) number word = immediate form number word >>= λ new. Ok (Some new)

-- the bytes with the word of a second instruction, where there is one
abbrev pub with_next : (at : ℕ) → (word : Option ℕ) → List ℕ → List ℕ
with_next at None bytes = bytes
with_next at (Some word) bytes = with_word at word bytes

-- the words of a row get the number
abbrev pub written : Rule → (number at : ℕ) → List ℕ → Result (List ℕ) RelocFault
written rule number at bytes =
    filled rule.field number (word_at at bytes) >>= λ word.
    filled_next rule.next number (word_at (at + 4) bytes) >>= λ next.
    Ok (with_next (at + 4) next (with_word at word bytes))

-- a relocation of a row; one of none changes nothing
abbrev pub applied_by : Option Rule → Reloc → (at value : ℕ) → (partner : Option ℕ) → List ℕ
    → Result (List ℕ) RelocFault
applied_by None reloc at value partner bytes = Ok bytes
applied_by (Some rule) reloc at value partner bytes =
    number_by rule.formula value reloc.addend at partner >>= λ number. written rule number reloc.offset bytes

-- the relocation applied: its field stands at the address `at`, `value` is its symbol's
abbrev pub applied : Reloc → (at value : ℕ) → (partner : Option ℕ) → List ℕ → Result (List ℕ) RelocFault
applied reloc at value partner bytes = applied_by (rule_of reloc.kind) reloc at value partner bytes
