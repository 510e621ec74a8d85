-- What is read of a module's text: the instruction of each word, and the relocations that sit on it. A word's number
-- counts from 0; a relocation's offset is in bytes.
use Rattle.std.specs.Prelude.{ℕ, ◌*◌, ◌/◌, Bool, true, false, not, ◌&&◌, ◌||◌, ◌==◌, List, length, map, find, Option, None, slice_index_or, All, IfSome}
use Rattle.std.specs.List.{range_with_len}
use Rattle.elf_read.specs.declared.object.Object.{Object}
use Rattle.elf_read.specs.declared.object.Reloc.{Reloc}
use Rattle.elf_read.specs.declared.object.Area.{Area}
use Rattle.elf_read.specs.declared.object.Area.TheVariants as areas
use Rattle.elf_read.specs.Relocation.{is_of_pair}
use Rattle.rv_insn.specs.declared.insn.Insn.{Insn}
use Rattle.rv_insn.specs.Insn.{InRange}
use Rattle.rv_insn.specs.InsnOf.{insn_of}
use Rattle.rv_reloc.specs.Bytes.{word_at}

-- the instruction of each word, none where it is none; the first relocation on each word, and the first that calls
pub record Words : Type 0 where
  pub insns : List (Option Insn)
  pub relocs : List (Option Reloc)
  pub calls : List (Option Reloc)

-- words, of what is read of each
abbrev pub words_by : (insns : List (Option Insn)) (relocs calls : List (Option Reloc)) → Words
words_by insns relocs calls = record { insns = insns; relocs = relocs; calls = calls }

-- the relocation changes the text
abbrev pub is_of_text : Area → Bool
is_of_text areas.Text = true
is_of_text areas.Data = false

-- a relocation on a word of the text; with `calling`, one that changes a pair of instructions
abbrev pub sits_on : (calling : Bool) → (w : ℕ) → Reloc → Bool
sits_on calling w reloc =
    is_of_text reloc.area && reloc.offset == 4 * w && (not calling || is_of_pair reloc.kind)

-- the first such relocation of each of so many words
abbrev pub first_on : (calling : Bool) → List Reloc → (w : ℕ) → Option Reloc
first_on calling relocs w = find (sits_on calling w) relocs

-- the first relocation on each word, of those that call or of all
abbrev pub firsts_on : (calling : Bool) → List Reloc → (count : ℕ) → List (Option Reloc)
firsts_on calling relocs count = map (first_on calling relocs) (range_with_len 0 count)

-- the instructions of a text's words
abbrev pub insns_in : (text : List ℕ) → List (Option Insn)
insns_in text = map (λ w. insn_of (word_at (4 * w) text)) (range_with_len 0 (length text / 4))

-- the fields of each are in range
abbrev pub AreInsnsInRange : List (Option Insn) → Type 0
AreInsnsInRange insns = All (λ insn. IfSome insn InRange) insns

-- what is read of an object
abbrev pub read_words : Object → Words
read_words object =
    let count = length object.text / 4 in
    words_by (insns_in object.text) (firsts_on false object.relocs count) (firsts_on true object.relocs count)

-- the instruction of a word
abbrev pub insn_at : Words → (w : ℕ) → Option Insn
insn_at t w = slice_index_or t.insns w None

-- the first relocation on it
abbrev pub reloc_on : Words → (w : ℕ) → Option Reloc
reloc_on t w = slice_index_or t.relocs w None

-- the first that calls
abbrev pub call_on : Words → (w : ℕ) → Option Reloc
call_on t w = slice_index_or t.calls w None

-- how many words there are
abbrev pub count_of : Words → ℕ
count_of t = length t.insns
