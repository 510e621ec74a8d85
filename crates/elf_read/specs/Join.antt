-- Where the loaded sections lie once they are joined, in bytes from the start of the joined text or of the joined data.
use Rattle.std.specs.Prelude.{◌+◌, ◌-◌, ◌*◌, ◌/◌, ℕ, zero, suc, ◌==◌, if◌then◌else◌, min, max, List, [], ◌++◌, replicate}
use Rattle.elf_read.specs.Places.{joined, total_of}
use Rattle.elf_read.specs.Header.{section_count}
use Rattle.elf_read.specs.Section.{section_at, contents, is_text, is_data}
use Rattle.elf_read.specs.declared.section.TheConstants.{NOBITS}
use Rattle.cfi_word.specs.declared.map.TheConstants.{DATA_ALIGNMENT}

-- what section k adds to the text
unfoldable pub text_of : List ℕ → (k : ℕ) → List ℕ
text_of bytes k = if is_text bytes k then contents bytes k else []

-- how much a section adds to the text
unfoldable pub text_size : List ℕ → (k : ℕ) → ℕ
text_size bytes k = if is_text bytes k then (section_at bytes k).size else 0

-- the text: the text sections one after the other
abbrev pub joined_text : List ℕ → List ℕ
joined_text bytes = joined (text_of bytes) (section_count bytes)

-- where the text of the sections before k ends
abbrev pub text_end : List ℕ → (k : ℕ) → ℕ
text_end bytes k = total_of (text_size bytes) k

-- the alignment of data section k: 0 counts as 1, and more than 16 as 16
unfoldable pub alignment_of : List ℕ → (k : ℕ) → ℕ
alignment_of bytes k = min (max (section_at bytes k).alignment 1) DATA_ALIGNMENT

-- the next multiple of the alignment from n on
unfoldable pub aligned : (n alignment : ℕ) → ℕ
aligned n alignment = (n + (alignment - 1)) / alignment * alignment

-- where the data of the sections before k ends, and where that of section k begins
abbrev pub data_end : List ℕ → (k : ℕ) → ℕ
data_end bytes zero = 0
data_end bytes (suc k) =
    if is_data bytes k then aligned (data_end bytes k) (alignment_of bytes k) + (section_at bytes k).size
    else data_end bytes k

-- where a data section begins in the data
abbrev pub data_start : List ℕ → (k : ℕ) → ℕ
data_start bytes k = aligned (data_end bytes k) (alignment_of bytes k)

-- the contents of data section k, which are zero where the file has none
unfoldable pub data_contents : List ℕ → (k : ℕ) → List ℕ
data_contents bytes k =
    if (section_at bytes k).kind == NOBITS then replicate (section_at bytes k).size 0 else contents bytes k

-- what section k adds to the data: the gap before it, and its contents
unfoldable pub data_of : List ℕ → (k : ℕ) → List ℕ
data_of bytes k =
    if is_data bytes k then replicate (data_start bytes k - data_end bytes k) 0 ++ data_contents bytes k else []

-- the data: the data sections, each at its alignment
abbrev pub joined_data : List ℕ → List ℕ
joined_data bytes = joined (data_of bytes) (section_count bytes)

-- where loaded section k begins
unfoldable pub start_of : List ℕ → (k : ℕ) → ℕ
start_of bytes k = if is_text bytes k then text_end bytes k else data_start bytes k
