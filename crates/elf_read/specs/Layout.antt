-- What the reader knows of a file while it joins sections.
use Rattle.std.specs.Prelude.{◌≡◌, ◌+◌, ◌<◌, ◌≤◌, ℕ, List, length, slice_index}
use Rattle.elf_read.specs.Header.{section_count}
use Rattle.elf_read.specs.Symbol.{symbol_count}
use Rattle.elf_read.specs.Object.{symbol_number}
use Rattle.elf_read.specs.Join.{start_of, text_end, data_end}
use Rattle.elf_read.specs.declared.layout.Layout.{Layout}

-- where each section begins, and the sizes of the joined text and data
pub record IsLayout (bytes : List ℕ) (layout : Layout) : Type 0 where
  pub len : length layout.starts.items ≡ section_count bytes
  pub starts : (k : ℕ) → k < section_count bytes → slice_index layout.starts.items k ≡ start_of bytes k
  pub text : layout.text_size ≡ text_end bytes (section_count bytes)
  pub static_data : layout.data_size ≡ data_end bytes (section_count bytes)

-- the number of each symbol among those that are kept, and last how many those are
pub record IsNumbering (bytes numbers : List ℕ) : Type 0 where
  pub len : length numbers ≡ symbol_count bytes + 1
  pub each : (k : ℕ) → k ≤ symbol_count bytes → slice_index numbers k ≡ symbol_number bytes k
