-- Private data in pages. A page is made by the first fill or store of which a byte lies in it; one that is not made reads
-- as zero.
use Rattle.std.specs.Prelude.{ℕ, ◌-◌, ◌/◌, Bool, true, false, List, length, replicate, slice_set, sum_by, if◌then◌else◌}
use Rattle.std.specs.List.{fold, range_with_len}
use Rattle.rv_insn.specs.declared.insn.StoreKind.{StoreKind}
use Rattle.cfi_unit.specs.declared.fill.Fill.{Fill}
use Rattle.cfi_word.specs.declared.map.TheConstants.{DATA_START, DATA_BYTES}
use Rattle.cfi_model.specs.Data.{zeroes, stored, filled_by}
use Rattle.cfi_model.specs.declared.pages.TheConstants.{PAGE_BYTES, PAGES}

-- the bytes of private data, and for each page whether it is made
pub record Memory : Type 0 where
  pub bytes : List ℕ
  pub made : List Bool

-- no page is made
abbrev pub no_pages : List Bool
no_pages = replicate PAGES false

-- the page of an offset is made
abbrev pub touched : List Bool → (offset : ℕ) → List Bool
touched made offset = slice_set made (offset / PAGE_BYTES) true

-- the pages of so many offsets from the first on are made
abbrev pub touched_from : List Bool → (first count : ℕ) → List Bool
touched_from made first count = fold touched made (range_with_len first count)

-- the pages of a fill's bytes are made
abbrev pub touched_by : List Bool → Fill → List Bool
touched_by made fill = touched_from made (fill.at - DATA_START) (length fill.bytes)

-- the pages of fills are made
abbrev pub touched_by_all : List Bool → List Fill → List Bool
touched_by_all made fills = fold touched_by made fills

-- how many pages are made
abbrev pub page_count : List Bool → ℕ
page_count made = sum_by (λ page. if page then 1 else 0) made

-- private data at a start, before any fill
abbrev pub blank_memory : Memory
blank_memory = record { bytes = zeroes DATA_BYTES; made = no_pages }

-- private data after a store
abbrev pub memory_stored : StoreKind → Memory → (offset value : ℕ) → Memory
memory_stored kind m offset value = record { bytes = stored kind m.bytes offset value; made = touched m.made offset }

-- private data after fills, one after the other
abbrev pub memory_filled : Memory → List Fill → Memory
memory_filled m fills = record { bytes = filled_by m.bytes fills; made = touched_by_all m.made fills }
