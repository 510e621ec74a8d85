-- How private data lies in pages: each place of a page has the number of its page in a pool, whose first page is one of
-- zeroes for all places that are not made.
use Rattle.std.specs.Prelude.{◌≡◌, ◌≢◌, ℕ, ◌+◌, ◌/◌, ◌%◌, ◌<◌, ◌==◌, Bool, not, List, [], length, map, replicate, slice_index, slice_index_or, All}
use Rattle.std.specs.List.{range_with_len}
use Rattle.cfi_word.specs.declared.map.TheConstants.{DATA_BYTES}
use Rattle.cfi_model.specs.declared.pages.TheConstants.{PAGE_BYTES, PAGES}
use Rattle.cfi_model.specs.Pages.{Memory, page_count}

-- the page of a number in the pool
abbrev pub page_at : List (List ℕ) → (number : ℕ) → List ℕ
page_at pool number = slice_index_or pool number []

-- the byte at an offset
abbrev pub paged_byte : (numbers : List ℕ) → (pool : List (List ℕ)) → (offset : ℕ) → ℕ
paged_byte numbers pool offset =
    slice_index (page_at pool (slice_index numbers (offset / PAGE_BYTES))) (offset % PAGE_BYTES)

-- all bytes
unfoldable pub paged_bytes : (numbers : List ℕ) → (pool : List (List ℕ)) → List ℕ
paged_bytes numbers pool = map (paged_byte numbers pool) (range_with_len 0 DATA_BYTES)

-- which pages are made: those whose number is not that of the page of zeroes
abbrev pub made_by : (numbers : List ℕ) → List Bool
made_by numbers = map (λ number. not (number == 0)) numbers

-- what the numbers and the pool stand for
abbrev pub memory_by : (numbers : List ℕ) → (pool : List (List ℕ)) → Memory
memory_by numbers pool = record { bytes = paged_bytes numbers pool; made = made_by numbers }

-- the numbers are those of pages of the pool, each but that of the page of zeroes once, and there is room for all pages
pub record IsPaged (numbers : List ℕ) (pool : List (List ℕ)) (capacity : ℕ) : Type 0 where
  pub places : length numbers ≡ PAGES
  pub zero : page_at pool 0 ≡ replicate PAGE_BYTES 0
  pub sizes : All (λ page. length page ≡ PAGE_BYTES) pool
  pub below : All (λ number. number < length pool) numbers
  pub apart : (j k : ℕ) → j < PAGES → k < PAGES → slice_index numbers j ≡ slice_index numbers k
      → slice_index numbers j ≢ 0 → j ≡ k
  pub count : length pool ≡ 1 + page_count (made_by numbers)
  pub room : PAGES < capacity
