-- How a page is made.
use Rattle.std.proofs.Common.{◌≡◌, ◌≢◌, ℕ, ◌+◌, ◌/◌, ◌%◌, ◌<◌, ◌≤◌, ◌==◌, Bool, true, false, cond, not, List, [], ◌∷◌, ◌++◌, length, replicate, get_or, set, slice_index, slice_index_or, slice_set, refl, sym, ◌∙◌, ap, arith}
use Rattle.std.proofs.lemmas.Bool.Decides.{nat_tests}
use Rattle.std.proofs.lemmas.List.{get_or-replicate, get_or-set_same, get_or-set_other, get_or_append_left, length-set, length-append, length-map, length-replicate, map-set, set-get_or}
use Rattle.std.proofs.Math.Seq.{get_or-append_seam}
use Rattle.std.proofs.lemmas.List.Elements.{All-append, All-cons, All-nil, All-set, All-weaker, All-from_get_or}
use Rattle.std.proofs.lemmas.List.Sums.{sum_by-set, sum_by-le}
use Rattle.std.proofs.lemmas.Grind.{same_number_lists}
use Rattle.cfi_word.specs.declared.map.TheConstants.{DATA_BYTES}
use Rattle.cfi_model.specs.declared.pages.TheConstants.{PAGE_BYTES, PAGES}
use Rattle.cfi_model.specs.Data.{zeroes}
use Rattle.cfi_model.specs.Pages.{Memory, page_count}
use Rattle.cfi_model.specs.inner.Paged.{page_at, paged_byte, paged_bytes, made_by, memory_by, IsPaged}
use Rattle.cfi_model.proofs.PagedLemmas.{length_paged, byte_paged, number_low, made_at}

-- a page counts once
one_page : Bool → ℕ
one_page page = cond page 1 0

-- there are at most as many pages as places
pub count_most : (made : List Bool) → page_count made ≤ length made
count_most made =
    let most = sum_by-le (λ page. cond page 1 0) 1 made
    (All-from_get_or (λ page. cond page 1 0 ≤ 1) made false (λ i h. at_most (get_or made i false))) in
    omega (arith, most)
  where
    at_most : (page : Bool) → cond page 1 0 ≤ 1
    at_most true = omega arith
    at_most false = omega arith

-- one more page
pub count_more : (made : List Bool) (place : ℕ) → place < length made → slice_index_or made place false ≡ false
    → page_count (slice_set made place true) ≡ 1 + page_count made
count_more made place h unmade =
    let sum = sum_by-set (λ page. cond page 1 0) made place true false h in
    let old : ◌≡◌ {A = ℕ} (cond (get_or made place false) 1 0) 0 = ap (λ page. cond page 1 0) unmade in
    omega (arith, sum, old)

-- all places may be made or not
pub length_made : (numbers : List ℕ) → length (made_by numbers) ≡ length numbers
length_made numbers = length-map numbers (λ number. not (number == 0))

-- a place that is not made has the number 0
pub unmade_number : (numbers : List ℕ) (place : ℕ) → slice_index_or (made_by numbers) place false ≡ false
    → slice_index numbers place ≡ 0
unmade_number numbers place unmade =
    let is : not (slice_index numbers place == 0) ≡ false = sym (made_at numbers place) ∙ unmade in
    search (nat_tests, arith)

-- whether a place is made, as the memory says
pub seen_made : (numbers : List ℕ) (pool : List (List ℕ)) (m : Memory) (place : ℕ) (made : Bool)
    → memory_by numbers pool ≡ m → slice_index_or m.made place false ≡ made
    → slice_index_or (made_by numbers) place false ≡ made
seen_made numbers pool m place made is says =
    ap (λ (n : Memory). slice_index_or n.made place false) is ∙ says

-- how a page that is not made is made
module _ (numbers : List ℕ) (pool : List (List ℕ)) (capacity place : ℕ) (is : IsPaged numbers pool capacity)
    (within : place < PAGES) (unmade : slice_index_or (made_by numbers) place false ≡ false) where
  abbrev blank : List ℕ
  blank = replicate PAGE_BYTES 0

  abbrev numbers_new : List ℕ
  numbers_new = slice_set numbers place (length pool)

  abbrev pool_new : List (List ℕ)
  pool_new = pool ++ blank ∷ []

  -- the new page is none that is there
  pub first_page : 1 ≤ length pool
  first_page = omega (arith, is.count)

  -- what is made now
  pub made_new : made_by numbers_new ≡ slice_set (made_by numbers) place true
  made_new =
      let first = first_page in
      let some : not (length pool == 0) ≡ true = search (nat_tests, arith) in
      map-set (λ number. not (number == 0)) numbers place (length pool)
      ∙ ap (λ (b : Bool). slice_set (made_by numbers) place b) some

  -- the pages are one more
  count_new : page_count (made_by numbers_new) ≡ 1 + page_count (made_by numbers)
  count_new =
      let size = length_made numbers in
      ap page_count made_new ∙ count_more (made_by numbers) place (omega (arith, size, is.places)) unmade

  -- there is room
  pub room_left : length pool ≤ PAGES
  room_left =
      let most = count_most (made_by numbers_new) in
      let size : length (made_by numbers_new) ≡ PAGES =
      length_made numbers_new ∙ length-set numbers place (length pool) ∙ is.places in
      omega (arith, most, size, count_new, is.count)

  size_new : length pool_new ≡ length pool + 1
  size_new = length-append pool (blank ∷ [])

  -- a number that was there is none of the new page
  other_number : (k : ℕ) → k < PAGES → slice_index numbers k ≢ length pool
  other_number k h e =
      let low = number_low numbers pool capacity k is h in
      omega (arith, low, e)

  -- the number of a place now
  number_here : slice_index numbers_new place ≡ length pool
  number_here = get_or-set_same numbers place (length pool) 0 (omega (arith, is.places))

  number_there : (k : ℕ) → k ≢ place → slice_index numbers_new k ≡ slice_index numbers k
  number_there k apart = get_or-set_other numbers place k (length pool) 0 apart

  apart_new : (j k : ℕ) (at_j at_k : Bool) → (j == place) ≡ at_j → (k == place) ≡ at_k → j < PAGES → k < PAGES
      → slice_index numbers_new j ≡ slice_index numbers_new k → slice_index numbers_new j ≢ 0 → j ≡ k
  apart_new j k true true is_j is_k hj hk same some = search (nat_tests, arith)
  apart_new j k true false is_j is_k hj hk same some =
      let it : j ≡ place = search (nat_tests, arith) in
      let other : k ≢ place = search (nat_tests, arith) in
      absurd (other_number k hk
      (sym (number_there k other) ∙ sym same ∙ ap (λ n. slice_index numbers_new n) it ∙ number_here))
  apart_new j k false true is_j is_k hj hk same some =
      let it : k ≡ place = search (nat_tests, arith) in
      let other : j ≢ place = search (nat_tests, arith) in
      absurd (other_number j hj
      (sym (number_there j other) ∙ same ∙ ap (λ n. slice_index numbers_new n) it ∙ number_here))
  apart_new j k false false is_j is_k hj hk same some =
      let other_j : j ≢ place = search (nat_tests, arith) in
      let other_k : k ≢ place = search (nat_tests, arith) in
      let here_j = number_there j other_j in
      is.apart j k hj hk (sym here_j ∙ same ∙ number_there k other_k) (λ z. some (here_j ∙ z))

  -- the numbers and the pool are as they should be
  pub is_paged_new : IsPaged numbers_new pool_new capacity
  is_paged_new = record {
    places = length-set numbers place (length pool) ∙ is.places;
    zero = get_or_append_left pool (blank ∷ []) [] 0 (omega (arith, first_page)) ∙ is.zero;
    sizes = All-append (λ p. length p ≡ PAGE_BYTES) pool (blank ∷ []) is.sizes
        (All-cons (λ p. length p ≡ PAGE_BYTES) blank [] (length-replicate {A = ℕ} PAGE_BYTES 0)
        (All-nil (λ p. length p ≡ PAGE_BYTES)));
    below = All-set (λ n. n < length pool_new) numbers place (length pool) (omega (arith, size_new))
        (All-weaker (λ n. n < length pool) (λ n. n < length pool_new) (λ n h. omega (arith, size_new, h)) numbers
        is.below);
    apart = λ j k hj hk same some. apart_new j k (j == place) (k == place) refl refl hj hk same some;
    count = size_new ∙ omega (arith, is.count, count_new);
    room = is.room;
  }

  -- a byte is what it was
  byte_new : (i : ℕ) → i < DATA_BYTES → (at : Bool) → (i / PAGE_BYTES == place) ≡ at
      → paged_byte numbers_new pool_new i ≡ paged_byte numbers pool i
  byte_new i h true is_here =
      let here : i / PAGE_BYTES ≡ place = search (nat_tests, arith) in
      let zero = ap (λ n. slice_index numbers n) here ∙ unmade_number numbers place unmade in
      ap (λ p. slice_index (page_at pool_new (slice_index numbers_new p)) (i % PAGE_BYTES)) here
      ∙ ap (λ n. slice_index (page_at pool_new n) (i % PAGE_BYTES)) number_here
      ∙ ap (λ l. slice_index l (i % PAGE_BYTES)) (get_or-append_seam pool blank [] [])
      ∙ ap (λ l. slice_index l (i % PAGE_BYTES)) (sym is.zero)
      ∙ ap (λ n. slice_index (page_at pool n) (i % PAGE_BYTES)) (sym zero)
  byte_new i h false is_there =
      let there : i / PAGE_BYTES ≢ place = search (nat_tests, arith) in
      let low = number_low numbers pool capacity (i / PAGE_BYTES) is (omega (arith, h)) in
      ap (λ n. slice_index (page_at pool_new n) (i % PAGE_BYTES)) (number_there (i / PAGE_BYTES) there)
      ∙ ap (λ l. slice_index l (i % PAGE_BYTES))
      (get_or_append_left pool (blank ∷ []) [] (slice_index numbers (i / PAGE_BYTES)) low)

  -- all bytes are what they were
  pub bytes_new : paged_bytes numbers_new pool_new ≡ paged_bytes numbers pool
  bytes_new =
      let size = length_paged numbers_new pool_new in
      same_number_lists _ _ (size ∙ sym (length_paged numbers pool))
      (λ i h.
      let low : i < DATA_BYTES = omega (arith, size, h) in
      byte_paged numbers_new pool_new i low
      ∙ byte_new i low (i / PAGE_BYTES == place) refl
      ∙ sym (byte_paged numbers pool i low))

-- a page that is made is made again
pub made_again : (made : List Bool) (place : ℕ) → slice_index_or made place false ≡ true
    → slice_set made place true ≡ made
made_again made place is = ap (λ (b : Bool). set made place b) (sym is) ∙ set-get_or made place false

-- the memory has all bytes
pub seen_size : (numbers : List ℕ) (pool : List (List ℕ)) (m : Memory) → memory_by numbers pool ≡ m
    → length m.bytes ≡ DATA_BYTES
seen_size numbers pool m is = sym (ap (λ (n : Memory). length n.bytes) is) ∙ length_paged numbers pool

-- a place whose number is not 0 is made
pub numbered_made : (numbers : List ℕ) (pool : List (List ℕ)) (m : Memory) (place : ℕ)
    → memory_by numbers pool ≡ m → slice_index numbers place ≢ 0 → slice_index_or m.made place false ≡ true
numbered_made numbers pool m place is some =
    let test : not (slice_index numbers place == 0) ≡ true = search (nat_tests, arith) in
    sym (ap (λ (n : Memory). slice_index_or n.made place false) is) ∙ made_at numbers place ∙ test

-- private data without a page
abbrev no_numbers : List ℕ
no_numbers = replicate PAGES 0

abbrev zero_page : List (List ℕ)
zero_page = replicate PAGE_BYTES 0 ∷ []

number_zero : (k : ℕ) → k < PAGES → slice_index no_numbers k ≡ 0
number_zero k h = get_or-replicate PAGES k 0 0 h

-- bytes of zero
length_zeroes : (count : ℕ) → length (zeroes count) ≡ count
unfolding zeroes
length_zeroes count = length-replicate count 0

zero_at : (count i : ℕ) → i < count → slice_index (zeroes count) i ≡ 0
unfolding zeroes
zero_at count i h = get_or-replicate count i 0 0 h

pub blank_bytes : paged_bytes no_numbers zero_page ≡ zeroes DATA_BYTES
blank_bytes =
    let size = length_paged no_numbers zero_page in
    same_number_lists _ _ (size ∙ sym (length_zeroes DATA_BYTES))
    (λ i h.
    let low : i < DATA_BYTES = omega (arith, size, h) in
    byte_paged no_numbers zero_page i low
    ∙ ap (λ n. slice_index (page_at zero_page n) (i % PAGE_BYTES)) (number_zero (i / PAGE_BYTES) (omega (arith, low)))
    ∙ get_or-replicate PAGE_BYTES (i % PAGE_BYTES) 0 0 (omega arith)
    ∙ sym (zero_at DATA_BYTES i low))

pub blank_paged : (capacity : ℕ) → PAGES < capacity → IsPaged no_numbers zero_page capacity
blank_paged capacity room = record {
  places = length-replicate {A = ℕ} PAGES 0;
  zero = refl;
  sizes = All-cons (λ p. length p ≡ PAGE_BYTES) (replicate PAGE_BYTES 0) [] (length-replicate {A = ℕ} PAGE_BYTES 0)
      (All-nil (λ p. length p ≡ PAGE_BYTES));
  below = All-from_get_or (λ n. n < 1) no_numbers 0 (λ i h. below i (omega (arith, h, length-replicate {A = ℕ} PAGES 0)));
  apart = λ j k hj hk same some. absurd (some (number_zero j hj));
  count = refl;
  room = room;
}
  where
    below : (i : ℕ) → i < PAGES → slice_index no_numbers i < 1
    below i h = let zero = number_zero i h in omega (arith, zero)
