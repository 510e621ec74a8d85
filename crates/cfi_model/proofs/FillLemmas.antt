-- Bytes that are written into pages, and the pages that they make.
use Rattle.std.proofs.Common.{◌≡◌, ◌≢◌, ℕ, zero, suc, ◌+◌, ◌-◌, ◌/◌, ◌%◌, ◌<◌, ◌≤◌, ◌==◌, Bool, true, false, cond, nat_lt, List, ◌++◌, length, take, drop, slice_index, slice_index_or, slice_set, refl, sym, ◌∙◌, ap, arith}
use Rattle.std.specs.List.{splice}
use Rattle.std.proofs.lemmas.Bool.Decides.{nat_tests}
use Rattle.std.proofs.lemmas.List.{append_assoc, drop-drop, get_or-append_right, get_or_append_left, get_or-drop, get_or-take, length-append, length-drop, length-take, set-set}
use Rattle.std.proofs.Math.Seq.{take-append_seam, drop-append-add}
use Rattle.cfi_word.specs.declared.map.TheConstants.{DATA_BYTES}
use Rattle.cfi_model.specs.declared.pages.TheConstants.{PAGE_BYTES}
use Rattle.cfi_model.specs.Pages.{touched, touched_from}
use Rattle.cfi_model.specs.inner.Paged.{paged_bytes, made_by, IsPaged}
use Rattle.cfi_model.proofs.PagedLemmas.{page_of, length_paged, byte_near, number_low, page_size, page_found, replaced_paged, made_number}

-- ---- a list with a part written anew
module _ (l xs : List ℕ) (i : ℕ) (fits : i + length xs ≤ length l) where
  abbrev before : List ℕ
  before = take i l

  abbrev after : List ℕ
  after = drop (i + length xs) l

  before_size : length before ≡ i
  before_size = length-take i l ∙ omega (arith, fits)

  pub length_spliced : length (splice l i (i + length xs) xs) ≡ length l
  length_spliced =
      let rest = length-drop (i + length xs) l in
      let tail = length-append xs after in
      length-append before (xs ++ after) ∙ omega (arith, fits, rest, tail, before_size)

  -- before, within and after the part
  pub spliced_before : (k : ℕ) → k < i → slice_index (splice l i (i + length xs) xs) k ≡ slice_index l k
  spliced_before k h =
      get_or_append_left before (xs ++ after) 0 k (omega (arith, h, before_size)) ∙ get_or-take i l k 0 h

  pub spliced_within : (k : ℕ) → i ≤ k → k < i + length xs
      → slice_index (splice l i (i + length xs) xs) k ≡ slice_index xs (k - i)
  spliced_within k low high =
      get_or-append_right before (xs ++ after) i k 0 before_size low
      ∙ get_or_append_left xs after 0 (k - i) (omega (arith, low, high))

  pub spliced_after : (k : ℕ) → i + length xs ≤ k
      → slice_index (splice l i (i + length xs) xs) k ≡ slice_index l k
  spliced_after k low =
      let place : i + length xs + (k - i - length xs) ≡ k = omega (arith, low) in
      get_or-append_right before (xs ++ after) i k 0 before_size (omega (arith, low))
      ∙ get_or-append_right xs after (length xs) (k - i) 0 refl (omega (arith, low))
      ∙ get_or-drop (i + length xs) l (k - i - length xs) 0
      ∙ ap (λ n. slice_index l n) place

-- one part after the other
pub spliced_both : (l xs ys : List ℕ) (i : ℕ) → i + length xs + length ys ≤ length l
    → splice (splice l i (i + length xs) xs) (i + length xs) (i + length xs + length ys) ys
    ≡ splice l i (i + length (xs ++ ys)) (xs ++ ys)
spliced_both l xs ys i fits =
    let front : List ℕ = take i l ++ xs in
    let rest : List ℕ = drop (i + length xs) l in
    let size : length front ≡ i + length xs =
    length-append (take i l) xs ∙ omega (arith, fits, before_size l xs i (omega (arith, fits))) in
    let whole : splice l i (i + length xs) xs ≡ front ++ rest = sym (append_assoc (take i l) xs rest) in
    let head : take (i + length xs) (front ++ rest) ≡ front =
    ap (λ n. take n (front ++ rest)) (sym size) ∙ take-append_seam front rest in
    let tail : drop (i + length xs + length ys) (front ++ rest) ≡ drop (i + length (xs ++ ys)) l =
    ap (λ n. drop (n + length ys) (front ++ rest)) (sym size) ∙ drop-append-add front rest (length ys)
    ∙ drop-drop (length ys) (i + length xs) l ∙ ap (λ n. drop n l) (omega (arith, length-append xs ys)) in
    ap (λ m. splice m (i + length xs) (i + length xs + length ys) ys) whole
    ∙ ap (λ h. h ++ (ys ++ drop (i + length xs + length ys) (front ++ rest))) head
    ∙ ap (λ t. front ++ (ys ++ t)) tail
    ∙ append_assoc (take i l) xs (ys ++ drop (i + length (xs ++ ys)) l)
    ∙ ap (λ t. take i l ++ t) (sym (append_assoc xs ys (drop (i + length (xs ++ ys)) l)))

-- ---- bytes of one page
module _ (numbers : List ℕ) (pool : List (List ℕ)) (capacity offset : ℕ) (xs : List ℕ)
    (is : IsPaged numbers pool capacity) (low : offset < DATA_BYTES)
    (fits : offset % PAGE_BYTES + length xs ≤ PAGE_BYTES) where
  abbrev page : List ℕ
  page = page_of numbers pool offset

  abbrev at : ℕ
  at = offset % PAGE_BYTES

  size : length page ≡ PAGE_BYTES
  size = page_size numbers pool capacity _ is
      (number_low numbers pool capacity (offset / PAGE_BYTES) is (omega (arith, low)))

  inside : offset + length xs ≤ length (paged_bytes numbers pool)
  inside = let all = length_paged numbers pool in omega (arith, all, low, fits)

  byte_written : (i : ℕ) → i < DATA_BYTES → (same early late : Bool) → (i / PAGE_BYTES == offset / PAGE_BYTES) ≡ same
      → nat_lt i offset ≡ early → nat_lt i (offset + length xs) ≡ late
      → slice_index (splice (paged_bytes numbers pool) offset (offset + length xs) xs) i
      ≡ cond same (slice_index (splice page at (at + length xs) xs) (i % PAGE_BYTES))
      (slice_index (paged_bytes numbers pool) i)
  byte_written i h true true late is_same is_early is_late =
      let here : i / PAGE_BYTES ≡ offset / PAGE_BYTES = search (nat_tests, arith) in
      let first : i < offset = search (nat_tests, arith) in
      spliced_before (paged_bytes numbers pool) xs offset inside i first
      ∙ byte_near numbers pool offset i (i % PAGE_BYTES) h here refl
      ∙ sym (spliced_before page xs at (omega (arith, fits, size)) (i % PAGE_BYTES) (omega (arith, here, first)))
  byte_written i h true false true is_same is_early is_late =
      let here : i / PAGE_BYTES ≡ offset / PAGE_BYTES = search (nat_tests, arith) in
      let from : offset ≤ i = search (nat_tests, arith) in
      let to : i < offset + length xs = search (nat_tests, arith) in
      let place : i - offset ≡ i % PAGE_BYTES - at = omega (arith, here, from) in
      spliced_within (paged_bytes numbers pool) xs offset inside i from to
      ∙ ap (λ n. slice_index xs n) place
      ∙ sym (spliced_within page xs at (omega (arith, fits, size)) (i % PAGE_BYTES) (omega (arith, here, from))
      (omega (arith, here, from, to)))
  byte_written i h true false false is_same is_early is_late =
      let here : i / PAGE_BYTES ≡ offset / PAGE_BYTES = search (nat_tests, arith) in
      let from : offset + length xs ≤ i = search (nat_tests, arith) in
      spliced_after (paged_bytes numbers pool) xs offset inside i from
      ∙ byte_near numbers pool offset i (i % PAGE_BYTES) h here refl
      ∙ sym (spliced_after page xs at (omega (arith, fits, size)) (i % PAGE_BYTES) (omega (arith, here, from)))
  byte_written i h false true late is_same is_early is_late =
      let first : i < offset = search (nat_tests, arith) in
      spliced_before (paged_bytes numbers pool) xs offset inside i first
  byte_written i h false false true is_same is_early is_late =
      let there : i / PAGE_BYTES ≢ offset / PAGE_BYTES = search (nat_tests, arith) in
      let from : offset ≤ i = search (nat_tests, arith) in
      let to : i < offset + length xs = search (nat_tests, arith) in
      absurd (there (omega (arith, from, to, fits)))
  byte_written i h false false false is_same is_early is_late =
      let from : offset + length xs ≤ i = search (nat_tests, arith) in
      spliced_after (paged_bytes numbers pool) xs offset inside i from

  -- bytes that are written into the page of an offset stand there
  pub written_paged : (number : ℕ) (found : List ℕ)
      → slice_index_or (made_by numbers) (offset / PAGE_BYTES) false ≡ true
      → number ≡ slice_index numbers (offset / PAGE_BYTES) → found ≡ slice_index_or pool number found
      → paged_bytes numbers (slice_set pool number (splice found at (at + length xs) xs))
      ≡ splice (paged_bytes numbers pool) offset (offset + length xs) xs
  written_paged number found made number_is found_is =
      let apart = made_number numbers (offset / PAGE_BYTES) made in
      let put : List ℕ = splice page at (at + length xs) xs in
      ap (λ l. paged_bytes numbers (slice_set pool number (splice l at (at + length xs) xs)))
      (page_found numbers pool capacity offset number found is low number_is found_is)
      ∙ ap (λ n. paged_bytes numbers (slice_set pool n put)) number_is
      ∙ sym (replaced_paged numbers pool capacity (offset / PAGE_BYTES) is (omega (arith, low)) apart put
      (splice (paged_bytes numbers pool) offset (offset + length xs) xs)
      (length_spliced (paged_bytes numbers pool) xs offset inside ∙ length_paged numbers pool)
      (λ i h. byte_written i h (i / PAGE_BYTES == offset / PAGE_BYTES) (nat_lt i offset)
      (nat_lt i (offset + length xs)) refl refl refl))

-- ---- the pages that are made

-- a page that is made already
touched_same : (made : List Bool) (at count place : ℕ) → slice_set made place true ≡ made → at / PAGE_BYTES ≡ place
    → at % PAGE_BYTES + count ≤ PAGE_BYTES → touched_from made at count ≡ made
touched_same made at zero place same is fits = refl
touched_same made at (suc zero) place same is fits = ap (λ p. slice_set made p true) is ∙ same
touched_same made at (suc (suc count)) place same is fits =
    let next : (at + 1) / PAGE_BYTES ≡ place = omega (arith, is, fits) in
    ap (λ m. touched_from m (at + 1) (suc count)) (ap (λ p. slice_set made p true) is ∙ same)
    ∙ touched_same made (at + 1) (suc count) place same next (omega (arith, fits))

-- the page of some bytes
pub touched_page : (made : List Bool) (at count : ℕ) → 1 ≤ count → at % PAGE_BYTES + count ≤ PAGE_BYTES
    → touched_from made at count ≡ slice_set made (at / PAGE_BYTES) true
touched_page made at zero some fits = absurd (omega (arith, some))
touched_page made at (suc zero) some fits = refl
touched_page made at (suc (suc count)) some fits =
    let next : (at + 1) / PAGE_BYTES ≡ at / PAGE_BYTES = omega (arith, fits) in
    touched_same (touched made at) (at + 1) (suc count) (at / PAGE_BYTES)
    (set-set made (at / PAGE_BYTES) true true) next (omega (arith, fits))

-- the pages of more bytes
pub touched_more : (made : List Bool) (at n m to count : ℕ) → at + n ≡ to → count ≡ n + m
    → touched_from made at count ≡ touched_from (touched_from made at n) to m
touched_more made at zero m to count is all =
    let same : at ≡ to = omega (arith, is) in
    let few : count ≡ m = omega (arith, all) in
    ap (touched_from made at) few ∙ ap (λ k. touched_from made k m) same
touched_more made at (suc n) m to count is all =
    let more : count ≡ suc (n + m) = omega (arith, all) in
    ap (touched_from made at) more
    ∙ touched_more (touched made at) (at + 1) n m to (n + m) (omega (arith, is)) refl
