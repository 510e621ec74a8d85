-- Bytes that lie in pages.
use Rattle.std.proofs.Common.{◌≡◌, ◌≢◌, ℕ, ◌+◌, ◌*◌, ◌/◌, ◌%◌, ◌<◌, ◌≤◌, ◌==◌, Bool, true, false, cond, not, List, [], length, get_or, slice_index, slice_index_or, slice_set, refl, sym, ◌∙◌, ap, subst, ◌^◌, arith, All}
use Rattle.std.proofs.lemmas.Bool.Decides.{nat_tests}
use Rattle.std.proofs.Math.ListN.{get_or-map}
use Rattle.std.proofs.lemmas.List.{get_or_read_under, get_or-set_same, get_or-set_other, length-set, set-set}
use Rattle.std.proofs.lemmas.List.Elements.{All-get_or, All-set}
use Rattle.std.proofs.lemmas.List.FromFn.{get_or-map-range_with_len, length-map-range_with_len}
use Rattle.std.proofs.lemmas.Grind.{same_number_lists}
use Rattle.rv_insn.specs.declared.insn.LoadKind.{LoadKind}
use Rattle.rv_insn.specs.declared.insn.LoadKind.TheVariants.{Lb, Lh, Lw, Lbu, Lhu}
use Rattle.rv_insn.specs.declared.insn.StoreKind.{StoreKind}
use Rattle.rv_insn.specs.declared.insn.StoreKind.TheVariants.{Sb, Sh, Sw}
use Rattle.cfi_word.specs.declared.map.TheConstants.{DATA_BYTES}
use Rattle.cfi_model.specs.declared.pages.TheConstants.{PAGE_BYTES, PAGES}
use Rattle.cfi_model.specs.Data.{load_width, store_width, byte_at, half_at, loaded, stored, with_byte, with_half, sign_extended}
use Rattle.cfi_model.specs.inner.Paged.{page_at, paged_byte, paged_bytes, made_by, IsPaged}

-- all bytes are there
pub length_paged : (numbers : List ℕ) (pool : List (List ℕ)) → length (paged_bytes numbers pool) ≡ DATA_BYTES
unfolding paged_bytes
length_paged numbers pool = length-map-range_with_len (paged_byte numbers pool) 0 DATA_BYTES

-- the byte at an offset
pub byte_paged : (numbers : List ℕ) (pool : List (List ℕ)) (i : ℕ) → i < DATA_BYTES
    → slice_index (paged_bytes numbers pool) i ≡ paged_byte numbers pool i
unfolding paged_bytes
byte_paged numbers pool i h = get_or-map-range_with_len (paged_byte numbers pool) 0 DATA_BYTES i i 0 h (omega arith)

-- the page in which an offset lies
abbrev pub page_of : (numbers : List ℕ) → (pool : List (List ℕ)) → (offset : ℕ) → List ℕ
page_of numbers pool offset = page_at pool (slice_index numbers (offset / PAGE_BYTES))

-- a byte of the same page
pub byte_near : (numbers : List ℕ) (pool : List (List ℕ)) (offset i j : ℕ) → i < DATA_BYTES
    → i / PAGE_BYTES ≡ offset / PAGE_BYTES → i % PAGE_BYTES ≡ j
    → slice_index (paged_bytes numbers pool) i ≡ slice_index (page_of numbers pool offset) j
byte_near numbers pool offset i j h same rest =
    byte_paged numbers pool i h
    ∙ ap (λ p. slice_index (page_at pool (slice_index numbers p)) (i % PAGE_BYTES)) same
    ∙ ap (λ r. slice_index (page_of numbers pool offset) r) rest

-- loads of the same bytes give the same
pub record AreSameBytes (width : ℕ) (xs : List ℕ) (a : ℕ) (ys : List ℕ) (b : ℕ) : Type 0 where
  pub first : byte_at xs a ≡ byte_at ys b
  pub second : 2 ≤ width → byte_at xs (a + 1) ≡ byte_at ys (b + 1)
  pub third : 4 ≤ width → byte_at xs (a + 2) ≡ byte_at ys (b + 2)
  pub fourth : 4 ≤ width → byte_at xs (a + 2 + 1) ≡ byte_at ys (b + 2 + 1)

half_same : (xs ys : List ℕ) (a b : ℕ) → byte_at xs a ≡ byte_at ys b → byte_at xs (a + 1) ≡ byte_at ys (b + 1)
    → half_at xs a ≡ half_at ys b
half_same xs ys a b low high =
    ap (λ n. n + 2 ^ 8 * byte_at xs (a + 1)) low ∙ ap (λ n. byte_at ys b + 2 ^ 8 * n) high

loaded_same : (kind : LoadKind) (xs ys : List ℕ) (a b : ℕ) → AreSameBytes (load_width kind) xs a ys b
    → loaded kind xs a ≡ loaded kind ys b
loaded_same Lb xs ys a b same = ap (sign_extended (2 ^ 7)) same.first
loaded_same Lbu xs ys a b same = same.first
loaded_same Lh xs ys a b same =
    ap (sign_extended (2 ^ 15)) (half_same xs ys a b same.first (same.second (omega arith)))
loaded_same Lhu xs ys a b same = half_same xs ys a b same.first (same.second (omega arith))
loaded_same Lw xs ys a b same =
    ap (λ n. n + 2 ^ 16 * half_at xs (a + 2)) (half_same xs ys a b same.first (same.second (omega arith)))
    ∙ ap (λ n. half_at ys b + 2 ^ 16 * n)
    (half_same xs ys (a + 2) (b + 2) (same.third (omega arith)) (same.fourth (omega arith)))

-- an access at a multiple of its width stays in its page
pub load_fits : (kind : LoadKind) (offset : ℕ) → (offset % load_width kind == 0) ≡ true
    → offset % PAGE_BYTES + load_width kind ≤ PAGE_BYTES
load_fits Lb offset h = grind (arith, nat_tests)
load_fits Lbu offset h = grind (arith, nat_tests)
load_fits Lh offset h = grind (arith, nat_tests)
load_fits Lhu offset h = grind (arith, nat_tests)
load_fits Lw offset h = grind (arith, nat_tests)

pub store_fits : (kind : StoreKind) (offset : ℕ) → (offset % store_width kind == 0) ≡ true
    → offset % PAGE_BYTES + store_width kind ≤ PAGE_BYTES
store_fits Sb offset h = grind (arith, nat_tests)
store_fits Sh offset h = grind (arith, nat_tests)
store_fits Sw offset h = grind (arith, nat_tests)

-- a load gives what one from the page gives
pub loaded_paged : (numbers : List ℕ) (pool : List (List ℕ)) (kind : LoadKind) (offset : ℕ) → offset < DATA_BYTES
    → (offset % load_width kind == 0) ≡ true
    → loaded kind (page_of numbers pool offset) (offset % PAGE_BYTES) ≡ loaded kind (paged_bytes numbers pool) offset
loaded_paged numbers pool kind offset h whole =
    let fits = load_fits kind offset whole in
    let near = byte_near numbers pool offset in
    loaded_same kind _ _ (offset % PAGE_BYTES) offset (record {
      first = sym (near offset _ (omega arith) refl refl);
      second = λ w. sym (near (offset + 1) _ (omega arith) (omega arith) (omega arith));
      third = λ w. sym (near (offset + 2) _ (omega arith) (omega arith) (omega arith));
      fourth = λ w. sym (near (offset + 2 + 1) _ (omega arith) (omega arith) (omega arith));
    })

-- the number of a place is that of a page
pub number_low : (numbers : List ℕ) (pool : List (List ℕ)) (capacity place : ℕ) → IsPaged numbers pool capacity
    → place < PAGES → slice_index numbers place < length pool
number_low numbers pool capacity place is h =
    let inside : place < length numbers = omega (arith, is.places) in
    All-get_or (λ n. n < length pool) numbers place 0 inside is.below

-- a page of the pool is whole
pub page_size : (numbers : List ℕ) (pool : List (List ℕ)) (capacity number : ℕ) → IsPaged numbers pool capacity
    → number < length pool → length (slice_index_or pool number []) ≡ PAGE_BYTES
page_size numbers pool capacity number is h = All-get_or (λ p. length p ≡ PAGE_BYTES) pool number [] h is.sizes

-- the page that was found is that of the offset
pub page_found : (numbers : List ℕ) (pool : List (List ℕ)) (capacity offset number : ℕ) (page : List ℕ)
    → IsPaged numbers pool capacity → offset < DATA_BYTES → number ≡ slice_index numbers (offset / PAGE_BYTES)
    → page ≡ get_or pool number page → page ≡ page_of numbers pool offset
page_found numbers pool capacity offset number page is h number_is page_is =
    let low = number_low numbers pool capacity (offset / PAGE_BYTES) is (omega arith) in
    get_or_read_under pool number (length pool) page [] page_is (omega (arith, low, number_is)) refl
    ∙ ap (λ n. page_at pool n) number_is

-- what is loaded from the page that was found
pub load_found : (numbers : List ℕ) (pool : List (List ℕ)) (capacity : ℕ) (kind : LoadKind) (offset number : ℕ)
    (page : List ℕ) → IsPaged numbers pool capacity → offset < DATA_BYTES
    → (offset % load_width kind == 0) ≡ true → number ≡ slice_index numbers (offset / PAGE_BYTES)
    → page ≡ get_or pool number page
    → loaded kind page (offset % PAGE_BYTES) ≡ loaded kind (paged_bytes numbers pool) offset
load_found numbers pool capacity kind offset number page is h whole number_is page_is =
    ap (λ l. loaded kind l (offset % PAGE_BYTES))
    (page_found numbers pool capacity offset number page is h number_is page_is)
    ∙ loaded_paged numbers pool kind offset h whole

-- the page of a place is replaced
module _ (numbers : List ℕ) (pool : List (List ℕ)) (capacity place : ℕ)
    (is : IsPaged numbers pool capacity) (within : place < PAGES) (made : slice_index numbers place ≢ 0) where
  abbrev number : ℕ
  number = slice_index numbers place

  low : number < length pool
  low = number_low numbers pool capacity place is within

  -- the page stands in for the one before
  byte_of_replaced : (page : List ℕ) (i : ℕ) → i < DATA_BYTES → (same : Bool) → (i / PAGE_BYTES == place) ≡ same
      → paged_byte numbers (slice_set pool number page) i
      ≡ cond same (slice_index page (i % PAGE_BYTES)) (slice_index (paged_bytes numbers pool) i)
  byte_of_replaced page i h true is_place =
      let here : i / PAGE_BYTES ≡ place = search (nat_tests, arith) in
      ap (λ p. slice_index (page_at (slice_set pool number page) (slice_index numbers p)) (i % PAGE_BYTES)) here
      ∙ ap (λ l. slice_index l (i % PAGE_BYTES)) (get_or-set_same pool number page [] low)
  byte_of_replaced page i h false is_other =
      let there : i / PAGE_BYTES ≢ place = search (nat_tests, arith) in
      let other : slice_index numbers (i / PAGE_BYTES) ≢ number =
      λ e. there (is.apart (i / PAGE_BYTES) place (omega arith) within e (λ z. made (sym e ∙ z))) in
      ap (λ l. slice_index l (i % PAGE_BYTES)) (get_or-set_other pool number (slice_index numbers (i / PAGE_BYTES)) page [] other)
      ∙ sym (byte_paged numbers pool i h)

  -- bytes that are those of the page at its place, and as before elsewhere
  pub replaced_paged : (page bytes : List ℕ) → length bytes ≡ DATA_BYTES
      → ((i : ℕ) → i < DATA_BYTES → slice_index bytes i
      ≡ cond (i / PAGE_BYTES == place) (slice_index page (i % PAGE_BYTES)) (slice_index (paged_bytes numbers pool) i))
      → bytes ≡ paged_bytes numbers (slice_set pool number page)
  replaced_paged page bytes size agrees =
      same_number_lists bytes (paged_bytes numbers (slice_set pool number page))
      (size ∙ sym (length_paged numbers (slice_set pool number page)))
      (λ i h.
      let low_i : i < DATA_BYTES = omega arith in
      agrees i low_i
      ∙ sym (byte_of_replaced page i low_i (i / PAGE_BYTES == place) refl)
      ∙ sym (byte_paged numbers (slice_set pool number page) i low_i))

  -- the numbers and the pool are as they should be
  pub replaced_is_paged : (page : List ℕ) → length page ≡ PAGE_BYTES
      → IsPaged numbers (slice_set pool number page) capacity
  replaced_is_paged page size =
      let same : length (slice_set pool number page) ≡ length pool = length-set pool number page in
      record {
        places = is.places;
        zero = get_or-set_other pool number 0 page [] (λ e. made (sym e)) ∙ is.zero;
        sizes = All-set (λ p. length p ≡ PAGE_BYTES) pool number page size is.sizes;
        below = subst (λ n. All (λ k. k < n) numbers) (sym same) is.below;
        apart = is.apart;
        count = same ∙ is.count;
        room = is.room;
      }

  -- the page that stands there now
  pub page_at_replaced : (page : List ℕ) → page_at (slice_set pool number page) number ≡ page
  page_at_replaced page = get_or-set_same pool number page [] low

-- what is done to the page of a place does the same to the bytes
pub record Lifts (numbers : List ℕ) (capacity place : ℕ) (whole part : List ℕ → List ℕ) : Type 0 where
  pub size : (page : List ℕ) → length page ≡ PAGE_BYTES → length (part page) ≡ PAGE_BYTES
  pub lifts : (pool : List (List ℕ)) → IsPaged numbers pool capacity
      → whole (paged_bytes numbers pool)
      ≡ paged_bytes numbers (slice_set pool (slice_index numbers place)
      (part (page_at pool (slice_index numbers place))))

-- one thing after the other
lifts_both : (numbers : List ℕ) (capacity place : ℕ) (f f' g g' : List ℕ → List ℕ) → place < PAGES
    → slice_index numbers place ≢ 0 → Lifts numbers capacity place f f' → Lifts numbers capacity place g g'
    → Lifts numbers capacity place (λ l. g (f l)) (λ l. g' (f' l))
lifts_both numbers capacity place f f' g g' within made first second = record {
  size = λ page size. second.size (f' page) (first.size page size);
  lifts = λ pool is.
      let n : ℕ = slice_index numbers place in
      let page : List ℕ = f' (page_at pool n) in
      let low = number_low numbers pool capacity place is within in
      let size = first.size (page_at pool n) (page_size numbers pool capacity n is low) in
      let next = replaced_is_paged numbers pool capacity place is within made page size in
      ap g (first.lifts pool is)
      ∙ second.lifts (slice_set pool n page) next
      ∙ ap (λ l. paged_bytes numbers (slice_set (slice_set pool n page) n (g' l)))
      (page_at_replaced numbers pool capacity place is within made page)
      ∙ ap (λ p. paged_bytes numbers p) (set-set pool n page (g' page));
}

-- a byte of the page of an offset after that at the offset was written
byte_here : (numbers : List ℕ) (pool : List (List ℕ)) (offset i value : ℕ) → offset < DATA_BYTES → i < DATA_BYTES
    → length (page_of numbers pool offset) ≡ PAGE_BYTES → i / PAGE_BYTES ≡ offset / PAGE_BYTES
    → (at : Bool) → (i == offset) ≡ at
    → slice_index (slice_set (paged_bytes numbers pool) offset value) i
    ≡ slice_index (slice_set (page_of numbers pool offset) (offset % PAGE_BYTES) value) (i % PAGE_BYTES)
byte_here numbers pool offset i value h low size here true is_it =
    let it : i ≡ offset = search (nat_tests, arith) in
    let all = length_paged numbers pool in
    subst (λ j. slice_index (slice_set (paged_bytes numbers pool) offset value) j
    ≡ slice_index (slice_set (page_of numbers pool offset) (offset % PAGE_BYTES) value) (j % PAGE_BYTES))
    (sym it)
    (get_or-set_same (paged_bytes numbers pool) offset value 0 (omega (arith, all))
    ∙ sym (get_or-set_same (page_of numbers pool offset) (offset % PAGE_BYTES) value 0 (omega (arith, size))))
byte_here numbers pool offset i value h low size here false is_not =
    let other : i ≢ offset = search (nat_tests, arith) in
    get_or-set_other (paged_bytes numbers pool) offset i value 0 other
    ∙ byte_near numbers pool offset i (i % PAGE_BYTES) low here refl
    ∙ sym (get_or-set_other (page_of numbers pool offset) (offset % PAGE_BYTES) (i % PAGE_BYTES) value 0
    (λ e. other (omega (arith, here, e))))

-- a byte of any page
byte_set : (numbers : List ℕ) (pool : List (List ℕ)) (offset i value : ℕ) → offset < DATA_BYTES → i < DATA_BYTES
    → length (page_of numbers pool offset) ≡ PAGE_BYTES
    → (same : Bool) → (i / PAGE_BYTES == offset / PAGE_BYTES) ≡ same
    → slice_index (slice_set (paged_bytes numbers pool) offset value) i
    ≡ cond same (slice_index (slice_set (page_of numbers pool offset) (offset % PAGE_BYTES) value) (i % PAGE_BYTES))
    (slice_index (paged_bytes numbers pool) i)
byte_set numbers pool offset i value h low size true is_place =
    byte_here numbers pool offset i value h low size (search (nat_tests, arith)) (i == offset) refl
byte_set numbers pool offset i value h low size false is_other =
    let there : i / PAGE_BYTES ≢ offset / PAGE_BYTES = search (nat_tests, arith) in
    get_or-set_other (paged_bytes numbers pool) offset i value 0 (λ e. there (ap (λ n. n / PAGE_BYTES) e))

-- a byte
lifts_byte : (numbers : List ℕ) (capacity offset value : ℕ) → offset < DATA_BYTES
    → slice_index numbers (offset / PAGE_BYTES) ≢ 0
    → Lifts numbers capacity (offset / PAGE_BYTES) (λ l. with_byte l offset value)
    (λ l. with_byte l (offset % PAGE_BYTES) value)
lifts_byte numbers capacity offset value h made = record {
  size = λ page size. length-set page (offset % PAGE_BYTES) (value % 2 ^ 8) ∙ size;
  lifts = λ pool is.
      let place : ℕ = offset / PAGE_BYTES in
      let within : place < PAGES = omega arith in
      let n : ℕ = slice_index numbers place in
      let page : List ℕ = page_at pool n in
      let size = page_size numbers pool capacity n is (number_low numbers pool capacity place is within) in
      replaced_paged numbers pool capacity place is within made (with_byte page (offset % PAGE_BYTES) value)
      (with_byte (paged_bytes numbers pool) offset value)
      (length-set (paged_bytes numbers pool) offset (value % 2 ^ 8) ∙ length_paged numbers pool)
      (λ i low. byte_set numbers pool offset i (value % 2 ^ 8) h low size (i / PAGE_BYTES == place) refl);
}

-- a number of two bytes
lifts_half : (numbers : List ℕ) (capacity offset value : ℕ) → offset < DATA_BYTES
    → offset % PAGE_BYTES + 2 ≤ PAGE_BYTES → slice_index numbers (offset / PAGE_BYTES) ≢ 0
    → Lifts numbers capacity (offset / PAGE_BYTES) (λ l. with_half l offset value)
    (λ l. with_half l (offset % PAGE_BYTES) value)
lifts_half numbers capacity offset value h fits made =
    let same : (offset + 1) / PAGE_BYTES ≡ offset / PAGE_BYTES = omega arith in
    let rest : (offset + 1) % PAGE_BYTES ≡ offset % PAGE_BYTES + 1 = omega arith in
    let second = lifts_byte numbers capacity (offset + 1) (value / 2 ^ 8) (omega arith)
    (subst (λ p. slice_index numbers p ≢ 0) (sym same) made) in
    lifts_both numbers capacity (offset / PAGE_BYTES) _ _ _ _ (omega arith) made
    (lifts_byte numbers capacity offset value h made)
    (subst (λ p. Lifts numbers capacity p (λ l. with_byte l (offset + 1) (value / 2 ^ 8))
    (λ l. with_byte l (offset % PAGE_BYTES + 1) (value / 2 ^ 8))) same
    (subst (λ r. Lifts numbers capacity ((offset + 1) / PAGE_BYTES) (λ l. with_byte l (offset + 1) (value / 2 ^ 8))
    (λ l. with_byte l r (value / 2 ^ 8))) rest second))

-- what a store does
lifts_stored : (numbers : List ℕ) (capacity : ℕ) (kind : StoreKind) (offset value : ℕ) → offset < DATA_BYTES
    → offset % PAGE_BYTES + store_width kind ≤ PAGE_BYTES → slice_index numbers (offset / PAGE_BYTES) ≢ 0
    → Lifts numbers capacity (offset / PAGE_BYTES) (λ l. stored kind l offset value)
    (λ l. stored kind l (offset % PAGE_BYTES) value)
lifts_stored numbers capacity Sb offset value h fits made = lifts_byte numbers capacity offset value h made
lifts_stored numbers capacity Sh offset value h fits made = lifts_half numbers capacity offset value h fits made
lifts_stored numbers capacity Sw offset value h fits made =
    let same : (offset + 2) / PAGE_BYTES ≡ offset / PAGE_BYTES = omega arith in
    let rest : (offset + 2) % PAGE_BYTES ≡ offset % PAGE_BYTES + 2 = omega arith in
    let second = lifts_half numbers capacity (offset + 2) (value / 2 ^ 16) (omega arith) (omega arith)
    (subst (λ p. slice_index numbers p ≢ 0) (sym same) made) in
    lifts_both numbers capacity (offset / PAGE_BYTES) _ _ _ _ (omega arith) made
    (lifts_half numbers capacity offset value h (omega arith) made)
    (subst (λ p. Lifts numbers capacity p (λ l. with_half l (offset + 2) (value / 2 ^ 16))
    (λ l. with_half l (offset % PAGE_BYTES + 2) (value / 2 ^ 16))) same
    (subst (λ r. Lifts numbers capacity ((offset + 2) / PAGE_BYTES) (λ l. with_half l (offset + 2) (value / 2 ^ 16))
    (λ l. with_half l r (value / 2 ^ 16))) rest second))

-- whether a place is made, by its number
pub made_at : (numbers : List ℕ) (place : ℕ)
    → slice_index_or (made_by numbers) place false ≡ not (slice_index numbers place == 0)
made_at numbers place = get_or-map (λ number. not (number == 0)) numbers place 0

-- a place that is made has a number other than 0
pub made_number : (numbers : List ℕ) (place : ℕ) → slice_index_or (made_by numbers) place false ≡ true
    → slice_index numbers place ≢ 0
made_number numbers place made zero =
    let bad : false ≡ true = sym (made_at numbers place ∙ ap (λ n. not (n == 0)) zero) ∙ made in
    cc

-- what is stored into the page that was found
pub store_found : (numbers : List ℕ) (pool : List (List ℕ)) (capacity : ℕ) (kind : StoreKind)
    (offset value number : ℕ) (page : List ℕ) → IsPaged numbers pool capacity → offset < DATA_BYTES
    → (offset % store_width kind == 0) ≡ true → slice_index_or (made_by numbers) (offset / PAGE_BYTES) false ≡ true
    → number ≡ slice_index numbers (offset / PAGE_BYTES) → page ≡ get_or pool number page
    → paged_bytes numbers (slice_set pool number (stored kind page (offset % PAGE_BYTES) value))
    ≡ stored kind (paged_bytes numbers pool) offset value
store_found numbers pool capacity kind offset value number page is h whole made number_is page_is =
    let apart = made_number numbers (offset / PAGE_BYTES) made in
    let lift = lifts_stored numbers capacity kind offset value h (store_fits kind offset whole) apart in
    ap (λ l. paged_bytes numbers (slice_set pool number (stored kind l (offset % PAGE_BYTES) value)))
    (page_found numbers pool capacity offset number page is h number_is page_is)
    ∙ ap (λ n. paged_bytes numbers (slice_set pool n (stored kind (page_of numbers pool offset) (offset % PAGE_BYTES) value)))
    number_is
    ∙ sym (lift.lifts pool is)
