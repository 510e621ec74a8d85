-- What a sound module and a room give to the steps of placing.
use Rattle.std.proofs.Common.{◌≡◌, ℕ, ◌+◌, ◌*◌, ◌/◌, ◌^◌, ◌<◌, List, All, length, get_or, Option, sym, ap, ◌∙◌, subst, ⊎_elim, arith}
use Rattle.std.proofs.lemmas.Bool.{cases_lt}
use Rattle.std.proofs.lemmas.List.{get_or_read}
use Rattle.std.proofs.lemmas.List.FromFn.{length-map-range_with_len}
use Rattle.elf_read.specs.declared.object.Object.{Object}
use Rattle.elf_read.specs.declared.object.Symbol.{Symbol}
use Rattle.elf_read.specs.declared.object.Place.{Place}
use Rattle.elf_read.specs.declared.object.Place.TheVariants as places
use Rattle.elf_read.specs.Sound.{IsInsideArea, IsSoundSymbol}
use Rattle.cfi_aux.specs.declared.records.Function.{Function}
use Rattle.cfi_aux.specs.declared.placed.PlacedFunction.{PlacedFunction}
use Rattle.cfi_aux.specs.Placed.{address_of, exports_of}
use Rattle.cfi_aux.specs.Placed as aux
use Rattle.rv_reloc.specs.Bytes.{word_at}
use Rattle.cfi_place.specs.declared.room.Room.{Room}
use Rattle.cfi_place.specs.Names.{Names, first_in}
use Rattle.cfi_place.specs.Value.{own_in, values_by}
use Rattle.cfi_place.specs.Slots.{HasSlots}
use Rattle.cfi_place.specs.Functions.{placed_functions}
use Rattle.cfi_place.specs.Placed.{bytes_as_words, values_in}

-- the addresses of a module that fits into 32 bits
pub record FitsAt (object : Object) (room : Room) : Type 0 where
  pub text : 4 * room.base + length object.text < 2 ^ 32
  pub static_data : room.data_base + length object.static_data < 2 ^ 32

address-fits : (object : Object) (room : Room) (place : Place) (value : ℕ) → FitsAt object room
    → IsInsideArea object place value → value < 2 ^ 32 → aux.address_in room.base room.data_base place value < 2 ^ 32
address-fits object room places.Undefined value at inside small = small
address-fits object room places.Absolute value at inside small = small
address-fits object room places.Text value at inside small = omega (arith, at.text, inside)
address-fits object room places.Data value at inside small = omega (arith, at.static_data, inside)

-- one value more that has 32 bits
pub values-more : (symbols : List Symbol) (i : ℕ) (item : Symbol) → i < length symbols
    → item ≡ get_or symbols i item → item.value < 2 ^ 32
    → ((k : ℕ) (d : Symbol) → k < i → (get_or symbols k d).value < 2 ^ 32)
    → (k : ℕ) (d : Symbol) → k < i + 1 → (get_or symbols k d).value < 2 ^ 32
values-more symbols i item within is fits before k d lt = ⊎_elim
    (λ below. before k d below)
    (λ above.
    let same : k ≡ i = omega arith in
    let at : get_or symbols k d ≡ item =
    ap (λ (n : ℕ). get_or symbols n d) same ∙ sym (get_or_read symbols i item within is d) in
    subst (λ (s : Symbol). s.value < 2 ^ 32) (sym at) fits)
    (cases_lt k i)

pub addresses-fit : (object : Object) (room : Room) → FitsAt object room → All (IsSoundSymbol object) object.symbols
    → All (λ (s : Symbol). s.value < 2 ^ 32) object.symbols
    → All (λ s. address_of room.base room.data_base s < 2 ^ 32) object.symbols
addresses-fit object room at sound small = λ i d lt.
    let symbol = get_or object.symbols i d in
    address-fits object room symbol.place symbol.value at (sound i d lt).inside (small i d lt)

-- ---- words

pub length-words_in : (bytes : List ℕ) → length (bytes_as_words bytes) ≡ length bytes / 4
length-words_in bytes = length-map-range_with_len (λ k. word_at (4 * k) bytes) 0 (length bytes / 4)

-- ---- the steps joined

pub values-are : (object : Object) (room : Room) (names : Names) (exports : List (List ℕ × ℕ)) (symbols : List Symbol)
    (values : List (Option ℕ)) → exports ≡ exports_of room.base room.data_base object.symbols
    → symbols ≡ object.symbols → values ≡ values_by room (first_in exports) names symbols
    → values ≡ values_in object room names
values-are object room names exports symbols values e s v =
    v ∙ ap (λ (x : List (List ℕ × ℕ)). values_by room (first_in x) names symbols) e
    ∙ ap (λ (x : List Symbol). values_by room (own_in room object.symbols) names x) s

pub slots-are : (source source_is text text_is words words_is : List ℕ) (slot : ℕ) → source ≡ source_is → text ≡ text_is
    → words ≡ words_is → HasSlots (bytes_as_words source_is) slot (bytes_as_words text_is) words_is
    → HasSlots (bytes_as_words source) slot (bytes_as_words text) words
slots-are source source_is text text_is words words_is slot s t w h =
    subst (λ (x : List ℕ). HasSlots (bytes_as_words x) slot (bytes_as_words text) words) (sym s)
    (subst (λ (x : List ℕ). HasSlots (bytes_as_words source_is) slot (bytes_as_words x) words) (sym t)
    (subst (λ (x : List ℕ). HasSlots (bytes_as_words source_is) slot (bytes_as_words text_is) x) (sym w) h))

pub functions-are : (symbols symbols_is : List Symbol) (functions functions_is : List Function)
    (placed : List PlacedFunction) → symbols_is ≡ symbols → functions_is ≡ functions
    → placed ≡ placed_functions symbols_is functions_is → placed ≡ placed_functions symbols functions
functions-are symbols symbols_is functions functions_is placed s f h =
    h ∙ ap (λ (x : List Symbol). placed_functions x functions_is) s
    ∙ ap (λ (x : List Function). placed_functions symbols x) f
