-- The symbols of a written file, as the reader has them.
use Rattle.std.proofs.Common.{◌≡◌, ◌==◌, ◌+◌, ◌*◌, ◌<◌, ◌^◌, ◌++◌, ℕ, suc, true, false, cond, is_some, List, [], ◌∷◌, length, drop, get_or, refl, ap, ◌∙◌, arith, ⊎_elim, append_assoc}
use Rattle.std.specs.List.{flat_map, list_any, before_first, position_or_len}
use Rattle.std.proofs.lemmas.Bool.{cases_Bool, eqb-true}
use Rattle.std.proofs.Math.Seq.{drop-append-add}
use Rattle.elf_read.proofs.SectionLemmas.{or_true, or_false}
use Rattle.elf_read.specs.Words.{u16_at, u32_at}
use Rattle.elf_read.specs.Places.{joined}
use Rattle.elf_read.specs.Section.{section_at, contents, symbol_table}
use Rattle.elf_read.specs.Symbol.{symbol_bytes, symbol_names, symbol_count, symbol_at}
use Rattle.elf_read.specs.declared.section.Section.{Section}
use Rattle.elf_read.specs.declared.symbol.Entry.{Entry}
use Rattle.elf_read.specs.declared.object.Object.{Object}
use Rattle.elf_read.specs.declared.object.Symbol.{Symbol}
use Rattle.elf_read.specs.declared.object.Place.{Place}
use Rattle.elf_read.specs.declared.object.Place.TheVariants as places
use Rattle.elf_write.specs.declared.part.Part.{Part}
use Rattle.elf_write.specs.Contents as written
use Rattle.elf_write.specs.Contents.{zero_ended, name_table, no_symbol, symbol_name_place, symbol_entry, entry_of, null_entry, binding_number, section_number}
use Rattle.elf_write.specs.File.{contents_of, symbols_number, names_number, link_of}
use Rattle.elf_write.proofs.SizeLemmas.{parts_count, names_at, symbols_at, length-entry, length-null_entry, length-symbol_table}
use Rattle.elf_write.proofs.TableLemmas.{u32_in, u16_in, byte_in, drop-joined, drop-flat_map}
use Rattle.elf_write.proofs.HeaderLemmas.{word_read, half_read}
use Rattle.elf_write.proofs.SectionLemmas.{AreSections, written_section}
use Rattle.elf_write.proofs.KindLemmas.{symbol_table_is, has_symbols_is}

-- the fields of an entry at its start
record HasEntry (place : ℕ) (symbol : Symbol) (entry : List ℕ) : Type 0 where
  pub name_at : u32_at entry 0 ≡ place
  pub value_at : u32_at entry 4 ≡ symbol.value
  pub info_at : get_or entry 12 0 ≡ 16 * binding_number symbol.binding
  pub section_at : u16_at entry 14 ≡ section_number symbol.place

small_section : (place : Place) → section_number place < 2 ^ 16
small_section places.Undefined = omega arith
small_section _ = omega arith

entry_read : (place : ℕ) (symbol : Symbol) (rest : List ℕ) → place < 2 ^ 32 → symbol.value < 2 ^ 32
    → HasEntry place symbol (symbol_entry place symbol ++ rest)
unfolding symbol_entry u32_at u16_at
entry_read place symbol rest placed valued = record {
  name_at = word_read place placed;
  value_at = word_read symbol.value valued;
  info_at = refl;
  section_at = half_read (section_number symbol.place) (small_section symbol.place);
}

-- what the reader has of symbol k + 1
unfoldable pub written_entry : List Symbol → (k : ℕ) → Entry
written_entry symbols k =
    let symbol = get_or symbols k no_symbol in
    record {
      name = symbol_name_place symbols k;
      value = symbol.value;
      info =
          16 * binding_number symbol.binding;
      section = section_number symbol.place;
    }

-- the names after a place
pub names_after : (symbols : List Symbol) (k : ℕ) → List ℕ
names_after symbols k = cond (length (get_or symbols k no_symbol).name == 0) (flat_map
    (λ (s : Symbol). zero_ended s.name) symbols)
    (flat_map (λ (s : Symbol). zero_ended s.name) (drop (suc k) symbols))

nothing : (xs : List ℕ) → length xs ≡ 0 → xs ≡ []
nothing [] h = refl
nothing (x ∷ xs) h = absurd (omega arith)

-- a name stands at its place, and a zero byte after it
pub name_stands : (symbols : List Symbol) (k : ℕ) → k < length symbols
    → drop (symbol_name_place symbols k) (name_table symbols) ≡ (get_or symbols k no_symbol).name
    ++ (0 ∷ names_after symbols k)
unfolding symbol_name_place name_table names_after
name_stands symbols k within =
    let symbol = get_or symbols k no_symbol in
    let pieces = λ (s : Symbol). zero_ended s.name in
    ⊎_elim
    (λ (empty : (length symbol.name == 0) ≡ true).
    let none : symbol.name ≡ [] = nothing symbol.name (eqb-true _ _ empty) in
    rw (empty, none) refl)
    (λ (some : (length symbol.name == 0) ≡ false).
    let there = drop-flat_map pieces symbols k no_symbol within in
    let piece : pieces symbol ≡ symbol.name ++ 0 ∷ [] = rw some refl in
    rw some (there ∙ ap (λ (xs : List ℕ). xs ++ flat_map pieces (drop (suc k) symbols)) piece
    ∙ append_assoc symbol.name (0 ∷ []) (flat_map pieces (drop (suc k) symbols))))
    (cases_Bool (length symbol.name == 0))

-- what ends at a zero byte
pub ends : (name rest : List ℕ) → list_any (λ byte. byte == 0) (name ++ 0 ∷ rest) ≡ true
ends [] rest = refl
ends (x ∷ xs) rest = or_true (x == 0) _ (ends xs rest)

pub before_end : (name rest : List ℕ) → list_any (λ byte. byte == 0) name ≡ false
    → before_first (λ byte. byte == 0) (name ++ 0 ∷ rest) ≡ name
before_end [] rest none = refl
before_end (x ∷ xs) rest none =
    let parts = or_false (x == 0) (list_any (λ byte. byte == 0) xs) none in
    let next = before_end xs rest parts.1 in
    let n = position_or_len (λ byte. byte == 0) (xs ++ 0 ∷ rest) in
    let one : 1 + n ≡ suc n = omega arith in
    rw (parts.0, one) (ap (λ (ys : List ℕ). x ∷ ys) next)

module _ (object : Object) (bytes : List ℕ) (are : AreSections object bytes) where
  -- the table and its names
  pub symbol_bytes_are : symbol_bytes bytes ≡ written.symbol_table object.symbols
  unfolding symbol_bytes
  symbol_bytes_are =
      let count = parts_count (is_some object.types) (is_some object.records) in
      ap (λ b. cond b (contents bytes (symbol_table bytes)) []) (has_symbols_is object bytes are)
      ∙ ap (λ k. contents bytes k) (symbol_table_is object bytes are)
      ∙ are.held (symbols_number object) (omega (arith, count))
      ∙ ap (λ (part : Part). contents_of object part) (symbols_at (is_some object.types) (is_some object.records))

  pub symbol_names_are : symbol_names bytes ≡ name_table object.symbols
  unfolding symbol_names written_section
  symbol_names_are =
      let count = parts_count (is_some object.types) (is_some object.records) in
      ap (λ b. cond b (contents bytes (section_at bytes (symbol_table bytes)).link) []) (has_symbols_is object bytes
      are)
      ∙ ap (λ k. contents bytes (section_at bytes k).link) (symbol_table_is object bytes are)
      ∙ ap (λ (s : Section). contents bytes s.link) (are.each (symbols_number object) (omega (arith, count)))
      ∙ ap (λ (part : Part). contents bytes (link_of object part)) (symbols_at (is_some object.types) (is_some
      object.records))
      ∙ are.held (names_number object) (omega (arith, count))
      ∙ ap (λ (part : Part). contents_of object part) (names_at (is_some object.types) (is_some object.records))

  pub symbol_count_is : symbol_count bytes ≡ suc (length object.symbols)
  symbol_count_is =
      let size : length (symbol_bytes bytes) ≡ length (written.symbol_table object.symbols) =
      ap length symbol_bytes_are in
      omega (arith, size, length-symbol_table object.symbols)

  -- the entries
  at_entry : (k : ℕ) → k < length object.symbols
      → drop (16 * suc k) (symbol_bytes bytes) ≡ entry_of object.symbols k
      ++ drop (16 * suc k) (joined (entry_of object.symbols) (length object.symbols))
  unfolding written.symbol_table
  at_entry k within =
      let entries = joined (entry_of object.symbols) (length object.symbols) in
      let place : 16 * suc k ≡ length null_entry + 16 * k = omega (arith, length-null_entry) in
      ap (λ (xs : List ℕ). drop (16 * suc k) xs) symbol_bytes_are ∙ ap (λ n. drop n (null_entry ++ entries)) place
      ∙ drop-append-add null_entry entries (16 * k)
      ∙ drop-joined (entry_of object.symbols) 16 (length object.symbols) k (λ j. length-entry _ _) within

  pub symbol_is : (k : ℕ) → k < length object.symbols → symbol_name_place object.symbols k < 2 ^ 32
      → (get_or object.symbols k no_symbol).value < 2 ^ 32
      → symbol_at bytes (suc k) ≡ written_entry object.symbols k
  unfolding symbol_at written_entry
  symbol_is k within placed valued =
      let at = 16 * suc k in
      let all = symbol_bytes bytes in
      let entry = entry_of object.symbols k
      ++ drop (16 * suc k) (joined (entry_of object.symbols) (length object.symbols)) in
      let there = at_entry k within in
      let fields : HasEntry (symbol_name_place object.symbols k) (get_or object.symbols k no_symbol) entry =
      entry_read (symbol_name_place object.symbols k) (get_or object.symbols k no_symbol) _ placed valued in
      let same : at ≡ at + 0 = omega arith in
      let name = ap (λ n. u32_at all n) same ∙ u32_in all entry at 0 there ∙ fields.name_at in
      let value = u32_in all entry at 4 there ∙ fields.value_at in
      let info = byte_in all entry at 12 there ∙ fields.info_at in
      let section = u16_in all entry at 14 there ∙ fields.section_at in
      λ i. record { name = name i; value = value i; info = info i; section = section i }

  pub symbol_zero : symbol_at bytes 0 ≡ record { name = 0; value = 0; info = 0; section = 0 }
  unfolding symbol_at written.symbol_table null_entry u32_at u16_at
  symbol_zero =
      ap (λ (xs : List ℕ). record {
        name = u32_at xs 0;
        value = u32_at xs 4;
        info = get_or xs 12 0;
        section =
            u16_at xs 14;
      }) symbol_bytes_are
