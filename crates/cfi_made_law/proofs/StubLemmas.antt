-- The parts of a module with stubs break no rule.
use Rattle.std.proofs.Common.{◌≡◌, ◌∙◌, ℕ, ◌+◌, ◌*◌, ◌%◌, ◌<◌, ◌≤◌, ◌&&◌, Bool, true, false, ltb, List, [], ◌∷◌, ◌++◌, length, take, drop, map, All, Option, Some, None, option_map, refl, sym, ap, subst, inl, inr, arith, length-append, append_assoc}
use Rattle.std.specs.List.{AllPairs}
use Rattle.std.specs.Str.{bytes_eq}
use Rattle.std.proofs.lemmas.Bool.{cases_Bool}
use Rattle.std.proofs.lemmas.Str.{IsUtf8-nil, is_utf8-from_IsUtf8}
use Rattle.std.proofs.lemmas.List.Elements.{All-nil, All-cons, All-append, All-map, All-weaker, All-from_recursion, recursion_from_All}
use Rattle.cfi_word.specs.declared.limits.TheConstants.{MAX_NODES}
use Rattle.elf_read.specs.Places.{joined}
use Rattle.elf_read.specs.Relocation.{is_known, is_of_data, is_of_instruction, field_size}
use Rattle.elf_read.specs.Sound.{is_exported, is_defined, are_rivals, IsInsideArea, HasField, HasSymbol, IsSoundSymbol, IsSoundReloc, IsSoundObject}
use Rattle.elf_read.specs.declared.object.Area.TheVariants as areas
use Rattle.elf_read.specs.declared.object.Place.{Place}
use Rattle.elf_read.specs.declared.object.Place.TheVariants as places
use Rattle.elf_read.specs.declared.object.Object.{Object}
use Rattle.elf_read.specs.declared.object.Symbol.{Symbol}
use Rattle.elf_read.specs.declared.object.Reloc.{Reloc}
use Rattle.elf_read.specs.declared.relocation.TheConstants.{HI20, LO12_I}
use Rattle.cfi_type_table.specs.declared.kind.TheConstants.{VOID, FUNC}
use Rattle.cfi_type_table.specs.Node.{Node, make_node}
use Rattle.cfi_type_table.specs.Kind.{nodes_of}
use Rattle.cfi_type_table.specs.Spelling.{IsNode, NamesBelow, AreTypes}
use Rattle.cfi_aux.specs.Records.{padding}
use Rattle.cfi_aux.specs.Sound.{IsSoundModule}
use Rattle.cfi_aux.specs.declared.modules.Module.{Module}
use Rattle.cfi_import.specs.declared.start.Start.{Start}
use Rattle.cfi_import.specs.declared.start.TheConstants.{STUB_BYTES, CELL_BYTES, STUB_SYMBOLS}
use Rattle.cfi_import.specs.Imports.{leads, place_of}
use Rattle.cfi_import.specs.Start.{start_of, stub_offset, cell_offset, cell_symbol, text_end}
use Rattle.cfi_import.specs.Stubs.{stub_bytes, stub_nodes, unnamed, stub_symbols, cell_reloc, stub_relocs, shifted, led, new_number, moved}
use Rattle.cfi_import.specs.Stubbed.{with_cells, with_symbols, with_relocs}
use Rattle.cfi_import.specs.inner.Room.{IsPlace}
use Rattle.cfi_import.proofs.SizeLemmas.{length-symbols, length-cells, length-texts}
use Rattle.cfi_import.proofs.MadeLemmas.{shared-within, is-place}
use Rattle.cfi_made_law.proofs.BetweenLemmas.{all-two, all-joined, all-left, all-right, in-two, pairs-between, HasMore, symbol-more, field-more}

-- ---- symbols and relocations of stubs

unnamed-sound : (b : Object) (place : Place) (value : ℕ) → is_defined place ≡ true → IsInsideArea b place value
    → IsSoundSymbol b (unnamed place value)
unnamed-sound b place value found inside = record {
  name_size = omega arith;
  name_text = is_utf8-from_IsUtf8 [] IsUtf8-nil;
  name_bytes = refl;
  named = refl;
  found = found;
  inside = inside;
}

never-first : (place : Place) (value : ℕ) (y : Symbol) → are_rivals (unnamed place value) y ≡ false
never-first place value y = refl

third-false : (p q r t : Bool) → (p && q && false && r && t) ≡ false
third-false true true r t = refl
third-false true false r t = refl
third-false false q r t = refl

never-second : (place : Place) (value : ℕ) (x : Symbol) → are_rivals x (unnamed place value) ≡ false
never-second place value x =
    third-false (is_exported x.binding) (is_defined x.place) (is_defined place) (bytes_eq x.name [])

known-stub : is_known HI20 ≡ true
unfolding is_known is_of_instruction
known-stub = refl

known-low : is_known LO12_I ≡ true
unfolding is_known is_of_instruction
known-low = refl

stub-field : (b : Object) (kind offset : ℕ) → field_size kind ≡ 4 → is_of_data kind ≡ false → offset % 4 ≡ 0
    → offset + 4 ≤ length b.text → HasField b areas.Text kind offset
stub-field b kind offset size other whole within = (omega (arith, size, within), whole, other)

high-size : field_size HI20 ≡ 4
unfolding field_size
high-size = refl

low-size : field_size LO12_I ≡ 4
unfolding field_size
low-size = refl

-- the module with stubs, of which there is one at least
module _ (m : Module) (imports : List (ℕ × Symbol)) (sound : IsSoundModule m) (b : Object) (types : List Node) where
  abbrev a : Object
  a = m.object

  abbrev start : Start
  start = start_of m (length imports)

  -- what is made of the parts, and of the types
  pub record HasParts : Type 0 where
    pub text : b.text ≡ a.text ++ joined (λ place. stub_bytes) (length imports)
    pub static_data : b.static_data ≡ with_cells (length imports) a.static_data
    pub symbols : b.symbols ≡ with_symbols start a.symbols
    pub relocs : b.relocs ≡ with_relocs start (place_of imports) a.relocs
    pub types_with : types ≡ m.types ++ stub_nodes start

  module _ (parts : HasParts) where
    text-size : length b.text ≡ length a.text + STUB_BYTES * length imports
    text-size =
        ap length parts.text
        ∙ length-append a.text (joined (λ place. stub_bytes) (length imports))
        ∙ ap (λ (n : ℕ). length a.text + n) (length-texts (length imports))

    data-size : length b.static_data
        ≡ length a.static_data + padding (length a.static_data) + CELL_BYTES * length imports
    data-size = ap length parts.static_data ∙ length-cells (length imports) a.static_data

    symbol-count : length b.symbols ≡ length a.symbols + STUB_SYMBOLS * length imports
    symbol-count = ap length parts.symbols ∙ length-symbols start a.symbols

    more : HasMore a b
    more = record { text = omega (arith, text-size); static_data = omega (arith, data-size) }

    added-symbols : (place : ℕ) → place < length imports → All (IsSoundSymbol b) (stub_symbols start place)
    added-symbols place lt =
        all-two (IsSoundSymbol b) (unnamed places.Text (stub_offset start place))
        (unnamed places.Data (cell_offset start place))
        (unnamed-sound b places.Text (stub_offset start place) refl (omega (arith, lt, text-size)))
        (unnamed-sound b places.Data (cell_offset start place) refl (omega (arith, lt, data-size)))

    old-symbols : All (IsSoundSymbol b) a.symbols
    old-symbols =
        All-weaker (IsSoundSymbol a) (IsSoundSymbol b) (λ s one. symbol-more a b s more one) a.symbols
        sound.object_sound.symbols

    abbrev n : ℕ
    n = start.symbols

    symbols-are : b.symbols ≡ take n a.symbols ++ (joined (stub_symbols start) start.count ++ drop n a.symbols)
    symbols-are =
        parts.symbols ∙ append_assoc (take n a.symbols) (joined (stub_symbols start) start.count) (drop n a.symbols)

    relocs-are : b.relocs ≡ map (moved start (place_of imports)) (take (text_end a.relocs) a.relocs)
        ++ (joined (stub_relocs start) start.count
        ++ map (moved start (place_of imports)) (drop (text_end a.relocs) a.relocs))
    relocs-are =
        parts.relocs
        ∙ append_assoc (map (moved start (place_of imports)) (take (text_end a.relocs) a.relocs))
        (joined (stub_relocs start) start.count)
        (map (moved start (place_of imports)) (drop (text_end a.relocs) a.relocs))

    pub all-symbols : All (IsSoundSymbol b) b.symbols
    all-symbols =
        let two = in-two (All (IsSoundSymbol b)) n a.symbols old-symbols in
        subst (All (IsSoundSymbol b)) (sym symbols-are)
        (All-append (IsSoundSymbol b) (take n a.symbols) (joined (stub_symbols start) start.count ++ drop n a.symbols)
        (all-left (IsSoundSymbol b) (take n a.symbols) (drop n a.symbols) two)
        (All-append (IsSoundSymbol b) (joined (stub_symbols start) start.count) (drop n a.symbols)
        (all-joined (IsSoundSymbol b) (stub_symbols start) start.count added-symbols)
        (all-right (IsSoundSymbol b) (take n a.symbols) (drop n a.symbols) two)))

    abbrev Apart : Symbol → Symbol → Type 0
    Apart x y = are_rivals x y ≡ false

    pub all-apart : AllPairs Apart b.symbols
    all-apart =
        let two = in-two (AllPairs Apart) n a.symbols sound.object_sound.definitions in
        subst (AllPairs Apart) (sym symbols-are)
        (pairs-between Apart (take n a.symbols) (joined (stub_symbols start) start.count) (drop n a.symbols)
        (all-joined (λ x. (y : Symbol) → Apart x y) (stub_symbols start) start.count (λ place lt.
        all-two (λ x. (y : Symbol) → Apart x y) (unnamed places.Text (stub_offset start place))
        (unnamed places.Data (cell_offset start place)) (λ y. never-first places.Text (stub_offset start place) y)
        (λ y. never-first places.Data (cell_offset start place) y)))
        (all-joined (λ y. (x : Symbol) → Apart x y) (stub_symbols start) start.count (λ place lt.
        all-two (λ y. (x : Symbol) → Apart x y) (unnamed places.Text (stub_offset start place))
        (unnamed places.Data (cell_offset start place)) (λ x. never-second places.Text (stub_offset start place) x)
        (λ x. never-second places.Data (cell_offset start place) x)))
        two)

    -- ---- relocations

    shifted-there : (k : ℕ) → k < length a.symbols → shifted start k < length b.symbols
    shifted-there k lt =
        elim (cases_Bool (ltb k start.symbols)) [
          | inl below ↦ rw below (omega (arith, lt, symbol-count))
          | inr past ↦ rw past (omega (arith, lt, symbol-count))
        ]

    led-there : (place : Option ℕ) (k : ℕ) → IsPlace start place → k < length a.symbols
        → led start place k < length b.symbols
    led-there None k is lt = shifted-there k lt
    led-there (Some place) k is lt = omega (arith, is, symbol-count, shared-within a.symbols)

    number-there : (kind k : ℕ) → k < length a.symbols → new_number start (place_of imports) kind k < length b.symbols
    number-there kind k lt =
        elim (cases_Bool (leads kind)) [
          | inl here ↦ rw here (led-there (place_of imports k) k (is-place start imports k refl) lt)
          | inr other ↦ rw other (shifted-there k lt)
        ]

    symbol-there : (kind : ℕ) (symbol : Option ℕ) → HasSymbol a symbol
        → HasSymbol b (option_map (new_number start (place_of imports) kind) symbol)
    symbol-there kind None has = has
    symbol-there kind (Some k) has = number-there kind k has

    moved-sound : (r : Reloc) → IsSoundReloc a r → IsSoundReloc b (moved start (place_of imports) r)
    moved-sound r is = record {
      known = is.known;
      kept = is.kept;
      symbol = symbol-there r.kind r.symbol is.symbol;
      field = field-more a b r.area r.kind r.offset more is.field;
    }

    added-relocs : (place : ℕ) → place < length imports → All (IsSoundReloc b) (stub_relocs start place)
    added-relocs place lt =
        let words = sound.object_sound.words in
        let there : cell_symbol start place < length b.symbols =
        omega (arith, lt, symbol-count, shared-within a.symbols) in
        all-two (IsSoundReloc b) (cell_reloc start place (stub_offset start place) HI20)
        (cell_reloc start place (stub_offset start place + 4) LO12_I)
        (record {
          known = known-stub;
          kept = refl;
          symbol = there;
          field = stub-field b HI20 (stub_offset start place) high-size refl (omega (arith, words))
              (omega (arith, lt, text-size));
        })
        (record {
          known = known-low;
          kept = refl;
          symbol = there;
          field = stub-field b LO12_I (stub_offset start place + 4) low-size refl (omega (arith, words))
              (omega (arith, lt, text-size));
        })

    pub all-relocs : All (IsSoundReloc b) b.relocs
    all-relocs =
        let e = text_end a.relocs in
        let f = moved start (place_of imports) in
        let two = in-two (All (IsSoundReloc a)) e a.relocs sound.object_sound.relocs in
        let one = λ (xs : List Reloc) (all : All (IsSoundReloc a) xs). All-map (IsSoundReloc b) f xs
        (All-weaker (IsSoundReloc a) (λ r. IsSoundReloc b (f r)) (λ r is. moved-sound r is) xs all) in
        subst (All (IsSoundReloc b)) (sym relocs-are)
        (All-append (IsSoundReloc b) (map f (take e a.relocs))
        (joined (stub_relocs start) start.count ++ map f (drop e a.relocs))
        (one (take e a.relocs) (all-left (IsSoundReloc a) (take e a.relocs) (drop e a.relocs) two))
        (All-append (IsSoundReloc b) (joined (stub_relocs start) start.count) (map f (drop e a.relocs))
        (all-joined (IsSoundReloc b) (stub_relocs start) start.count added-relocs)
        (one (drop e a.relocs) (all-right (IsSoundReloc a) (take e a.relocs) (drop e a.relocs) two))))

    pub object-sound : IsSoundObject b
    object-sound = record {
      words = omega (arith, text-size, sound.object_sound.words);
      symbols = all-symbols;
      definitions = all-apart;
      relocs = all-relocs;
    }

    -- ---- types

    names-more : (x : Node) → NamesBelow (length m.types) x → NamesBelow (length types) x
    names-more x below =
        let count = ap length parts.types_with ∙ length-append m.types (stub_nodes start) in
        All-weaker (λ k. k < length m.types) (λ k. k < length types) (λ k lt. omega (arith, lt, count))
        (nodes_of x) below

    pub table-sound : length types ≤ MAX_NODES → AreTypes types
    table-sound small =
        let count = ap length parts.types_with ∙ length-append m.types (stub_nodes start) in
        let both = λ (P : Node → Type 0) (old : All P m.types) (new : All P (stub_nodes start)).
        recursion_from_All P types
        (subst (All P) (sym parts.types_with) (All-append P m.types (stub_nodes start) old new)) in
        record {
          count = small;
          nodes = both IsNode (All-from_recursion IsNode m.types sound.table.nodes)
              (all-two IsNode (make_node VOID []) (make_node FUNC (start.types ∷ []))
              (record { arity = refl; fields = tt })
              (record { arity = refl; fields = (omega (arith, count, small), refl, tt) }));
          names = both (NamesBelow (length types))
              (All-weaker (NamesBelow (length m.types)) (NamesBelow (length types)) names-more m.types
              (All-from_recursion (NamesBelow (length m.types)) m.types sound.table.names))
              (all-two (NamesBelow (length types)) (make_node VOID []) (make_node FUNC (start.types ∷ []))
              (All-nil (λ (k : ℕ). k < length types))
              (All-cons (λ (k : ℕ). k < length types) start.types [] (omega (arith, count))
              (All-nil (λ (k : ℕ). k < length types))));
        }
