-- What each of joined modules has breaks no rule among all.
use Rattle.std.proofs.Common.{◌≡◌, ℕ, ◌+◌, ◌%◌, ◌<◌, ◌≤◌, ◌^◌, List, [], ◌∷◌, length, map, All, Option, Some, None, option_map, fold, refl, sym, subst, arith}
use Rattle.std.specs.List.{enumerate_from}
use Rattle.std.proofs.lemmas.List.{length-map}
use Rattle.std.proofs.lemmas.List.Elements.{All-weaker, All-map, All-append, All-head, All-tail, All-cons, All-nil, All-from_recursion}
use Rattle.elf_read.specs.declared.object.Object.{Object}
use Rattle.elf_read.specs.declared.object.Symbol.{Symbol}
use Rattle.elf_read.specs.declared.object.Reloc.{Reloc}
use Rattle.elf_read.specs.declared.object.Place.{Place}
use Rattle.elf_read.specs.declared.object.Place.TheVariants as places
use Rattle.elf_read.specs.declared.object.Area.{Area}
use Rattle.elf_read.specs.declared.object.Area.TheVariants as areas
use Rattle.cfi_type_table.specs.Kind.{nodes_of}
use Rattle.cfi_type_table.specs.Spelling.{IsNode, NamesBelow}
use Rattle.cfi_aux.specs.declared.modules.Module.{Module}
use Rattle.cfi_aux.specs.declared.records.Kind.{Kind}
use Rattle.cfi_aux.specs.declared.records.Kind.TheVariants as branches
use Rattle.cfi_aux.specs.Records.{list_length, CanBeWritten}
use Rattle.cfi_aux.specs.Sound.{IsSoundModule}
use Rattle.elf_read.specs.Sound.{IsInsideArea, HasField, HasSymbol, IsSoundSymbol, IsSoundReloc}
use Rattle.cfi_link.specs.declared.start.Start.{Start}
use Rattle.cfi_link.specs.Joined.{Joined, nothing, with_module, joined_of, start_of, value_at, offset_at, symbol_at, reloc_at, own_reloc_at, node_at, function_at, branch_at, shifted}
use Rattle.cfi_link.specs.inner.Room.{HasRoom}
use Rattle.cfi_link.specs.Fault.{sizes_of, passed, passed_by}
use Rattle.cfi_link.specs.inner.Made.{object_of, AreSound}
use Rattle.cfi_link.proofs.CellLemmas.{cells_added}
use Rattle.cfi_link.proofs.JoinedLemmas.{with_module-lengths, fold-below}
use Rattle.cfi_link.proofs.LimitLemmas.{few, room_of}
use Rattle.cfi_link.proofs.RoomLemmas.{room_nodes}
use Rattle.cfi_link.proofs.NodeLemmas.{node_shift, names_shift}

-- ---- values, fields and symbols in a larger object

-- an object has all that another one has, from a start on
pub record Holds (start : Start) (a b : Object) : Type 0 where
  pub whole : start.text % 4 ≡ 0
  pub text : start.text + length a.text ≤ length b.text
  pub static_data : start.static_data + length a.static_data ≤ length b.static_data
  pub symbols : start.symbols + length a.symbols ≤ length b.symbols

inside_at : (start : Start) (a b : Object) → Holds start a b → (place : Place) (value : ℕ) → IsInsideArea a place value
    → IsInsideArea b place (value_at start place value)
inside_at start a b holds places.Undefined value inside = tt
inside_at start a b holds places.Absolute value inside = tt
inside_at start a b holds places.Text value inside = omega (arith, inside, holds.text)
inside_at start a b holds places.Data value inside = omega (arith, inside, holds.static_data)

field_at : (start : Start) (a b : Object) → Holds start a b → (area : Area) (kind offset : ℕ)
    → HasField a area kind offset → HasField b area kind (offset_at start area offset)
field_at start a b holds areas.Text kind offset field = (
  omega (arith, field.0, holds.text),
  omega (arith, field.1, holds.whole),
  field.2,
)
field_at start a b holds areas.Data kind offset field = (omega (arith, field.0, holds.static_data), field.1)

number_at : (start : Start) (a b : Object) → Holds start a b → (symbol : Option ℕ) → HasSymbol a symbol
    → HasSymbol b (option_map (λ k. start.symbols + k) symbol)
number_at start a b holds None has = tt
number_at start a b holds (Some k) has = omega (arith, has, holds.symbols)

pub sound_symbol_at : (start : Start) (a b : Object) → Holds start a b → (s : Symbol) → IsSoundSymbol a s
    → IsSoundSymbol b (symbol_at start s)
sound_symbol_at start a b holds s good = record {
  name_size = good.name_size;
  name_text = good.name_text;
  name_bytes = good.name_bytes;
  named = good.named;
  found = good.found;
  inside = inside_at start a b holds s.place s.value good.inside;
}

pub sound_reloc_at : (start : Start) (a b : Object) → Holds start a b → (r : Reloc) → IsSoundReloc a r
    → IsSoundReloc b (reloc_at start r)
sound_reloc_at start a b holds r good = record {
  known = good.known;
  kept = good.kept;
  symbol = number_at start a b holds r.symbol good.symbol;
  field = field_at start a b holds r.area r.kind r.offset good.field;
}

-- the same from the first place on
abbrev pub first : Start
first = record { text = 0; static_data = 0; symbols = 0; types = 0 }

inside_more : (a b : Object) → Holds first a b → (place : Place) (value : ℕ) → IsInsideArea a place value
    → IsInsideArea b place value
inside_more a b holds places.Undefined value inside = tt
inside_more a b holds places.Absolute value inside = tt
inside_more a b holds places.Text value inside = omega (arith, inside, holds.text)
inside_more a b holds places.Data value inside = omega (arith, inside, holds.static_data)

pub field_more : (a b : Object) → Holds first a b → (area : Area) (kind offset : ℕ) → HasField a area kind offset
    → HasField b area kind offset
field_more a b holds areas.Text kind offset field = (omega (arith, field.0, holds.text), field.1, field.2)
field_more a b holds areas.Data kind offset field = (omega (arith, field.0, holds.static_data), field.1)

number_more : (a b : Object) → Holds first a b → (symbol : Option ℕ) → HasSymbol a symbol → HasSymbol b symbol
number_more a b holds None has = tt
number_more a b holds (Some k) has = omega (arith, has, holds.symbols)

pub sound_symbol_more : (a b : Object) → Holds first a b → (s : Symbol) → IsSoundSymbol a s → IsSoundSymbol b s
sound_symbol_more a b holds s good = record {
  name_size = good.name_size;
  name_text = good.name_text;
  name_bytes = good.name_bytes;
  named = good.named;
  found = good.found;
  inside = inside_more a b holds s.place s.value good.inside;
}

sound_reloc_more : (a b : Object) → Holds first a b → (r : Reloc) → IsSoundReloc a r → IsSoundReloc b r
sound_reloc_more a b holds r good = record {
  known = good.known;
  kept = good.kept;
  symbol = number_more a b holds r.symbol good.symbol;
  field = field_more a b holds r.area r.kind r.offset good.field;
}

-- ---- one module more

pub all_enumerated : {A : Type 0} (P : A → Type 0) (n : ℕ) (xs : List A) → All P xs
    → All (λ (p : ℕ × A). P p.1) (enumerate_from n xs)
all_enumerated P n [] all = All-nil (λ p. P p.1)
all_enumerated P n (x ∷ xs) all =
    All-cons (λ p. P p.1) (n, x) (enumerate_from (n + 1) xs) (All-head P x xs all)
    (all_enumerated P (n + 1) xs (All-tail P x xs all))

few_words : (start : Start) (b : Kind) → list_length b < 2 ^ 32 → list_length (branch_at start b) < 2 ^ 32
few_words start (branches.Call node) few = few
few_words start (branches.Tail node) few = few
few_words start branches.Return few = few
few_words start (branches.Switch entries) few =
    subst (λ (n : ℕ). n < 2 ^ 32) (sym (length-map entries (shifted start.text))) few
few_words start (branches.Import name cell) few = few

pub sound_none : AreSound nothing
sound_none = record {
  words = refl;
  symbols = All-nil _;
  relocs = All-nil _;
  nodes = All-nil _;
  names = All-nil _;
  functions = All-nil _;
  branches = All-nil _;
  cells = refl;
}

holds_before : (joined : Joined) (m : Module) → AreSound joined
    → Holds first (object_of joined) (object_of (with_module joined m))
holds_before joined m sound =
    let lengths = with_module-lengths joined m in
    record {
      whole = refl;
      text = omega (arith, lengths.text);
      static_data = omega (arith, lengths.static_data);
      symbols = omega (arith, lengths.symbols);
    }

holds_added : (joined : Joined) (m : Module) → AreSound joined
    → Holds (start_of joined) m.object (object_of (with_module joined m))
holds_added joined m sound =
    let lengths = with_module-lengths joined m in
    record {
      whole = sound.words;
      text = omega (arith, lengths.text);
      static_data = omega (arith, lengths.static_data);
      symbols = omega (arith, lengths.symbols);
    }

pub sound_more : (joined : Joined) (m : Module) → AreSound joined → IsSoundModule m → CanBeWritten m.records
    → HasRoom joined m → AreSound (with_module joined m)
unfolding with_module
sound_more joined m sound good written has =
    let start = start_of joined in
    let next = with_module joined m in
    let lengths = with_module-lengths joined m in
    let before = holds_before joined m sound in
    let added = holds_added joined m sound in
    let a = m.object in
    let b = object_of next in
    record {
      words = omega (arith, lengths.text, sound.words, good.object_sound.words);
      symbols = All-append (IsSoundSymbol b) joined.symbols (map (symbol_at start) a.symbols)
          (All-weaker (IsSoundSymbol (object_of joined)) (IsSoundSymbol b)
          (sound_symbol_more (object_of joined) b before) joined.symbols sound.symbols)
          (All-map (IsSoundSymbol b) (symbol_at start) a.symbols
          (All-weaker (IsSoundSymbol a) (λ s. IsSoundSymbol b (symbol_at start s)) (sound_symbol_at start a b added)
          a.symbols good.object_sound.symbols));
      relocs = All-append (λ own. IsSoundReloc b own.reloc) joined.relocs
          (map (own_reloc_at start joined.count) (enumerate_from 0 a.relocs))
          (All-weaker (λ own. IsSoundReloc (object_of joined) own.reloc) (λ own. IsSoundReloc b own.reloc)
          (λ own. sound_reloc_more (object_of joined) b before own.reloc) joined.relocs sound.relocs)
          (All-map (λ own. IsSoundReloc b own.reloc) (own_reloc_at start joined.count) (enumerate_from 0 a.relocs)
          (all_enumerated (λ r. IsSoundReloc b (reloc_at start r)) 0 a.relocs
          (All-weaker (IsSoundReloc a) (λ r. IsSoundReloc b (reloc_at start r)) (sound_reloc_at start a b added)
          a.relocs good.object_sound.relocs)));
      nodes = All-append IsNode joined.types (map (node_at start) m.types) sound.nodes
          (All-map IsNode (node_at start) m.types
          (λ k d lt. node_shift start _ (All-from_recursion IsNode m.types good.table.nodes k d lt)
          (room_nodes joined m good has k d lt)));
      names = All-append (NamesBelow (length next.types)) joined.types (map (node_at start) m.types)
          (All-weaker (NamesBelow (length joined.types)) (NamesBelow (length next.types))
          (λ x below. All-weaker (λ k. k < length joined.types) (λ k. k < length next.types)
          (λ k lt. omega (arith, lengths.types, lt)) (nodes_of x) below)
          joined.types sound.names)
          (All-map (NamesBelow (length next.types)) (node_at start) m.types
          (All-weaker (NamesBelow (length m.types)) (λ x. NamesBelow (length next.types) (node_at start x))
          (λ x below. names_shift start x (length m.types) (length next.types) (omega (arith, lengths.types)) below)
          m.types (All-from_recursion (NamesBelow (length m.types)) m.types good.table.names)));
      functions = All-append (λ f. length f.name < 2 ^ 32) joined.functions
          (map (function_at start) m.records.functions)
          sound.functions
          (All-map (λ f. length f.name < 2 ^ 32) (function_at start) m.records.functions written.names);
      branches = All-append (λ b. list_length b < 2 ^ 32) joined.branches
          (map (branch_at start) m.records.branches)
          sound.branches
          (All-map (λ b. list_length b < 2 ^ 32) (branch_at start) m.records.branches
          (All-weaker (λ b. list_length b < 2 ^ 32) (λ b. list_length (branch_at start b) < 2 ^ 32)
          (few_words start) m.records.branches written.words));
      cells = cells_added joined m has sound.cells;
    }

-- ---- all modules

sound_fold : (modules : List Module) (joined : Joined) → AreSound joined → All IsSoundModule modules
    → All (λ m. CanBeWritten m.records) modules → joined.count + length modules < 2 ^ 32
    → passed (sizes_of (fold with_module joined modules)) ≡ None → AreSound (fold with_module joined modules)
sound_fold [] joined sound good written count none = sound
sound_fold (m ∷ modules) joined sound good written count none =
    let one = (with_module-lengths joined m).count in
    let below = fold-below modules (with_module joined m) in
    let has = room_of joined m (fold with_module joined (m ∷ modules)) below (few _ none) (omega arith) in
    sound_fold modules (with_module joined m)
    (sound_more joined m sound (All-head IsSoundModule m modules good)
    (All-head (λ n. CanBeWritten n.records) m modules written) has)
    (All-tail IsSoundModule m modules good) (All-tail (λ n. CanBeWritten n.records) m modules written)
    (omega (arith, one, count)) none

pub sound_all : (modules : List Module) → All IsSoundModule modules → All (λ m. CanBeWritten m.records) modules
    → length modules < 2 ^ 32 → passed_by modules ≡ None → AreSound (joined_of modules)
sound_all modules good written count none =
    sound_fold modules nothing sound_none good written (omega arith) none
