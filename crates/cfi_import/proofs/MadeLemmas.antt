-- What making stubs takes for granted holds of a sound module whose stubs pass no limit.
use Rattle.std.proofs.Common.{◌≡◌, ℕ, suc, ◌+◌, ◌<◌, ◌≤◌, ◌^◌, eqb, List, [], ◌∷◌, ◌++◌, length, map, All, Option, Some, None, option_map, refl, sym, ap, subst, inl, inr, arith, length-append}
use Rattle.std.specs.List.{enumerate_from}
use Rattle.std.proofs.lemmas.Bool.{cases_Bool}
use Rattle.std.proofs.lemmas.List.{length-map}
use Rattle.std.proofs.lemmas.List.Elements.{All-nil, All-cons, All-append, All-map, All-weaker, All-filter, All-head, All-tail}
use Rattle.cfi_word.specs.declared.limits.TheConstants.{MAX_SYMBOLS}
use Rattle.elf_read.specs.Places.{joined}
use Rattle.elf_read.specs.Sound.{is_exported, HasSymbol, IsSoundSymbol, IsSoundReloc}
use Rattle.elf_read.specs.declared.object.Object.{Object}
use Rattle.elf_read.specs.declared.object.Symbol.{Symbol}
use Rattle.cfi_type_table.specs.declared.kind.TheConstants.{VOID, FUNC}
use Rattle.cfi_type_table.specs.Node.{Node, make_node}
use Rattle.cfi_type_table.proofs.Tables.{small_fields}
use Rattle.cfi_aux.specs.Records.{CanBeWritten, list_length}
use Rattle.cfi_aux.specs.Sound.{IsSoundModule}
use Rattle.cfi_aux.specs.declared.modules.Module.{Module}
use Rattle.cfi_aux.specs.declared.records.Records.{Records}
use Rattle.cfi_import.proofs.LimitLemmas.{AreFew, few}
use Rattle.cfi_import.specs.declared.start.Start.{Start}
use Rattle.cfi_import.specs.Imports.{is_import, imports_of, names_of, place_of}
use Rattle.cfi_import.specs.Start.{first_shared, start_of}
use Rattle.cfi_import.specs.Stubs.{stub_bytes, stub_function, stub_kind, stub_nodes}
use Rattle.cfi_import.specs.Stubbed.{Parts, parts_of, with_stubs_for, parts_with, part_sizes, stubbed_parts}
use Rattle.cfi_import.specs.inner.Room.{IsSmall, HasRoom, IsSmallNumber, IsPlace}
use Rattle.cfi_import.specs.inner.Made.{IsReady, AreWritable, AreRecordsWith}
use Rattle.cfi_import.proofs.SizeLemmas.{length-symbols, length-cells, length-texts}

-- ---- one import at least

pub parts-some : (m : Module) (imports : List (ℕ × Symbol)) → 0 < length imports
    → parts_with m imports
    ≡ with_stubs_for (start_of m (length imports)) (place_of imports) (names_of imports) (parts_of m)
parts-some m [] some = absurd (omega (arith, some))
parts-some m (one ∷ imports) some = refl

-- ---- sizes

pub shared-within : (symbols : List Symbol) → first_shared symbols ≤ length symbols
shared-within [] = omega arith
shared-within (s ∷ symbols) =
    let rest = shared-within symbols in
    elim (cases_Bool (is_exported s.binding)) [
      | inl here ↦ rw here (omega arith)
      | inr other ↦ rw other (omega (arith, rest))
    ]

-- the module with stubs is within the limits
module _ (m : Module) (imports : List (ℕ × Symbol)) (some : 0 < length imports)
    (limits : AreFew (part_sizes (parts_with m imports))) where
  abbrev start : Start
  start = start_of m (length imports)

  abbrev made : Parts
  made = with_stubs_for start (place_of imports) (names_of imports) (parts_of m)

  made-few : AreFew (part_sizes made)
  made-few = subst (λ (parts : Parts). AreFew (part_sizes parts)) (parts-some m imports some) limits

  pub has-room : HasRoom start
  has-room =
      let few = made-few in
      let object = m.object in
      let shared = shared-within object.symbols in
      let symbols = length-symbols start object.symbols in
      let cells = length-cells (length imports) object.static_data in
      let text = length-append object.text (joined (λ place. stub_bytes) (length imports)) in
      let texts = length-texts (length imports) in
      let types = length-append m.types (stub_nodes start) in
      record {
        text = omega (arith, few.text, text, texts);
        static_data = omega (arith, few.static_data, cells);
        types = omega (arith, few.types, types);
        symbols = omega (arith, few.symbols, symbols, shared);
      }

  pub is-small : IsSmall m
  is-small =
      let few = made-few in
      let object = m.object in
      let symbols = length-symbols start object.symbols in
      let cells = length-cells (length imports) object.static_data in
      let text = length-append object.text (joined (λ place. stub_bytes) (length imports)) in
      let types = length-append m.types (stub_nodes start) in
      record {
        text = omega (arith, few.text, text);
        static_data = omega (arith, few.static_data, cells);
        types = omega (arith, few.types, types);
        symbols = omega (arith, few.symbols, symbols);
      }

-- ---- places

place-more : (count : ℕ) (start start' : Start) (o : Option ℕ) → start'.count ≡ suc start.count → IsPlace start o
    → IsPlace start' (option_map suc o)
place-more count start start' None same is = tt
place-more count start start' (Some k) same is = omega (arith, same, is)

-- an import is one of so many
pub is-place : (start : Start) (imports : List (ℕ × Symbol)) (number : ℕ) → start.count ≡ length imports
    → IsPlace start (place_of imports number)
is-place start [] number same = tt
is-place start (one ∷ imports) number same =
    let before = record start { count = length imports } in
    elim (cases_Bool (eqb one.0 number)) [
      | inl here ↦ rw here (omega (arith, same))
      | inr other ↦
          rw other (place-more (length imports) before start (place_of imports number) same
          (is-place before imports number refl))
    ]

-- ---- what is ready

number-small : (object : Object) (symbol : Option ℕ) → length object.symbols ≤ MAX_SYMBOLS → HasSymbol object symbol
    → IsSmallNumber symbol
number-small object None few has = tt
number-small object (Some k) few has = omega (arith, few, has)

pub is-ready : (m : Module) (imports : List (ℕ × Symbol)) (find : ℕ → Option ℕ) → IsSoundModule m → 0 < length imports
    → AreFew (part_sizes (parts_with m imports)) → ((number : ℕ) → find number ≡ place_of imports number)
    → IsReady m.object (start_of m (length imports)) find
is-ready m imports find sound some limits finds =
    let small = is-small m imports some limits in
    let start = start_of m (length imports) in
    record {
      room = has-room m imports some limits;
      symbols = shared-within m.object.symbols;
      static_data = omega (arith, small.static_data);
      places = λ number. subst (IsPlace start) (sym (finds number)) (is-place start imports number refl);
      numbers = All-weaker (IsSoundReloc m.object) (λ reloc. IsSmallNumber reloc.symbol)
          (λ reloc one. number-small m.object reloc.symbol small.symbols one.symbol)
          m.object.relocs sound.object_sound.relocs;
    }

-- ---- what is written

pub length-names : (imports : List (ℕ × Symbol)) → length (names_of imports) ≡ length imports
length-names imports = length-map imports (λ one. one.1.name)

-- the names of imports are those of symbols
enumerated : (P : Symbol → Type 0) (n : ℕ) (symbols : List Symbol) → All P symbols
    → All (λ one. P one.1) (enumerate_from n symbols)
enumerated P n [] all = All-nil (λ (one : ℕ × Symbol). P one.1)
enumerated P n (s ∷ symbols) all =
    All-cons (λ (one : ℕ × Symbol). P one.1) (n, s) (enumerate_from (n + 1) symbols) (All-head P s symbols all)
    (enumerated P (n + 1) symbols (All-tail P s symbols all))

pub imports-sound : (object : Object) → All (IsSoundSymbol object) object.symbols
    → All (λ one. IsSoundSymbol object one.1) (imports_of object)
imports-sound object sound =
    All-filter (is_import object.relocs) (λ one. IsSoundSymbol object one.1) (enumerate_from 0 object.symbols)
    (enumerated (IsSoundSymbol object) 0 object.symbols sound)

pub names-all : (Q : List ℕ → Type 0) (imports : List (ℕ × Symbol)) → All (λ one. Q one.1.name) imports
    → All Q (names_of imports)
names-all Q imports all = All-map Q (λ one. one.1.name) imports all

pub names-numbered : (Q : List ℕ → Type 0) (n : ℕ) (names : List (List ℕ)) → All Q names
    → All (λ one. Q one.1) (enumerate_from n names)
names-numbered Q n [] all = All-nil (λ (one : ℕ × List ℕ). Q one.1)
names-numbered Q n (name ∷ names) all =
    All-cons (λ (one : ℕ × List ℕ). Q one.1) (n, name) (enumerate_from (n + 1) names) (All-head Q name names all)
    (names-numbered Q (n + 1) names (All-tail Q name names all))

abbrev IsShortName : List ℕ → Type 0
IsShortName name = length name < 2 ^ 32

-- records with those of stubs can be written
can-write : (start : Start) (names : List (List ℕ)) (old new : Records) → CanBeWritten old
    → AreRecordsWith start names old new → All IsShortName names → length new.functions < 2 ^ 32
    → length new.branches < 2 ^ 32 → CanBeWritten new
can-write start names old new good are short functions branches =
    let numbered = names-numbered IsShortName 0 names short in
    record {
      functions = functions;
      branches = branches;
      names = subst (All (λ f. length f.name < 2 ^ 32)) (sym are.functions)
          (All-append (λ f. length f.name < 2 ^ 32) old.functions (map (stub_function start) (enumerate_from 0 names))
          good.names
          (All-map (λ f. length f.name < 2 ^ 32) (stub_function start) (enumerate_from 0 names)
          (All-weaker (λ (one : ℕ × List ℕ). IsShortName one.1)
          (λ (one : ℕ × List ℕ). length (stub_function start one).name < 2 ^ 32) (λ one is. is)
          (enumerate_from 0 names) numbered)));
      words = subst (All (λ b. list_length b < 2 ^ 32)) (sym are.branches)
          (All-append (λ b. list_length b < 2 ^ 32) old.branches
          (map (stub_kind start) (enumerate_from 0 names)) good.words
          (All-map (λ b. list_length b < 2 ^ 32) (stub_kind start) (enumerate_from 0 names)
          (All-weaker (λ (one : ℕ × List ℕ). IsShortName one.1)
          (λ (one : ℕ × List ℕ). list_length (stub_kind start one) < 2 ^ 32) (λ one is. is)
          (enumerate_from 0 names) numbered)));
    }

-- the types and the records of a module with stubs can be written
pub are-writable : (m : Module) (types : List Node) (records : Records) → IsSoundModule m → CanBeWritten m.records
    → 0 < length (imports_of m.object) → AreFew (part_sizes (stubbed_parts m))
    → types ≡ m.types ++ stub_nodes (start_of m (length (imports_of m.object)))
    → AreRecordsWith (start_of m (length (imports_of m.object))) (names_of (imports_of m.object)) m.records records
    → AreWritable types records
are-writable m types records sound good some limits is are =
    let imports = imports_of m.object in
    let start = start_of m (length imports) in
    let names = names_of imports in
    let few = subst (λ (parts : Parts). AreFew (part_sizes parts)) (parts-some m imports some) limits in
    let count = ap length is in
    let functions = ap length are.functions in
    let branches = ap length are.branches in
    let short = names-all IsShortName imports (All-weaker (λ (one : ℕ × Symbol). IsSoundSymbol m.object one.1)
    (λ (one : ℕ × Symbol). IsShortName one.1.name) (λ one is. omega (arith, is.name_size)) imports
    (imports-sound m.object sound.object_sound.symbols)) in
    record {
      count = omega (arith, count, few.types);
      fields = subst (All (λ x. length x.fields < 2 ^ 32)) (sym is)
          (All-append (λ x. length x.fields < 2 ^ 32) m.types (stub_nodes start) (small_fields m.types sound.table)
          (nodes_small start));
      written = can-write start names m.records records good are short (omega (arith, functions, few.functions))
          (omega (arith, branches, few.branches));
    }
  where
    nodes_small : (start : Start) → All (λ x. length x.fields < 2 ^ 32) (stub_nodes start)
    nodes_small start =
        All-cons (λ x. length x.fields < 2 ^ 32) (make_node VOID []) (make_node FUNC (start.types ∷ []) ∷ [])
        (omega arith)
        (All-cons (λ x. length x.fields < 2 ^ 32) (make_node FUNC (start.types ∷ [])) [] (omega arith)
        (All-nil (λ (x : Node). length x.fields < 2 ^ 32)))
