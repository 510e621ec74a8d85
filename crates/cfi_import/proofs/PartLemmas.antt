-- What is made has the parts of the module with stubs, and its cells lie in its data.
use Rattle.std.proofs.Common.{◌≡◌, ◌∙◌, ℕ, ◌+◌, ◌*◌, ◌%◌, ◌<◌, IsTrue, List, [], ◌∷◌, ◌++◌, length, map, Option, Some, None, refl, sym, ap, subst, arith}
use Rattle.std.specs.List.{enumerate_from}
use Rattle.std.proofs.Math.Path.{fun_ext}
use Rattle.std.proofs.lemmas.Bool.{and_from}
use Rattle.elf_read.specs.declared.fault.Limit.{Limit}
use Rattle.elf_read.specs.declared.object.Object.{Object}
use Rattle.elf_read.specs.declared.object.Symbol.{Symbol}
use Rattle.elf_read.specs.declared.object.Reloc.{Reloc}
use Rattle.cfi_type_table.specs.Node.{Node}
use Rattle.cfi_type_table.specs.Spelling.{spelling as types_spelling}
use Rattle.cfi_aux.proofs.HaveCells.{cell-from, cells-append, cells-more}
use Rattle.cfi_aux.specs.Cells.{have_cells}
use Rattle.cfi_aux.specs.Records.{padding, spelling as records_spelling}
use Rattle.cfi_aux.specs.declared.modules.Module.{Module}
use Rattle.cfi_aux.specs.declared.records.Function.{Function}
use Rattle.cfi_aux.specs.declared.records.Kind.{Kind}
use Rattle.cfi_aux.specs.declared.records.Records.{Records}
use Rattle.cfi_import.specs.declared.object_sizes.Sizes.{Sizes}
use Rattle.cfi_import.specs.Limit.{passed, module_sizes}
use Rattle.cfi_import.proofs.LimitLemmas.{AreFew, few}
use Rattle.cfi_import.specs.declared.start.Start.{Start}
use Rattle.cfi_import.specs.declared.start.TheConstants.{CELL_BYTES}
use Rattle.cfi_import.specs.Imports.{imports_of, names_of, place_of}
use Rattle.cfi_import.specs.Start.{start_of, cell_offset}
use Rattle.cfi_import.specs.Stubs.{stub_kind, stub_nodes}
use Rattle.cfi_import.specs.Stubbed.{Parts, parts_of, with_cells, with_relocs, with_stubs_for, parts_with, part_sizes, stubbed_parts, stubs_pass, AreSections, IsStubbed}
use Rattle.cfi_import.specs.inner.Capped.{sizes_with}
use Rattle.cfi_import.specs.inner.Made.{AreRecordsWith, IsObjectWith}
use Rattle.cfi_import.proofs.SizeLemmas.{length-cells, passed-with}
use Rattle.cfi_import.proofs.MadeLemmas.{parts-some, length-names}

-- ---- cells

cell-whole : (n place : ℕ) → (n + padding n + CELL_BYTES * place) % 4 ≡ 0
cell-whole n place = omega arith

-- the cells of stubs lie in the data
stub-cells : (m : Module) (count n : ℕ) (names : List (List ℕ)) (size : ℕ) → n + length names ≡ count
    → size ≡ (start_of m count).static_data + CELL_BYTES * count
    → IsTrue (have_cells size (map (stub_kind (start_of m count)) (enumerate_from n names)))
stub-cells m count n [] size all is = refl
stub-cells m count n (name ∷ names) size all is =
    let start = start_of m count in
    and_from _ _
    (cell-from size (cell_offset start n) (cell-whole (length m.object.static_data) n) (omega (arith, all, is)))
    (stub-cells m count (n + 1) names size (omega (arith, all)) is)

pub cells-made : (m : Module) (imports : List (ℕ × Symbol)) (records : Records) (static_data : List ℕ)
    → static_data ≡ with_cells (length imports) m.object.static_data
    → AreRecordsWith (start_of m (length imports)) (names_of imports) m.records records
    → IsTrue (have_cells (length static_data) records.branches)
cells-made m imports records static_data is are =
    let start = start_of m (length imports) in
    let names = names_of imports in
    let size = ap length is ∙ length-cells (length imports) m.object.static_data in
    let count = length-names imports in
    subst (λ (kinds : List Kind). IsTrue (have_cells (length static_data) kinds)) (sym are.branches)
    (cells-append (length static_data) m.records.branches (map (stub_kind start) (enumerate_from 0 names))
    (cells-more (length m.object.static_data) (length static_data) (omega (arith, size)) m.records.branches m.cells)
    (stub-cells m (length imports) 0 names (length static_data) (omega (arith, count)) size))

-- ---- the parts

unfoldable parts_by : (text static_data : List ℕ) (symbols : List Symbol) (relocs : List Reloc) (types : List Node)
    (functions : List Function) (branches : List Kind) → Parts
parts_by text static_data symbols relocs types functions branches = record {
  text = text;
  static_data = static_data;
  symbols = symbols;
  relocs = relocs;
  types = types;
  functions = functions;
  branches = branches;
}

-- parts that are equal one by one
pub same_parts : (a b : Parts) → a.text ≡ b.text → a.static_data ≡ b.static_data → a.symbols ≡ b.symbols
    → a.relocs ≡ b.relocs → a.types ≡ b.types → a.functions ≡ b.functions → a.branches ≡ b.branches → a ≡ b
same_parts a b e1 e2 e3 e4 e5 e6 e7 =
    let here : a ≡ parts_by a.text a.static_data a.symbols a.relocs a.types a.functions a.branches =
    unfold parts_by in refl in
    let there : b ≡ parts_by b.text b.static_data b.symbols b.relocs b.types b.functions b.branches =
    unfold parts_by in refl in
    cc

-- relocations by places that are those of the imports
pub relocs_by : (start : Start) (find : ℕ → Option ℕ) (imports : List (ℕ × Symbol)) (relocs : List Reloc)
    → ((number : ℕ) → find number ≡ place_of imports number)
    → with_relocs start find relocs ≡ with_relocs start (place_of imports) relocs
relocs_by start find imports relocs finds =
    ap (λ (f : ℕ → Option ℕ). with_relocs start f relocs) (fun_ext finds)

-- the object and the records with stubs have the parts of the module with stubs
pub parts-made : (m out : Module) (imports : List (ℕ × Symbol)) (find : ℕ → Option ℕ) → 0 < length imports
    → ((number : ℕ) → find number ≡ place_of imports number)
    → out.types ≡ m.types ++ stub_nodes (start_of m (length imports))
    → AreRecordsWith (start_of m (length imports)) (names_of imports) m.records out.records
    → IsObjectWith (start_of m (length imports)) find out.types out.records m.object out.object
    → parts_of out ≡ parts_with m imports
parts-made m out imports find some finds types records object =
    same_parts (parts_of out)
    (with_stubs_for (start_of m (length imports)) (place_of imports) (names_of imports) (parts_of m))
    object.text object.static_data object.symbols
    (object.relocs ∙ relocs_by (start_of m (length imports)) find imports m.object.relocs finds)
    types records.functions records.branches
    ∙ sym (parts-some m imports some)

-- ---- what the counted sizes say

-- no value is there where each is refused
pub none_left : (found : Option Limit) → ((what : Limit) → found ≡ Some what → ⊥) → found ≡ None
none_left None never = refl
none_left (Some what) never = absurd (never what refl)

pub passed-by : (m : Module) (names : List (List ℕ)) (count : ℕ) (sizes counted : Sizes)
    → names ≡ names_of (imports_of m.object) → count ≡ length names → sizes ≡ module_sizes m
    → counted ≡ sizes_with sizes count → passed counted ≡ stubs_pass m
passed-by m names count sizes counted are is has with =
    let imports = imports_of m.object in
    let number : count ≡ length imports = is ∙ ap length are ∙ length-names imports in
    ap passed with
    ∙ ap (λ (s : Sizes). passed (sizes_with s count)) has
    ∙ ap (λ (n : ℕ). passed (sizes_with (module_sizes m) n)) number
    ∙ passed-with m imports

-- without an import the same module is the one with stubs
stubbed-none : (m out : Module) (imports : List (ℕ × Symbol)) → length imports ≡ 0 → out.object ≡ m.object
    → out.types ≡ m.types → out.records ≡ m.records
    → (parts_of out ≡ parts_with m imports) × AreSections imports m out
stubbed-none m out [] none object types records = (
  same_parts (parts_of out) (parts_of m) (ap (λ (o : Object). o.text) object) (ap (λ (o : Object). o.static_data) object)
      (ap (λ (o : Object). o.symbols) object) (ap (λ (o : Object). o.relocs) object) types
      (ap (λ (r : Records). r.functions) records) (ap (λ (r : Records). r.branches) records),
  (ap (λ (o : Object). o.types) object, ap (λ (o : Object). o.records) object),
)
stubbed-none m out (one ∷ imports) none object types records = absurd (omega (arith, none))

pub same_stubbed : (m out : Module) (names : List (List ℕ)) → names ≡ names_of (imports_of m.object)
    → length names ≡ 0 → out.object ≡ m.object → out.types ≡ m.types → out.records ≡ m.records → IsStubbed m out
same_stubbed m out names are none object types records =
    let imports = imports_of m.object in
    let count : length imports ≡ 0 = sym (length-names imports) ∙ ap length (sym are) ∙ none in
    let both = stubbed-none m out imports count object types records in
    record { parts = both.0; sections = both.1 }

-- with one, the sections are spelled anew
sections-some : (m out : Module) (imports : List (ℕ × Symbol)) → 0 < length imports
    → out.object.types ≡ Some (types_spelling out.types) → out.object.records ≡ Some (records_spelling out.records)
    → AreSections imports m out
sections-some m out [] some types records = absurd (omega (arith, some))
sections-some m out (one ∷ imports) some types records = (types, records)

pub made_stubbed : (m out : Module) (find : ℕ → Option ℕ) → 0 < length (imports_of m.object)
    → ((number : ℕ) → find number ≡ place_of (imports_of m.object) number)
    → out.types ≡ m.types ++ stub_nodes (start_of m (length (imports_of m.object)))
    → AreRecordsWith (start_of m (length (imports_of m.object))) (names_of (imports_of m.object)) m.records out.records
    → IsObjectWith (start_of m (length (imports_of m.object))) find out.types out.records m.object out.object
    → IsStubbed m out
made_stubbed m out find some finds types records object = record {
  parts = parts-made m out (imports_of m.object) find some finds types records object;
  sections = sections-some m out (imports_of m.object) some object.types_spelled object.records_spelled;
}

-- ---- what making goes by

-- where stubs begin, by the names that were found
pub begins-by : (m : Module) (names : List (List ℕ)) (count : ℕ) (start : Start) → names ≡ names_of (imports_of m.object)
    → count ≡ length names → start ≡ start_of m count → start ≡ start_of m (length (imports_of m.object))
begins-by m names count start are is begins =
    begins ∙ ap (start_of m) (is ∙ ap length are ∙ length-names (imports_of m.object))

pub some-by : (m : Module) (names : List (List ℕ)) → names ≡ names_of (imports_of m.object) → 0 < length names
    → 0 < length (imports_of m.object)
some-by m names are some =
    let count = ap length are in
    let size = length-names (imports_of m.object) in
    omega (arith, count, size, some)

pub few-by : (m : Module) → stubs_pass m ≡ None → AreFew (part_sizes (stubbed_parts m))
few-by m none = few (part_sizes (stubbed_parts m)) none

-- records with stubs, by a start and names that are equal
pub records-by : (m : Module) (start start' : Start) (names names' : List (List ℕ)) (new : Records) → start ≡ start'
    → names ≡ names' → AreRecordsWith start names m.records new → AreRecordsWith start' names' m.records new
records-by m start start' names names' new same are with =
    subst (λ (s : Start). AreRecordsWith s names' m.records new) same
    (subst (λ (ns : List (List ℕ)). AreRecordsWith start ns m.records new) are with)
