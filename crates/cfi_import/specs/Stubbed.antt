-- A module with a stub for each function that it calls and that another module is to define: the stub jumps to the
-- address that a cell of the module's data holds, so the function may come later. Without such a function the module
-- stays as it is.
use Rattle.std.specs.Prelude.{◌≡◌, ℕ, ◌*◌, List, [], ◌∷◌, ◌++◌, length, map, take, drop, replicate, Option, Some, None, ⊤}
use Rattle.std.specs.List.{enumerate_from}
use Rattle.elf_read.specs.Places.{joined}
use Rattle.elf_read.specs.declared.fault.Limit.{Limit}
use Rattle.elf_read.specs.declared.object.Symbol.{Symbol}
use Rattle.elf_read.specs.declared.object.Reloc.{Reloc}
use Rattle.cfi_type_table.specs.Node.{Node}
use Rattle.cfi_type_table.specs.Spelling.{spelling as types_spelling}
use Rattle.cfi_aux.specs.Records.{padding, spelling as records_spelling}
use Rattle.cfi_aux.specs.declared.modules.Module.{Module}
use Rattle.cfi_aux.specs.declared.records.Function.{Function}
use Rattle.cfi_aux.specs.declared.records.Kind.{Kind}
use Rattle.cfi_import.specs.declared.object_sizes.Sizes.{Sizes}
use Rattle.cfi_import.specs.Limit.{passed}
use Rattle.cfi_import.specs.declared.fault.StubFault.{StubFault}
use Rattle.cfi_import.specs.declared.fault.StubFault.TheVariants.{TooMany, Memory}
use Rattle.cfi_import.specs.declared.start.Start.{Start}
use Rattle.cfi_import.specs.declared.start.TheConstants.{CELL_BYTES}
use Rattle.cfi_import.specs.Imports.{imports_of, names_of, place_of}
use Rattle.cfi_import.specs.Start.{start_of, text_end}
use Rattle.cfi_import.specs.Stubs.{stub_bytes, stub_nodes, stub_function, stub_kind, stub_symbols, stub_relocs, moved}

-- what a module has
pub record Parts : Type 0 where
  pub text : List ℕ
  pub static_data : List ℕ
  pub symbols : List Symbol
  pub relocs : List Reloc
  pub types : List Node
  pub functions : List Function
  pub branches : List Kind

-- the parts that a module has
abbrev pub parts_of : Module → Parts
parts_of m = record {
  text = m.object.text;
  static_data = m.object.static_data;
  symbols = m.object.symbols;
  relocs = m.object.relocs;
  types = m.types;
  functions = m.records.functions;
  branches = m.records.branches;
}

-- ---- with stubs

-- the data, padded to whole words, and a word of zeros for each cell
abbrev pub with_cells : (count : ℕ) → List ℕ → List ℕ
with_cells count bytes = bytes ++ replicate (padding (length bytes)) 0 ++ replicate (CELL_BYTES * count) 0

-- the symbols, with those of the stubs before the first one that is not local
abbrev pub with_symbols : Start → List Symbol → List Symbol
with_symbols start symbols =
    take start.symbols symbols ++ joined (stub_symbols start) start.count ++ drop start.symbols symbols

-- the relocations, with those of the stubs straight after the last one in text; those that call or jump to an import
-- lead to its stub, whose place `find` says
abbrev pub with_relocs : Start → (find : ℕ → Option ℕ) → List Reloc → List Reloc
with_relocs start find relocs =
    map (moved start find) (take (text_end relocs) relocs)
    ++ joined (stub_relocs start) start.count
    ++ map (moved start find) (drop (text_end relocs) relocs)

-- a module with a stub for each of these names
abbrev pub with_stubs_for : Start → (find : ℕ → Option ℕ) → (names : List (List ℕ)) → Parts → Parts
with_stubs_for start find names parts = record {
  text = parts.text ++ joined (λ place. stub_bytes) start.count;
  static_data = with_cells start.count parts.static_data;
  symbols = with_symbols start parts.symbols;
  relocs = with_relocs start find parts.relocs;
  types = parts.types ++ stub_nodes start;
  functions = parts.functions ++ map (stub_function start) (enumerate_from 0 names);
  branches = parts.branches ++ map (stub_kind start) (enumerate_from 0 names);
}

-- a module with a stub for each of these imports, of which there is one at least
abbrev pub parts_with : Module → (imports : List (ℕ × Symbol)) → Parts
parts_with m [] = parts_of m
parts_with m (one ∷ imports) =
    with_stubs_for (start_of m (length (one ∷ imports))) (place_of (one ∷ imports)) (names_of (one ∷ imports))
    (parts_of m)

-- those with a stub for each import
abbrev pub stubbed_parts : Module → Parts
stubbed_parts m = parts_with m (imports_of m.object)

-- ---- the module

-- the two sections stay where nothing is added, and else spell the types and the records
abbrev pub AreSections : (imports : List (ℕ × Symbol)) → (m out : Module) → Type 0
AreSections [] m out = (out.object.types ≡ m.object.types) × (out.object.records ≡ m.object.records)
AreSections (one ∷ imports) m out =
    (out.object.types ≡ Some (types_spelling out.types)) × (out.object.records ≡ Some (records_spelling out.records))

-- the second module is the first one, with a stub for each import
pub record IsStubbed (m out : Module) : Type 0 where
  pub parts : parts_of out ≡ stubbed_parts m
  pub sections : AreSections (imports_of m.object) m out

-- ---- the limits

-- how much the parts are, by what is limited
abbrev pub part_sizes : Parts → Sizes
part_sizes parts = record {
  symbols = length parts.symbols;
  relocs = length parts.relocs;
  text = length parts.text;
  static_data = length parts.static_data;
  types = length parts.types;
  functions = length parts.functions;
  branches = length parts.branches;
}

-- the first limit on one object that the module with stubs passes
abbrev pub stubs_pass : Module → Option Limit
stubs_pass m = passed (part_sizes (stubbed_parts m))

-- why a module gets no stubs: that limit, unless memory ran out
abbrev pub IsStubFault : Module → StubFault → Type 0
IsStubFault m (TooMany what) = stubs_pass m ≡ Some what
IsStubFault m Memory = ⊤
