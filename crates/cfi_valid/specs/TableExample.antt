-- A run of three modules: a guest of `main` calls two functions of `lib`, one of which goes on by a table of functions
-- and one by a table of cases, opens `plug`, and calls what it opened. `lib` has the two tables in its data, and
-- relocations for them. The guest puts three bytes and exits with 0.
use Rattle.std.specs.Prelude.{ℕ, ◌/◌, ◌%◌, ◌^◌, Bool, true, false, pos, List, [], ◌∷◌, length, codes, replicate, flat_map, Some, None, IsTrue, refl}
use Rattle.cfi_aux.specs.declared.modules.Module.{Module}
use Rattle.cfi_aux.specs.Cells.{have_cells}
use Rattle.cfi_aux.specs.declared.records.Function.{Function}
use Rattle.cfi_aux.specs.declared.records.Kind.{Kind}
use Rattle.cfi_aux.specs.declared.records.Kind.TheVariants.{Call, Tail, Return, Switch}
use Rattle.cfi_plan.specs.declared.journal.JournalLine.TheVariants.{LoadOk}
use Rattle.cfi_plan.specs.declared.journal.ModuleLine.{ModuleLine}
use Rattle.cfi_plan.specs.declared.journal.Who.TheVariants.{Guest}
use Rattle.cfi_plan.specs.declared.plan.Plan.{Plan}
use Rattle.cfi_report.specs.declared.report.GuestPart.{GuestPart}
use Rattle.cfi_report.specs.declared.report.Report.{Report}
use Rattle.cfi_type_table.specs.Node.{Node, make_node}
use Rattle.cfi_unit.specs.declared.log.Log.TheVariants.{Pick, Open}
use Rattle.cfi_unit.specs.declared.log.Stop.TheVariants.{Exit}
use Rattle.cfi_valid.specs.LoadExample.{planned}
use Rattle.cfi_word.specs.declared.limits.TheConstants.{MAX_CODE_WORDS, MAX_VERSIONS, FUEL}
use Rattle.elf_read.specs.declared.object.Area.TheVariants as areas
use Rattle.elf_read.specs.declared.object.Binding.{Binding}
use Rattle.elf_read.specs.declared.object.Binding.TheVariants as bindings
use Rattle.elf_read.specs.declared.object.Place.{Place}
use Rattle.elf_read.specs.declared.object.Place.TheVariants as places
use Rattle.elf_read.specs.declared.object.Reloc.{Reloc}
use Rattle.elf_read.specs.declared.object.Area.{Area}
use Rattle.elf_read.specs.declared.object.Symbol.{Symbol}

-- ---- parts of modules

-- the bytes of a word, the lowest first
abbrev pub bytes_of_word : ℕ → List ℕ
bytes_of_word word = word % 2 ^ 8 ∷ word / 2 ^ 8 % 2 ^ 8 ∷ word / 2 ^ 16 % 2 ^ 8 ∷ word / 2 ^ 24 ∷ []

-- a symbol, of its parts
abbrev pub symbol_with : (name : List ℕ) → Binding → Place → (value : ℕ) → Symbol
symbol_with name binding place value = record { name = name; binding = binding; place = place; value = value }

-- a relocation without an addend
abbrev pub reloc_with : Area → (offset kind symbol : ℕ) → Reloc
reloc_with area offset kind symbol =
    record { area = area; offset = offset; kind = kind; symbol = Some symbol; addend = pos 0 }

-- a function, of its parts
abbrev pub function_with : (name : List ℕ) → (offset size ty : ℕ) → (taken : Bool) → Function
function_with name offset size ty taken =
    record { offset = offset; length = size; ty = ty; taken = taken; name = name }

-- a module, of its parts, whose cells lie in its data
abbrev pub module_with : (words static_data : List ℕ) → List Symbol → List Reloc → List Node → List Function
    → (branches : List Kind) → IsTrue (have_cells (length static_data) branches) → Module
module_with words static_data symbols relocs types functions branches cells = record {
  object = record {
    text = flat_map bytes_of_word words;
    static_data = static_data;
    symbols = symbols;
    relocs = relocs;
    types = None;
    records = None;
  };
  types = types;
  records = record { functions = functions; branches = branches };
  cells = cells;
}

-- ---- `lib`

-- the words of `lib`: checks, and pairs under relocations
abbrev pub lib_words : List ℕ
lib_words =
    0x00a50533 ∷ 0x00008f93 ∷ 0x012fdf13 ∷ 0x020f1463 ∷ 0x20000e37 ∷ 0x000e2e83 ∷ 0x10000f37 ∷ 0x01ff0f33
    ∷ 0x000f2f03 ∷ 0x01ee8a63 ∷ 0x01df4f33 ∷ 0x010f1f13 ∷ 0xfe0f10e3 ∷ 0x00100073 ∷ 0x000f8067 ∷ 0x00150513
    ∷ 0x00008f93 ∷ 0x012fdf13 ∷ 0x020f1463 ∷ 0x20000e37 ∷ 0x004e2e83 ∷ 0x10000f37 ∷ 0x01ff0f33 ∷ 0x000f2f03
    ∷ 0x01ee8a63 ∷ 0x01df4f33 ∷ 0x010f1f13 ∷ 0xfe0f10e3 ∷ 0x00100073 ∷ 0x000f8067 ∷ 0x00000297 ∷ 0x00028293
    ∷ 0x00251313 ∷ 0x006282b3 ∷ 0x00028f93 ∷ 0x00cf9f93 ∷ 0x00cfdf93 ∷ 0x40000f37 ∷ 0x01efefb3 ∷ 0x000fa283
    ∷ 0x00500513 ∷ 0x00028f93 ∷ 0x012fdf13 ∷ 0x020f1463 ∷ 0x20000e37 ∷ 0x008e2e83 ∷ 0x10000f37 ∷ 0x01ff0f33
    ∷ 0x000f2f03 ∷ 0x01ee8a63 ∷ 0x01df4f33 ∷ 0x010f1f13 ∷ 0xfe0f10e3 ∷ 0x00100073 ∷ 0x000f8067 ∷ 0x00000297
    ∷ 0x00028293 ∷ 0x00251313 ∷ 0x006282b3 ∷ 0x00028f93 ∷ 0x00cf9f93 ∷ 0x00cfdf93 ∷ 0x40000f37 ∷ 0x01efefb3
    ∷ 0x000fa283 ∷ 0x00028f93 ∷ 0x012fdf13 ∷ 0x020f1463 ∷ 0x20000e37 ∷ 0x00ce2e83 ∷ 0x10000f37 ∷ 0x01ff0f33
    ∷ 0x000f2f03 ∷ 0x01ee8a63 ∷ 0x01df4f33 ∷ 0x010f1f13 ∷ 0xfe0f10e3 ∷ 0x00100073 ∷ 0x000f8067 ∷ 0x04100513
    ∷ 0x00008f93 ∷ 0x012fdf13 ∷ 0x020f1463 ∷ 0x20000e37 ∷ 0x010e2e83 ∷ 0x10000f37 ∷ 0x01ff0f33 ∷ 0x000f2f03
    ∷ 0x01ee8a63 ∷ 0x01df4f33 ∷ 0x010f1f13 ∷ 0xfe0f10e3 ∷ 0x00100073 ∷ 0x000f8067 ∷ 0x04200513 ∷ 0x00008f93
    ∷ 0x012fdf13 ∷ 0x020f1463 ∷ 0x20000e37 ∷ 0x014e2e83 ∷ 0x10000f37 ∷ 0x01ff0f33 ∷ 0x000f2f03 ∷ 0x01ee8a63
    ∷ 0x01df4f33 ∷ 0x010f1f13 ∷ 0xfe0f10e3 ∷ 0x00100073 ∷ 0x000f8067 ∷ []

-- its types: an int, and a function of one that gives one
abbrev pub lib_types : List Node
lib_types = make_node 1 (32 ∷ 1 ∷ []) ∷ make_node 7 (0 ∷ 0 ∷ []) ∷ []

-- its branches: returns, a tail call by the table, and a switch
abbrev pub lib_branches : List Kind
lib_branches = Return ∷ Return ∷ Tail 1 ∷ Switch (316 ∷ 376 ∷ []) ∷ Return ∷ Return ∷ []

-- the module
abbrev pub lib_module : Module
lib_module =
    module_with lib_words (replicate 16 0)
    (symbol_with (codes "twice") bindings.Local places.Text 0
    ∷ symbol_with (codes "incr") bindings.Local places.Text 60
    ∷ symbol_with (codes ".Lpc0") bindings.Local places.Text 120
    ∷ symbol_with (codes "table") bindings.Local places.Data 0
    ∷ symbol_with (codes ".Lpc1") bindings.Local places.Text 220
    ∷ symbol_with (codes "jt") bindings.Local places.Data 8
    ∷ symbol_with (codes "L0") bindings.Local places.Text 316
    ∷ symbol_with (codes "L1") bindings.Local places.Text 376
    ∷ symbol_with (codes "sel") bindings.Global places.Text 120
    ∷ symbol_with (codes "choose") bindings.Global places.Text 220 ∷ [])
    (reloc_with areas.Text 120 23 3
    ∷ reloc_with areas.Text 124 24 2
    ∷ reloc_with areas.Text 220 23 5
    ∷ reloc_with areas.Text 224 24 4
    ∷ reloc_with areas.Data 0 1 0
    ∷ reloc_with areas.Data 4 1 1
    ∷ reloc_with areas.Data 8 1 6
    ∷ reloc_with areas.Data 12 1 7 ∷ [])
    lib_types
    (function_with (codes "twice") 0 60 1 true
    ∷ function_with (codes "incr") 60 60 1 true
    ∷ function_with (codes "sel") 120 100 1 false
    ∷ function_with (codes "choose") 220 216 1 false ∷ [])
    lib_branches refl

-- ---- `main`

-- the words of `main`
abbrev pub main_words : List ℕ
main_words =
    0x00000513 ∷ 0x000000ef ∷ 0x00200893 ∷ 0x00000073 ∷ 0x00100513 ∷ 0x000000ef ∷ 0x00200893 ∷ 0x00000073
    ∷ 0x00400893 ∷ 0x00200513 ∷ 0x00000073 ∷ 0x00050293 ∷ 0x00700513 ∷ 0x00028f93 ∷ 0x012fdf13 ∷ 0x020f1463
    ∷ 0x20000e37 ∷ 0x000e2e83 ∷ 0x10000f37 ∷ 0x01ff0f33 ∷ 0x000f2f03 ∷ 0x01ee8a63 ∷ 0x01df4f33 ∷ 0x010f1f13
    ∷ 0xfe0f10e3 ∷ 0x00100073 ∷ 0x000f80e7 ∷ 0x00200893 ∷ 0x00000073 ∷ 0x00000513 ∷ 0x00100893 ∷ 0x00000073
    ∷ 0x0000006f ∷ []

-- its types: an int, a function of one, nothing, and a function that gives nothing
abbrev pub main_types : List Node
main_types = make_node 1 (32 ∷ 1 ∷ []) ∷ make_node 7 (0 ∷ 0 ∷ []) ∷ make_node 0 [] ∷ make_node 7 (2 ∷ []) ∷ []

-- its branch: the call of what was opened
abbrev pub main_branches : List Kind
main_branches = Call 1 ∷ []

-- the module
abbrev pub main_module : Module
main_module =
    module_with main_words []
    (symbol_with (codes "_start") bindings.Global places.Text 0
    ∷ symbol_with (codes "sel") bindings.Global places.Undefined 0
    ∷ symbol_with (codes "choose") bindings.Global places.Undefined 0 ∷ [])
    (reloc_with areas.Text 4 17 1
    ∷ reloc_with areas.Text 20 17 2 ∷ [])
    main_types
    (function_with (codes "_start") 0 132 3 false ∷ [])
    main_branches refl

-- ---- `plug`

-- the words of `plug`
abbrev pub plug_words : List ℕ
plug_words =
    0x03c50513 ∷ 0x00008f93 ∷ 0x012fdf13 ∷ 0x020f1463 ∷ 0x20000e37 ∷ 0x000e2e83 ∷ 0x10000f37 ∷ 0x01ff0f33
    ∷ 0x000f2f03 ∷ 0x01ee8a63 ∷ 0x01df4f33 ∷ 0x010f1f13 ∷ 0xfe0f10e3 ∷ 0x00100073 ∷ 0x000f8067 ∷ []

-- its types: an int, and a function of one
abbrev pub plug_types : List Node
plug_types = make_node 1 (32 ∷ 1 ∷ []) ∷ make_node 7 (0 ∷ 0 ∷ []) ∷ []

-- its branch: a return
abbrev pub plug_branches : List Kind
plug_branches = Return ∷ []

-- the module
abbrev pub plug_module : Module
plug_module =
    module_with plug_words []
    (symbol_with (codes "plus60") bindings.Global places.Text 0 ∷ [])
    []
    plug_types
    (function_with (codes "plus60") 0 60 1 true ∷ [])
    plug_branches refl

-- ---- the plan and the report, where the guest put these bytes

-- the plan of the three
abbrev pub table_plan : Plan
table_plan = record {
  code_words = MAX_CODE_WORDS;
  versions = MAX_VERSIONS;
  first = 0;
  fuel = FUEL;
  modules = planned (codes "lib") (codes "lib.o") true
      ∷ planned (codes "main") (codes "main.o") true
      ∷ planned (codes "plug") (codes "plug.o") false
      ∷ [];
  guests = codes "_start" ∷ [];
  script = [];
}

-- a module's line in a report
abbrev pub placed_line : (number : ℕ) → (name : List ℕ) → (base slot data_base policy : ℕ) → ModuleLine
placed_line number name base slot data_base policy = record {
  number = number;
  name = name;
  base = base;
  slot = slot;
  data_base = data_base;
  policy = policy;
}

-- the part of the guest, where it has put this
abbrev pub table_part : (out : List ℕ) → GuestPart
table_part out = record {
  number = 0;
  entry = codes "_start";
  log = Pick 0 4 ∷ Open 2 632 1 ∷ Pick 1 2 ∷ [];
  out = out;
  stop = Some (Exit 0);
  units = 38;
  steps = 102;
}

-- the report of the run
abbrev pub table_report : (out : List ℕ) → Report
table_report out = record {
  epoch = 1;
  policy = 1;
  modules = placed_line 0 (codes "lib") 16 0 0x40000000 0
      ∷ placed_line 1 (codes "main") 125 6 0x40000010 0
      ∷ placed_line 2 (codes "plug") 158 7 0x40000010 1
      ∷ [];
  journal = record { who = Guest 0; what = LoadOk 2 1 1 } ∷ [];
  guests = table_part out ∷ [];
}
