-- A run with a load: the guest of the module `main` opens the module `plug`, calls its function, which returns, and
-- exits with its address. Places are worked out by hand: `main` has 20 words from word 16 on, so `plug` stands at
-- word 36, address 144. Both checks pick the policy that came with `plug`; each runs ten instructions, and each other
-- unit one.
use Rattle.std.specs.Prelude.{ℕ, Bool, true, false, List, [], ◌∷◌, ◌++◌, length, codes, Some, None, IsTrue, refl}
use Rattle.cfi_aux.specs.declared.modules.Module.{Module}
use Rattle.cfi_aux.specs.Cells.{have_cells}
use Rattle.cfi_aux.specs.declared.records.Function.{Function}
use Rattle.cfi_aux.specs.declared.records.Kind.{Kind}
use Rattle.cfi_aux.specs.declared.records.Kind.TheVariants.{Call, Return}
use Rattle.cfi_bare.specs.Modules.{bare_types}
use Rattle.cfi_bare.specs.declared.modules.TheConstants.{FUNCTION_TYPE}
use Rattle.cfi_plan.specs.declared.journal.JournalLine.TheVariants.{LoadOk}
use Rattle.cfi_plan.specs.declared.journal.ModuleLine.{ModuleLine}
use Rattle.cfi_plan.specs.declared.journal.Who.TheVariants.{Guest}
use Rattle.cfi_plan.specs.declared.plan.Plan.{Plan}
use Rattle.cfi_plan.specs.declared.plan.PlanModule.{PlanModule}
use Rattle.cfi_report.specs.declared.report.GuestPart.{GuestPart}
use Rattle.cfi_report.specs.declared.report.Report.{Report}
use Rattle.cfi_unit.specs.declared.log.Log.TheVariants.{Pick, Open}
use Rattle.cfi_unit.specs.declared.log.Stop.TheVariants.{Exit}
use Rattle.cfi_word.specs.declared.limits.TheConstants.{MIN_CODE_WORDS, MAX_VERSIONS, FUEL}
use Rattle.cfi_word.specs.declared.map.TheConstants.{FIRST_BASE, DATA_START}
use Rattle.elf_read.specs.declared.object.Binding.TheVariants as bindings
use Rattle.elf_read.specs.declared.object.Place.TheVariants as places
use Rattle.elf_read.specs.declared.object.Symbol.{Symbol}

-- ---- modules of one Global function

-- a Global symbol at the start of the text
abbrev pub global_symbol : (name : List ℕ) → Symbol
global_symbol name = record { name = name; binding = bindings.Global; place = places.Text; value = 0 }

-- a function over all bytes
abbrev pub whole_function : (name bytes : List ℕ) → Function
whole_function name bytes =
    record { offset = 0; length = length bytes; ty = FUNCTION_TYPE; taken = true; name = name }

-- a module of one such function, with these branches
abbrev pub one_function : (name bytes : List ℕ) → (branches : List Kind) → IsTrue (have_cells 0 branches) → Module
one_function name bytes branches cells = record {
  object = record {
    text = bytes;
    static_data = [];
    symbols = global_symbol name ∷ [];
    relocs = [];
    types = None;
    records = None;
  };
  types = bare_types;
  records = record { functions = whole_function name bytes ∷ []; branches = branches };
  cells = cells;
}

-- the words of a check of slot 0 behind its first one, and before its last
abbrev pub check_middle : List ℕ
check_middle =
    0x13 ∷ 0xdf ∷ 0x2f ∷ 0x01 ∷ 0x63 ∷ 0x14 ∷ 0x0f ∷ 0x02 ∷ 0x37 ∷ 0x0e ∷ 0x00 ∷ 0x20 ∷ 0x83 ∷ 0x2e ∷ 0x0e ∷ 0x00
    ∷ 0x37 ∷ 0x0f ∷ 0x00 ∷ 0x10 ∷ 0x33 ∷ 0x0f ∷ 0xff ∷ 0x01 ∷ 0x03 ∷ 0x2f ∷ 0x0f ∷ 0x00 ∷ 0x63 ∷ 0x8a ∷ 0xee ∷ 0x01
    ∷ 0x33 ∷ 0x4f ∷ 0xdf ∷ 0x01 ∷ 0x13 ∷ 0x1f ∷ 0x0f ∷ 0x01 ∷ 0xe3 ∷ 0x10 ∷ 0x0f ∷ 0xfe ∷ 0x73 ∷ 0x00 ∷ 0x10 ∷ 0x00 ∷ []

-- `addi x17,x0,4`, `addi x10,x0,1`, `ecall`, the check of `jalr x1,0(x10)`, `addi x17,x0,1`, `ecall`, `j .`
abbrev pub opener_bytes : List ℕ
opener_bytes =
    (0x93 ∷ 0x08 ∷ 0x40 ∷ 0x00 ∷ 0x13 ∷ 0x05 ∷ 0x10 ∷ 0x00 ∷ 0x73 ∷ 0x00 ∷ 0x00 ∷ 0x00 ∷ [])
    ++ (0x93 ∷ 0x0f ∷ 0x05 ∷ 0x00 ∷ [])
    ++ check_middle
    ++ (0xe7 ∷ 0x80 ∷ 0x0f ∷ 0x00 ∷ [])
    ++ (0x93 ∷ 0x08 ∷ 0x10 ∷ 0x00 ∷ 0x73 ∷ 0x00 ∷ 0x00 ∷ 0x00 ∷ 0x6f ∷ 0x00 ∷ 0x00 ∷ 0x00 ∷ [])

-- the module that opens the other
abbrev pub opener : Module
opener = one_function (codes "main") opener_bytes (Call FUNCTION_TYPE ∷ []) refl

-- the check of `jalr x0,0(x1)`
abbrev pub plug_bytes : List ℕ
plug_bytes = (0x93 ∷ 0x8f ∷ 0x00 ∷ 0x00 ∷ []) ++ check_middle ++ (0x67 ∷ 0x80 ∷ 0x0f ∷ 0x00 ∷ [])

-- the other module
abbrev pub plug : Module
plug = one_function (codes "plug") plug_bytes (Return ∷ []) refl

-- ---- the plan and the report

-- a module's line in a plan
abbrev pub planned : (name file : List ℕ) → (start : Bool) → PlanModule
planned name file start = record { name = name; file = file; start = start }

-- the plan of both
abbrev pub load_plan : Plan
load_plan = record {
  code_words = MIN_CODE_WORDS;
  versions = MAX_VERSIONS;
  first = 0;
  fuel = FUEL;
  modules = planned (codes "main") (codes "main.o") true ∷ planned (codes "plug") (codes "plug.o") false ∷ [];
  guests = codes "main" ∷ [];
  script = [];
}

-- the line of a module without data
abbrev pub line_at : (number : ℕ) → (name : List ℕ) → (base slot policy : ℕ) → ModuleLine
line_at number name base slot policy = record {
  number = number;
  name = name;
  base = base;
  slot = slot;
  data_base = DATA_START;
  policy = policy;
}

-- its guest's part
abbrev pub load_part : GuestPart
load_part = record {
  number = 0;
  entry = codes "main";
  log = Open 1 144 1 ∷ Pick 1 2 ∷ [];
  out = [];
  stop = Some (Exit 144);
  units = 7;
  steps = 25;
}

-- the report, with this epoch on its journal's line
abbrev pub load_report : (epoch : ℕ) → Report
load_report epoch = record {
  epoch = 1;
  policy = 1;
  modules = line_at 0 (codes "main") FIRST_BASE 0 0 ∷ line_at 1 (codes "plug") 36 1 1 ∷ [];
  journal = record { who = Guest 0; what = LoadOk 1 epoch 1 } ∷ [];
  guests = load_part ∷ [];
}
