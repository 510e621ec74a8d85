-- Modules joined in order. What a module brings comes after what stands, and its numbers go up by what stands: places
-- in text by the bytes of text, places in data and cells by where its data begins, numbers of symbols by the symbols,
-- numbers of nodes by the nodes. The data of a module begins at a multiple of 16; a gap is zero.
use Rattle.std.specs.Prelude.{ℕ, ◌+◌, ◌%◌, ◌^◌, List, [], ◌++◌, length, map, fold, replicate, option_map}
use Rattle.std.specs.List.{enumerate_from}
use Rattle.elf_read.specs.declared.object.Symbol.{Symbol}
use Rattle.elf_read.specs.declared.object.Place.{Place}
use Rattle.elf_read.specs.declared.object.Place.TheVariants as places
use Rattle.elf_read.specs.declared.object.Reloc.{Reloc}
use Rattle.elf_read.specs.declared.object.Area.{Area}
use Rattle.elf_read.specs.declared.object.Area.TheVariants as areas
use Rattle.cfi_type_table.specs.Node.{Node, make_node}
use Rattle.cfi_type_table.specs.Kind.{numbers_of, nodes_of}
use Rattle.cfi_aux.specs.declared.modules.Module.{Module}
use Rattle.cfi_aux.specs.declared.records.Function.{Function}
use Rattle.cfi_aux.specs.declared.records.Kind.{Kind}
use Rattle.cfi_aux.specs.declared.records.Kind.TheVariants as branches
use Rattle.cfi_link.specs.declared.start.Start.{Start}
use Rattle.cfi_link.specs.declared.joined.OwnReloc.{OwnReloc}
use Rattle.cfi_link.specs.Gap.{gap}

-- joined modules, and how many they are; each relocation has the number of its module and its number there
pub record Joined : Type 0 where
  pub text : List ℕ
  pub static_data : List ℕ
  pub symbols : List Symbol
  pub relocs : List OwnReloc
  pub types : List Node
  pub functions : List Function
  pub branches : List Kind
  pub count : ℕ

-- no modules, joined
abbrev pub nothing : Joined
nothing = record {
  text = [];
  static_data = [];
  symbols = [];
  relocs = [];
  types = [];
  functions = [];
  branches = [];
  count = 0;
}

-- ---- where a module begins

-- where the next module begins
abbrev pub start_of : Joined → Start
start_of joined = record {
  text = length joined.text;
  static_data = length joined.static_data + gap (length joined.static_data);
  symbols = length joined.symbols;
  types = length joined.types;
}

-- ---- what is shifted

-- a number of records, in 32 bits
abbrev pub shifted : (by number : ℕ) → ℕ
shifted by number = (number + by) % 2 ^ 32

-- the value of a symbol, by its place
abbrev pub value_at : Start → Place → (value : ℕ) → ℕ
value_at start places.Undefined value = value
value_at start places.Absolute value = value
value_at start places.Text value = start.text + value
value_at start places.Data value = start.static_data + value

-- a symbol behind what stands
abbrev pub symbol_at : Start → Symbol → Symbol
symbol_at start symbol = record symbol { value = value_at start symbol.place symbol.value }

-- where the field of a relocation is, by its area
abbrev pub offset_at : Start → Area → (offset : ℕ) → ℕ
offset_at start areas.Text offset = start.text + offset
offset_at start areas.Data offset = start.static_data + offset

-- a relocation behind it
abbrev pub reloc_at : Start → Reloc → Reloc
reloc_at start reloc = record reloc {
  offset = offset_at start reloc.area reloc.offset;
  symbol = option_map (λ k. start.symbols + k) reloc.symbol;
}

-- the same with the numbers of its module and of itself there
abbrev pub own_reloc_at : Start → (owner : ℕ) → ℕ × Reloc → OwnReloc
own_reloc_at start owner (number, reloc) =
    record { owner = owner; number = number; reloc = reloc_at start reloc }

-- a node behind it
abbrev pub node_at : Start → Node → Node
node_at start node = make_node node.kind (numbers_of node ++ map (λ k. start.types + k) (nodes_of node))

-- a function behind it
abbrev pub function_at : Start → Function → Function
function_at start f = record f { offset = shifted start.text f.offset; ty = shifted start.types f.ty }

-- a branch's kind behind it
abbrev pub branch_at : Start → Kind → Kind
branch_at start (branches.Call node) = branches.Call (shifted start.types node)
branch_at start (branches.Tail node) = branches.Tail (shifted start.types node)
branch_at start branches.Return = branches.Return
branch_at start (branches.Switch entries) = branches.Switch (map (shifted start.text) entries)
branch_at start (branches.Import name cell) = branches.Import name (shifted start.static_data cell)

-- ---- modules

-- the data with the data of one module more
abbrev pub with_data : (old more : List ℕ) → List ℕ
with_data old more = old ++ replicate (gap (length old)) 0 ++ more

-- joined modules and one more
unfoldable pub with_module : Joined → Module → Joined
with_module joined m = let start = start_of joined in record {
  text = joined.text ++ m.object.text;
  static_data = with_data joined.static_data m.object.static_data;
  symbols = joined.symbols ++ map (symbol_at start) m.object.symbols;
  relocs = joined.relocs ++ map (own_reloc_at start joined.count) (enumerate_from 0 m.object.relocs);
  types = joined.types ++ map (node_at start) m.types;
  functions = joined.functions ++ map (function_at start) m.records.functions;
  branches = joined.branches ++ map (branch_at start) m.records.branches;
  count = joined.count + 1;
}

-- modules in order
abbrev pub joined_of : List Module → Joined
joined_of modules = fold with_module nothing modules
