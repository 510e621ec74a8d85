-- What may be read of placed modules: the classes of their types are numbers that nodes can have.
use Rattle.std.specs.Prelude.{◌≡◌, ℕ, ◌+◌, ◌*◌, ◌<◌, ◌^◌, List, [], length, map, slice_get, slice_index_or, Some, All, ⊤}
use Rattle.std.specs.List.{flat_map}
use Rattle.cfi_word.specs.declared.limits.TheConstants.{MAX_CODE_WORDS}
use Rattle.cfi_type_table.specs.Node.{Node}
use Rattle.cfi_type_table.specs.Spelling.{AreTypes}
use Rattle.cfi_aux.specs.declared.placed.Placed.{Placed}
use Rattle.cfi_aux.specs.declared.records.Kind.{Kind}
use Rattle.cfi_aux.specs.declared.records.Kind.TheVariants as kinds
use Rattle.cfi_graph.specs.Shaped.{IsShaped, AreApart}
use Rattle.cfi_graph.specs.Facts.{type_node}

-- the types of the modules
abbrev pub tables_of : List Placed → List (List Node)
tables_of ms = map (λ m. m.types) ms

-- how many type nodes the modules have
abbrev pub type_count : List Placed → ℕ
type_count ms = length (flat_map (λ types. types) (tables_of ms))

-- how many nodes their flow has
abbrev pub node_count : List Placed → ℕ
node_count ms = MAX_CODE_WORDS + type_count ms

-- modules that a graph can be made of: they lie apart and have type tables, and there are fewer of them than 2^32,
-- and of the nodes of their flow
pub record HaveGraph (ms : List Placed) : Type 0 where
  pub apart : AreApart ms
  pub types : All (λ m. AreTypes m.types) ms
  pub few : length ms < 2 ^ 32
  pub nodes : node_count ms < 2 ^ 32

-- the module of a number has classes for its types
pub record HasClasses (classes : List (List ℕ)) (number : ℕ) (m : Placed) : Type 0 where
  pub table : number < length classes
  pub row : length (slice_index_or classes number []) ≡ length m.types
  pub low : (node : ℕ) → node < length m.types → type_node classes number node < 2 ^ 32

-- the module can be read
pub record CanBeRead (classes : List (List ℕ)) (number : ℕ) (m : Placed) : Type 0 where
  pub shaped : IsShaped m
  pub classed : HasClasses classes number m

-- each of the modules can be read
abbrev pub CanAllBeRead : (classes : List (List ℕ)) → List Placed → Type 0
CanAllBeRead classes ms = (number : ℕ) (m : Placed) → slice_get ms number ≡ Some m → CanBeRead classes number m

-- a branch names a node of the types, or addresses of the code
abbrev pub NamesInside : (base types : ℕ) → Kind → Type 0
NamesInside base types (kinds.Call node) = node < types
NamesInside base types (kinds.Tail node) = node < types
NamesInside base types kinds.Return = ⊤
NamesInside base types (kinds.Switch entries) = All (λ entry. 4 * base + entry < 4 * MAX_CODE_WORDS) entries
NamesInside base types (kinds.Import name cell) = ⊤
