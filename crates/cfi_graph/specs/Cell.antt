-- The cells of late imports: each is a word of its module's data, in which a guest finds the address of the function
-- that the import's name means by then among the live modules.
use Rattle.std.specs.Prelude.{◌≡◌, ◌⊎◌, ℕ, ◌+◌, ◌<◌, ◌^◌, List, length, flat_map, Option, Some, None, unwrap_or}
use Rattle.std.specs.List.{filter_map}
use Rattle.std.specs.Int.{w32, to_le_bytes}
use Rattle.cfi_unit.specs.declared.fill.Fill.{Fill}
use Rattle.cfi_aux.specs.declared.placed.Placed.{Placed}
use Rattle.cfi_aux.specs.declared.records.Kind.{Kind}
use Rattle.cfi_aux.specs.declared.records.Kind.TheVariants.{Call, Tail, Return, Switch, Import}
use Rattle.cfi_graph.specs.Direct.{IsImportTarget}
use Rattle.cfi_graph.specs.Facts.{ByName}
use Rattle.cfi_graph.specs.Named.{entry_among}

-- the word that the cell of a name holds: where the name leads, or 0 where it leads nowhere
abbrev pub cell_word : ByName → (name : List ℕ) → ℕ
cell_word imports name = unwrap_or (imports name) 0

-- the cell of a branch of m, with its word, the least byte first: a case a kind
abbrev pub cell_by : ByName → Placed → Kind → Option Fill
cell_by imports m (Call node) = None
cell_by imports m (Tail node) = None
cell_by imports m Return = None
cell_by imports m (Switch entries) = None
cell_by imports m (Import name cell) =
    Some (record { at = m.data_base + cell; bytes = to_le_bytes w32 (cell_word imports name) })

-- those of a module, in the order of its branches
abbrev pub cells_in : ByName → Placed → List Fill
cells_in imports m = filter_map (cell_by imports m) m.branches

-- those of all modules, in order, where names mean what they mean among the live ones; where two imports name one cell,
-- the later word stays
abbrev pub cells_of : (live ms : List Placed) → List Fill
cells_of live ms = flat_map (cells_in (entry_among live)) ms

-- the word is the address of the function that the name means to the live modules, or 0 where it means none
abbrev pub IsCellWord : (live : List Placed) → (name : List ℕ) → (word : ℕ) → Type 0
IsCellWord live name word =
    IsImportTarget live name word ⊎ ((word ≡ 0) × ((address : ℕ) → IsImportTarget live name address → ⊥))

-- the module's data ends within 32 bits
abbrev pub HasData : Placed → Type 0
HasData m = m.data_base + length m.static_data < 2 ^ 32
