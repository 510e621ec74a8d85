-- Modules whose numbers, once they are shifted, have words of four bytes.
use Rattle.std.specs.Prelude.{ℕ, ◌+◌, ◌<◌, ◌^◌, length, All, Option, Some, None, ⊤}
use Rattle.elf_read.specs.declared.object.Place.{Place}
use Rattle.elf_read.specs.declared.object.Place.TheVariants as places
use Rattle.elf_read.specs.declared.object.Reloc.{Reloc}
use Rattle.cfi_type_table.specs.Node.{Node}
use Rattle.cfi_type_table.specs.Kind.{nodes_of}
use Rattle.cfi_aux.specs.declared.modules.Module.{Module}
use Rattle.cfi_link.specs.declared.start.Start.{Start}
use Rattle.cfi_link.specs.Joined.{Joined, start_of, offset_at}

-- a symbol's value, by its place
abbrev pub HasValue : Start → Place → (value : ℕ) → Type 0
HasValue start places.Undefined value = ⊤
HasValue start places.Absolute value = ⊤
HasValue start places.Text value = start.text + value < 2 ^ 32
HasValue start places.Data value = start.static_data + value < 2 ^ 32

-- the number of a relocation's symbol
abbrev pub HasNumber : Start → (symbol : Option ℕ) → Type 0
HasNumber start None = ⊤
HasNumber start (Some k) = start.symbols + k < 2 ^ 32

-- a relocation's field and symbol
pub record HasPlace (start : Start) (reloc : Reloc) : Type 0 where
  pub place : offset_at start reloc.area reloc.offset < 2 ^ 32
  pub symbol : HasNumber start reloc.symbol

-- the nodes that a node names
abbrev pub HasNodes : Start → Node → Type 0
HasNodes start node = All (λ k. start.types + k < 2 ^ 32) (nodes_of node)

-- a module that comes after joined ones
pub record HasRoom (joined : Joined) (m : Module) : Type 0 where
  pub text : length joined.text + length m.object.text < 2 ^ 32
  pub static_data : (start_of joined).static_data + length m.object.static_data < 2 ^ 32
  pub symbols : length joined.symbols + length m.object.symbols < 2 ^ 32
  pub relocs : length m.object.relocs < 2 ^ 32
  pub types : length joined.types + length m.types < 2 ^ 32
  pub count : joined.count + 1 < 2 ^ 32
