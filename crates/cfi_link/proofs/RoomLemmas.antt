-- What a module that breaks no rule has fits into numbers of four bytes where there is room.
use Rattle.std.proofs.Common.{◌+◌, ◌<◌, ◌^◌, length, All, arith}
use Rattle.std.proofs.lemmas.List.Elements.{All-weaker, All-from_recursion}
use Rattle.elf_read.specs.declared.object.Object.{Object}
use Rattle.cfi_type_table.specs.Kind.{nodes_of}
use Rattle.cfi_type_table.specs.Spelling.{NamesBelow}
use Rattle.cfi_aux.specs.declared.modules.Module.{Module}
use Rattle.cfi_aux.specs.Sound.{IsSoundModule}
use Rattle.cfi_link.specs.declared.start.Start.{Start}
use Rattle.cfi_link.specs.Joined.{Joined, start_of}
use Rattle.cfi_link.specs.inner.Room.{HasNodes, HasRoom}

-- the ends of a module's text and data
record HasEnds (start : Start) (object : Object) : Type 0 where
  text : start.text + length object.text < 2 ^ 32
  static_data : start.static_data + length object.static_data < 2 ^ 32
  symbols : start.symbols + length object.symbols < 2 ^ 32

has_ends : (joined : Joined) (m : Module) → HasRoom joined m → HasEnds (start_of joined) m.object
has_ends joined m room = record { text = room.text; static_data = room.static_data; symbols = room.symbols }

pub room_nodes : (joined : Joined) (m : Module) → IsSoundModule m → HasRoom joined m
    → All (HasNodes (start_of joined)) m.types
room_nodes joined m sound room =
    let total : length joined.types + length m.types < 2 ^ 32 = room.types in
    All-weaker (NamesBelow (length m.types)) (HasNodes (start_of joined))
    (λ x below. All-weaker (λ k. k < length m.types) (λ k. (start_of joined).types + k < 2 ^ 32)
    (λ k lt. omega (arith, lt, total)) (nodes_of x) below)
    m.types (All-from_recursion (NamesBelow (length m.types)) m.types sound.table.names)
