-- What a module is at its place, or the first reason why it does not fit there.
use Rattle.std.specs.Prelude.{◌≡◌, ℕ, ◌+◌, ◌*◌, ◌/◌, ◌%◌, ◌≤◌, Bool, nat_le, if◌then◌else◌, List, length, map, Option, Some, None, Result, Ok, Err, ⊤}
use Rattle.std.specs.List.{range_with_len}
use Rattle.elf_read.specs.declared.object.Object.{Object}
use Rattle.rv_reloc.specs.Bytes.{word_at}
use Rattle.cfi_word.specs.Table.{IsSize}
use Rattle.cfi_aux.specs.declared.modules.Module.{Module}
use Rattle.cfi_aux.specs.declared.placed.Placed.{Placed}
use Rattle.cfi_aux.specs.Placed.{exports_of}
use Rattle.cfi_place.specs.declared.room.Room.{Room}
use Rattle.cfi_word.specs.declared.map.TheConstants.{DATA_START, DATA_END, DATA_ALIGNMENT}
use Rattle.cfi_place.specs.declared.fault.PlaceFault.{PlaceFault}
use Rattle.cfi_place.specs.declared.fault.PlaceFault.TheVariants as faults
use Rattle.cfi_place.specs.Names.{Names}
use Rattle.cfi_place.specs.Value.{own_in, values_by, undefined_in}
use Rattle.cfi_place.specs.Relocated.{Areas, areas_of, high_parts, relocated_from}
use Rattle.cfi_place.specs.Slots.{HasSlots}
use Rattle.cfi_place.specs.Functions.{placed_functions}
use Rattle.cfi_word.specs.declared.sizes.TheConstants.{CHECK_WORDS}

-- a room that next free places may be
pub record IsRoom (room : Room) : Type 0 where
  pub size : IsSize room.code_words
  pub code : room.base ≤ room.code_words
  pub slots : CHECK_WORDS * room.slot_base ≤ room.base
  pub aligned : room.data_base % DATA_ALIGNMENT ≡ 0
  pub low : DATA_START ≤ room.data_base
  pub high : room.data_base ≤ DATA_END

-- the words of bytes
abbrev pub bytes_as_words : List ℕ → List ℕ
bytes_as_words bytes = map (λ k. word_at (4 * k) bytes) (range_with_len 0 (length bytes / 4))

-- the values of an object's symbols at a room
abbrev pub values_in : Object → Room → Names → List (Option ℕ)
values_in object room names = values_by room (own_in room object.symbols) names object.symbols

-- what its relocations make of its bytes
abbrev pub relocated : Object → Room → (values : List (Option ℕ)) → Result Areas PlaceFault
relocated object room values =
    relocated_from room values (high_parts room values object.relocs) 0 object.relocs
    (areas_of object.text object.static_data)

-- goes on where no name is undefined, and where a test holds
abbrev pub unless_undefined : Option (List ℕ) → Result Areas PlaceFault → Result Areas PlaceFault
unless_undefined None next = next
unless_undefined (Some name) next = Err (faults.Undefined name)

-- the result, or this fault where something does not fit
abbrev pub where_fits : Bool → PlaceFault → Result Areas PlaceFault → Result Areas PlaceFault
where_fits fits fault next = if fits then next else Err fault

-- the text's words and the data's bytes fit
abbrev pub code_fits : Object → Room → Bool
code_fits object room = nat_le (room.base + length object.text / 4) room.code_words

-- the data end within private data
abbrev pub data_fits : Object → Room → Bool
data_fits object room = nat_le (room.data_base + length object.static_data) DATA_END

-- the bytes of the placed object, or its first fault
abbrev pub placed_by : Object → Room → (values : List (Option ℕ)) → Result Areas PlaceFault
placed_by object room values =
    unless_undefined (undefined_in object.symbols values object.relocs)
    (where_fits (code_fits object room) faults.CodeFull
    (where_fits (data_fits object room) faults.DataFull (relocated object room values)))

-- text and data of an object in a room, or the first fault
abbrev pub placed_in : Object → Room → Names → Result Areas PlaceFault
placed_in object room names = placed_by object room (values_in object room names)

-- a module at its place
pub record IsPlaced (m : Module) (room : Room) (names : Names) (placed : Placed) : Type 0 where
  pub bytes : Areas
  pub is_placed : placed_in m.object room names ≡ Ok bytes
  pub base : placed.base ≡ room.base
  pub slot_base : placed.slot_base ≡ room.slot_base
  pub data_base : placed.data_base ≡ room.data_base
  pub words : HasSlots (bytes_as_words m.object.text) room.slot_base (bytes_as_words bytes.text) placed.words
  pub static_data : placed.static_data ≡ bytes.static_data
  pub functions : placed.functions ≡ placed_functions m.object.symbols m.records.functions
  pub branches : placed.branches ≡ m.records.branches
  pub types : placed.types ≡ m.types
  pub exports : placed.exports ≡ exports_of room.base room.data_base m.object.symbols

-- a refusal is the module's first fault, unless memory ran out
abbrev pub IsFault : PlaceFault → (due : Result Areas PlaceFault) → Type 0
IsFault faults.Memory due = ⊤
IsFault fault due = due ≡ Err fault
