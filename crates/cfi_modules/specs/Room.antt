-- The rooms of modules that are placed one after the other: words and slots follow on, and data begins at the next
-- multiple of `DATA_ALIGNMENT`. Places in the code are words, places of data are addresses in bytes.
use Rattle.std.specs.Prelude.{ℕ, ◌+◌, List, fold, length}
use Rattle.cfi_aux.specs.declared.placed.Placed.{Placed}
use Rattle.cfi_word.specs.declared.map.TheConstants.{FIRST_BASE, DATA_START, DATA_ALIGNMENT}
use Rattle.cfi_place.specs.declared.room.Room.{Room}
use Rattle.std.specs.Int.{next_multiple_of}

-- the room of the first module
abbrev pub first_room : (code_words : ℕ) → Room
first_room code_words = record {
  base = FIRST_BASE;
  slot_base = 0;
  data_base = DATA_START;
  code_words = code_words;
}

-- the room behind a module that stands in a room
abbrev pub room_behind : Room → Placed → Room
room_behind room placed = record {
  base = placed.base + length placed.words;
  slot_base = placed.slot_base + length placed.branches;
  data_base = next_multiple_of (placed.data_base + length placed.static_data) DATA_ALIGNMENT;
  code_words = room.code_words;
}

-- the room behind all of them
abbrev pub room_after : (code_words : ℕ) → List Placed → Room
room_after code_words placed = fold room_behind (first_room code_words) placed
