-- Small placed modules written by hand. What is said of them is worked out by hand: words and slots follow on, data
-- begins at the next multiple of 16, and a function begins at four times the number of its first word in the code.
use Rattle.std.specs.Prelude.{ℕ, Bool, List, [], ◌∷◌, length, replicate, codes, true, false, IsTrue, refl}
use Rattle.cfi_aux.specs.Cells.{have_cells}
use Rattle.cfi_aux.specs.declared.placed.Placed.{Placed}
use Rattle.cfi_aux.specs.declared.placed.PlacedFunction.{PlacedFunction}
use Rattle.cfi_aux.specs.declared.records.Kind.TheVariants.{Return}
use Rattle.cfi_place.specs.declared.room.Room.{Room}

-- ---- places

-- a module at its places, with so many words, checks and bytes of data
abbrev pub sized : (base slot_base data_base words checks bytes : ℕ)
    → IsTrue (have_cells (length {A = ℕ} (replicate bytes 0)) (replicate checks Return)) → Placed
sized base slot_base data_base words checks bytes cells = record {
  base = base;
  slot_base = slot_base;
  data_base = data_base;
  words = replicate words 0x13;
  static_data = replicate bytes 0;
  functions = [];
  branches = replicate checks Return;
  types = [];
  exports = [];
  cells = cells;
}

-- one of 15 words with 1 check and 1 byte of data, behind it one of 29 words with 2 checks and 16 bytes, and behind
-- both one of 2 words without a check and with 17 bytes
abbrev pub one_byte : Placed
one_byte = sized 16 0 0x40000000 15 1 1 refl

-- a module of 31 words and 16 bytes of data
abbrev pub sixteen_bytes : Placed
sixteen_bytes = sized 31 1 0x40000010 29 2 16 refl

-- a module of 60 words and 17 bytes of data
abbrev pub seventeen_bytes : Placed
seventeen_bytes = sized 60 3 0x40000020 2 0 17 refl

-- a room in 1024 words of code
abbrev pub room_at : (base slot_base data_base : ℕ) → Room
room_at base slot_base data_base = record {
  base = base;
  slot_base = slot_base;
  data_base = data_base;
  code_words = 1024;
}

-- ---- entries

-- a function of one word, with the number of that word in its module
abbrev pub named : (first : ℕ) → (global : Bool) → (name : List ℕ) → PlacedFunction
named first global name = record { first = first; count = 1; ty = 0; taken = false; global = global; name = name }

-- a module of eight words with these functions
abbrev pub having : (base : ℕ) → List PlacedFunction → Placed
having base functions = record (sized base 0 0x40000000 8 0 0 refl) { functions = functions }

-- two Global functions, at words 2 and 5 of their module, and one at its first word that is not Global
abbrev pub low : PlacedFunction
low = named 2 true (codes "low")

-- a Global function that begins at word 5
abbrev pub high : PlacedFunction
high = named 5 true (codes "high")

-- a function of the module's own
abbrev pub own : PlacedFunction
own = named 0 false (codes "main")

-- a Global function at word 1 of its module, of the name of the one that is not Global
abbrev pub main : PlacedFunction
main = named 1 true (codes "main")

-- modules with one of the two of this name alone
abbrev pub own_at : (base : ℕ) → Placed
own_at base = having base (own ∷ [])

-- a module with the function `main` alone
abbrev pub main_at : (base : ℕ) → Placed
main_at base = having base (main ∷ [])
