-- Modules and stubs whose numbers have words of four bytes.
use Rattle.std.specs.Prelude.{ℕ, ◌+◌, ◌*◌, ◌<◌, ◌≤◌, ◌^◌, length, Option, Some, None, ⊤}
use Rattle.cfi_word.specs.declared.limits.TheConstants.{MAX_SYMBOLS, MAX_WORDS, MAX_DATA, MAX_NODES}
use Rattle.cfi_aux.specs.declared.modules.Module.{Module}
use Rattle.cfi_import.specs.declared.start.Start.{Start}
use Rattle.cfi_import.specs.declared.start.TheConstants.{STUB_BYTES, CELL_BYTES, STUB_SYMBOLS}

-- a module
pub record IsSmall (m : Module) : Type 0 where
  pub text : length m.object.text ≤ 4 * MAX_WORDS
  pub static_data : length m.object.static_data ≤ MAX_DATA
  pub types : length m.types ≤ MAX_NODES
  pub symbols : length m.object.symbols ≤ MAX_SYMBOLS

-- the stubs of a module, with what stands before them
pub record HasRoom (start : Start) : Type 0 where
  pub text : start.text + STUB_BYTES * start.count ≤ 4 * MAX_WORDS
  pub static_data : start.static_data + CELL_BYTES * start.count ≤ MAX_DATA
  pub types : start.types + 2 ≤ MAX_NODES
  pub symbols : start.symbols + STUB_SYMBOLS * start.count ≤ MAX_SYMBOLS

-- the number of a relocation's symbol
abbrev pub IsSmallNumber : Option ℕ → Type 0
IsSmallNumber None = ⊤
IsSmallNumber (Some k) = k ≤ MAX_SYMBOLS

-- a place of a stub
abbrev pub IsPlace : Start → Option ℕ → Type 0
IsPlace start None = ⊤
IsPlace start (Some place) = place < start.count
