-- The names that are looked up.
use Rattle.std.specs.Prelude.{◌≡◌, ◌<◌, ℕ, Bool, true, false, List, length, get_or, is_some}
use Rattle.elf_read.specs.declared.object.Symbol.{Symbol}
use Rattle.elf_read.specs.declared.object.Place.{Place}
use Rattle.elf_read.specs.declared.object.Place.TheVariants as places
use Rattle.cfi_aux.specs.declared.records.Function.{Function}
use Rattle.cfi_place.specs.Names.{Names}

-- a symbol whose name is looked up
abbrev pub is_undefined_place : Place → Bool
is_undefined_place places.Undefined = true
is_undefined_place places.Absolute = false
is_undefined_place places.Text = false
is_undefined_place places.Data = false

-- the symbol is a reference
abbrev pub is_undefined : Symbol → Bool
is_undefined symbol = is_undefined_place symbol.place

-- the name of each function is there
abbrev pub HasNamesOf : List Function → (names : Names) → Type 0
HasNamesOf functions names =
    (k : ℕ) (d : Function) → k < length functions → is_some (names (get_or functions k d).name) ≡ true
