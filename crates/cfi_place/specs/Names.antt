-- Addresses by name. A function serves as the finite map.
use Rattle.std.specs.Prelude.{ℕ, ◌&&◌, not, List, Option, Some, is_some, if◌then◌else◌}
use Rattle.std.specs.BTreeMap.{get_by_text}
use Rattle.std.specs.Map.{lookup}
use Rattle.std.specs.Str.{bytes_eq}
use Rattle.cfi_place.specs.declared.symbols.Symbols.{Symbols}

-- an address for each name that has one
abbrev pub Names : Type 0
Names = List ℕ → Option ℕ

-- the first number of a name in a list of names with numbers
abbrev pub first_in : List (List ℕ × ℕ) → Names
first_in pairs name = lookup (λ other. bytes_eq name other) pairs

-- the address that symbols have for a name
unfoldable pub find_in : Symbols → Names
find_in symbols name = get_by_text symbols.addresses name

-- with one name more, which keeps its address where it is there
abbrev pub with_name : (name : List ℕ) (address : ℕ) → Names → Names
with_name name address names other =
    if bytes_eq name other && not (is_some (names name)) then Some address else names other
