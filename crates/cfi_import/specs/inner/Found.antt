-- How imports are found: marks of the symbols that calls and jumps lead to, then the places of the marked ones.
use Rattle.std.specs.Prelude.{ℕ, ◌+◌, Bool, true, false, ◌&&◌, nat_lt, if◌then◌else◌, List, [], ◌∷◌, length, fold, replicate, set, get_or, Option, Some, None, option_and_then}
use Rattle.std.specs.List.{slice_get}
use Rattle.elf_read.specs.declared.object.Symbol.{Symbol}
use Rattle.elf_read.specs.declared.object.Reloc.{Reloc}
use Rattle.cfi_import.specs.Imports.{leads, is_wanted}

-- the number of the symbol that a relocation of a call or a jump names
abbrev pub led_to : Reloc → Option ℕ
led_to reloc = if leads reloc.kind then reloc.symbol else None

-- marks with one more
abbrev pub mark_at : List Bool → Option ℕ → List Bool
mark_at marks None = marks
mark_at marks (Some number) = if nat_lt number (length marks) then set marks number true else marks

-- the marks with that of the symbol to which a call or jump leads
abbrev pub marked : List Bool → Reloc → List Bool
marked marks reloc = mark_at marks (led_to reloc)

-- the marks of so many symbols
abbrev pub marks_of : (count : ℕ) → List Reloc → List Bool
marks_of count relocs = fold marked (replicate count false) relocs

-- the mark of a number
abbrev pub mark_of : List Bool → (number : ℕ) → Bool
mark_of marks number = get_or marks number false

-- a symbol, with its number, is an import by these marks
abbrev pub is_found : List Bool → ℕ × Symbol → Bool
is_found marks (number, symbol) = is_wanted symbol && mark_of marks number

-- the places of those that pass, where the next one has this place and the next symbol this number
abbrev pub places_from : (passes : ℕ × Symbol → Bool) → (place number : ℕ) → List Symbol → List (Option ℕ)
places_from passes place number [] = []
places_from passes place number (symbol ∷ symbols) =
    if passes (number, symbol) then Some place ∷ places_from passes (place + 1) (number + 1) symbols
    else None ∷ places_from passes place (number + 1) symbols

-- the place of a number
abbrev pub place_in : List (Option ℕ) → (number : ℕ) → Option ℕ
place_in places number = option_and_then (λ place. place) (slice_get places number)
