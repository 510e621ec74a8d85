-- Where a name leads among modules, as an address: that of the first global function of the name in the first module that
-- has one. What a name means to the modules that import it is said by `IsImportTarget` alone; this is the same.
use Rattle.std.specs.Prelude.{ℕ, ◌&&◌, List, [], ◌∷◌, Option, Some, None, if◌then◌else◌}
use Rattle.std.specs.Option.{option_or}
use Rattle.std.specs.Str.{bytes_eq}
use Rattle.cfi_aux.specs.declared.placed.Placed.{Placed}
use Rattle.cfi_aux.specs.declared.placed.PlacedFunction.{PlacedFunction}
use Rattle.cfi_graph.specs.Code.{entry_of}
use Rattle.cfi_graph.specs.Facts.{ByName}

-- the first number that one of these gives
abbrev pub first_given : {X : Type 0} → (X → Option ℕ) → List X → Option ℕ
first_given gives [] = None
first_given gives (x ∷ xs) = option_or (gives x) (first_given gives xs)

-- the address of a function of m, where it is global and has the name
abbrev pub entry_by : Placed → (name : List ℕ) → PlacedFunction → Option ℕ
entry_by m name f = if f.global && bytes_eq f.name name then Some (entry_of m f) else None

-- the address of the first such function of m
abbrev pub entry_in : Placed → ByName
entry_in m name = first_given (entry_by m name) m.functions

-- the address of the first such function of the modules
abbrev pub entry_among : List Placed → ByName
entry_among ms name = first_given (λ m. entry_in m name) ms
