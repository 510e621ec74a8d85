use Rattle.std.proofs.Common.{◌≡◌, ◌≤◌, ◌++◌, drop, filter}
use Rattle.std.specs.List.{enumerate_from}
use Rattle.cfi_import.specs.Imports.{names_of}
use Rattle.cfi_import.specs.inner.Found.{is_found, places_from}
use Rattle.cfi_import.proofs.imports.scan.Given as goal

-- what was found and what the symbols that are left give is what all give
abbrev pub invariant-loop-number : goal.invariant-loop-number
invariant-loop-number l =
    (l.place ≤ l.number)
    × (l.names.items ++ names_of (filter (is_found l.marks) (enumerate_from l.number (drop l.number l.symbols)))
    ≡ names_of (filter (is_found l.marks) (enumerate_from 0 l.symbols)))
    × (l.places.items ++ places_from (is_found l.marks) l.place l.number (drop l.number l.symbols)
    ≡ places_from (is_found l.marks) 0 0 l.symbols)
