use Rattle.std.proofs.Common.{◌≡◌, ◌+◌, ◌++◌, ℕ, List, take}
use Rattle.cfi_place.specs.Names.{first_in}
use Rattle.cfi_modules.specs.inner.Index.{address_in, ArePlacesBelow}
use Rattle.cfi_modules.proofs.index.Index.add_module.Given as goal

-- the names of the exports so far are there, and no place is past the module
abbrev pub invariant-loop-export : goal.invariant-loop-export
invariant-loop-export l =
    ((before : List (List ℕ × ℕ)) → ((name : List ℕ) → address_in l.placed l.initial.self name ≡ first_in before name)
    → (name : List ℕ) → address_in l.placed l.self name ≡ first_in (before ++ take l.export l.exports) name)
    × (ArePlacesBelow (l.number + 1) l.initial.self → ArePlacesBelow (l.number + 1) l.self)
