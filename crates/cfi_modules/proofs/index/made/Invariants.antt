use Rattle.std.proofs.Common.{◌≡◌, ℕ, List, take}
use Rattle.cfi_modules.specs.inner.Index.{address_in, ArePlacesBelow}
use Rattle.cfi_modules.specs.Order.{names_of}
use Rattle.cfi_modules.proofs.index.made.Given as goal

-- the names of the modules so far are there
abbrev pub invariant-loop-number : goal.invariant-loop-number
invariant-loop-number l =
    ((name : List ℕ) → address_in l.placed l.index name ≡ names_of (take l.number l.placed) name)
    × ArePlacesBelow l.number l.index
