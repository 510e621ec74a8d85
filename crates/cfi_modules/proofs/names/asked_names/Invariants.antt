use Rattle.std.proofs.Common.{◌≡◌, ℕ, List, take}
use Rattle.cfi_place.specs.Names.{find_in}
use Rattle.cfi_modules.specs.inner.Index.{address_in, asked_in}
use Rattle.cfi_modules.proofs.names.asked_names.Given as goal

-- the names that the symbols so far ask for are there
abbrev pub invariant-loop-symbol : goal.invariant-loop-symbol
invariant-loop-symbol l = (name : List ℕ)
    → find_in l.names name ≡ asked_in (address_in l.placed l.index) (take l.symbol-index l.symbols) name
