use Rattle.std.proofs.Common.{◌≡◌, ℕ, List, take, is_some, true}
use Rattle.cfi_place.specs.Names.{find_in, first_in}
use Rattle.cfi_place.specs.Functions.{globals_in}
use Rattle.cfi_place.proofs.functions.globals.Given as goal

abbrev pub invariant-loop-symbol : goal.invariant-loop-symbol
invariant-loop-symbol l = (q : List ℕ) → is_some (find_in l.names q) ≡ true
    → find_in l.globals q ≡ first_in (globals_in (take l.symbol-index l.symbols)) q
