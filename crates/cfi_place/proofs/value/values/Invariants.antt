use Rattle.std.proofs.Common.{◌≡◌, take}
use Rattle.cfi_place.specs.Names.{find_in}
use Rattle.cfi_place.specs.Value.{values_by}
use Rattle.cfi_place.proofs.value.values.Given as goal

abbrev pub invariant-loop-symbol : goal.invariant-loop-symbol
invariant-loop-symbol l =
    l.values.items ≡ values_by l.room (find_in l.own) (find_in l.names) (take l.symbol-index l.symbols)
