use Rattle.std.proofs.Common.{◌≡◌, take}
use Rattle.cfi_aux.specs.Placed.{exports_of}
use Rattle.cfi_aux.proofs.placed.exports.Given as goal

abbrev pub invariant-loop-symbol : goal.invariant-loop-symbol
invariant-loop-symbol l = l.list.items ≡ exports_of l.base l.data_base (take l.symbol-index l.symbols)
