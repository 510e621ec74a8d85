use Rattle.std.proofs.Common.{◌≡◌, take}
use Rattle.cfi_aux.proofs.copies.copied_exports.Given as goal

abbrev pub invariant-loop-export : goal.invariant-loop-export
invariant-loop-export l = l.made.items ≡ take l.export-index l.exports
