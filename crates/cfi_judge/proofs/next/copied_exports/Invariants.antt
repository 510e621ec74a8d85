use Rattle.std.proofs.Common.{◌≡◌, take}
use Rattle.cfi_judge.proofs.next.copied_exports.Given as goal

-- those so far
abbrev pub invariant-loop-export : goal.invariant-loop-export
invariant-loop-export l = l.made.items ≡ take l.export-index l.exports
