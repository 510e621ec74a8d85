use Rattle.std.proofs.Common.{◌≡◌, take}
use Rattle.cfi_ledger.proofs.copies.modules_copy.Given as goal

-- the modules so far
abbrev pub invariant-loop-one : goal.invariant-loop-one
invariant-loop-one l = l.copy.items ≡ take l.one-index l.modules
