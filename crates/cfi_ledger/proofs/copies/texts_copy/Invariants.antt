use Rattle.std.proofs.Common.{◌≡◌, take}
use Rattle.cfi_ledger.proofs.copies.texts_copy.Given as goal

-- the texts so far
abbrev pub invariant-loop-text : goal.invariant-loop-text
invariant-loop-text l = l.copy.items ≡ take l.text-index l.texts
