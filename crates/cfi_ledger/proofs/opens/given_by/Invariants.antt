use Rattle.std.proofs.Common.{◌≡◌, take}
use Rattle.cfi_valid.specs.Replay.{given_by}
use Rattle.cfi_ledger.proofs.opens.given_by.Given as goal

-- the policy of the last open so far
abbrev pub invariant-loop-entry : goal.invariant-loop-entry
invariant-loop-entry l = l.given ≡ given_by (take l.entry-index l.log)
