use Rattle.cfi_ledger.specs.Entries.{EnterBelow}
use Rattle.cfi_ledger.proofs.entries.first_lost.Given as goal

-- the guests so far have an address to begin at
abbrev pub invariant-loop-number : goal.invariant-loop-number
invariant-loop-number l = EnterBelow l.plan l.starts l.number
