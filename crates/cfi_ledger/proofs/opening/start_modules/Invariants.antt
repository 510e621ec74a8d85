use Rattle.cfi_ledger.specs.Starts.{AreStarted}
use Rattle.cfi_ledger.proofs.opening.start_modules.Given as goal

-- the modules so far are started
abbrev pub invariant-loop-number : goal.invariant-loop-number
invariant-loop-number l = AreStarted l.plan l.modules l.number l.roster
