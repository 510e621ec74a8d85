use Rattle.cfi_ledger.specs.Starts.{opened_state}
use Rattle.cfi_judge.proofs.ReachedLemmas.{HasWalked}
use Rattle.cfi_judge.proofs.journal.follow.Given as goal

-- the lines so far lead to where it stands, with its rows
abbrev pub invariant-loop-number : goal.invariant-loop-number
invariant-loop-number l =
    HasWalked l.plan l.modules (opened_state l.plan l.fn.roster) l.journal l.number l.reached
