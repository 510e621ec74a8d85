use Rattle.cfi_ledger.specs.Roster.{members_in_roster}
use Rattle.cfi_judge.proofs.LogLemmas.{OpensBelow}
use Rattle.cfi_judge.proofs.log.log_opens.Given as goal

-- the entries so far say what is so
abbrev pub invariant-loop-entry : goal.invariant-loop-entry
invariant-loop-entry l = OpensBelow (members_in_roster l.roster) l.log l.entry-index
