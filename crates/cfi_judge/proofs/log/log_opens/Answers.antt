use Rattle.cfi_ledger.specs.Roster.{members_in_roster}
use Rattle.cfi_judge.specs.inner.Log.{HasOpens}
use Rattle.cfi_judge.proofs.LogLemmas.{opens_all}
use Rattle.cfi_judge.proofs.RefutesLemmas.{yes}
use Rattle.cfi_judge.proofs.log.log_opens.Goals as goal

pub returns : goal.returns
returns c =
    yes (HasOpens (members_in_roster c.args.roster.now) c.args.log.now)
    (opens_all (members_in_roster c.args.roster.now) c.args.log.now c.loop-entry.entry-index c.loop-entry-test.false
    c.loop-entry.invariant)
