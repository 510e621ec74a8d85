use Rattle.std.proofs.Common.{arith}
use Rattle.cfi_ledger.specs.Roster.{loaded_in_roster}
use Rattle.cfi_valid.specs.Joining.{IsUnloaded}
use Rattle.cfi_judge.proofs.MeetingLemmas.{listed_not_unloaded, full_not_unloaded, unloaded}
use Rattle.cfi_judge.proofs.RefutesLemmas.{refuted, yes}
use Rattle.cfi_judge.proofs.meeting.is_unloaded.Goals as goal

pub returns-in-Again : goal.returns-in-Again
returns-in-Again c =
    refuted (IsUnloaded c.args.modules.now (loaded_in_roster c.args.roster.now) c.args.number)
    (listed_not_unloaded c.args.roster.now c.requires c.args.number c.args.modules.now c.in-Again.field-0
    c.in-Again.ensures.0)

pub returns-in-Retired : goal.returns-in-Retired
returns-in-Retired c =
    refuted (IsUnloaded c.args.modules.now (loaded_in_roster c.args.roster.now) c.args.number)
    (listed_not_unloaded c.args.roster.now c.requires c.args.number c.args.modules.now c.in-Retired.field-0
    c.in-Retired.ensures.0)

pub returns-in-Full : goal.returns-in-Full
returns-in-Full c =
    refuted (IsUnloaded c.args.modules.now (loaded_in_roster c.args.roster.now) c.args.number)
    (full_not_unloaded c.args.roster.now c.requires c.args.number c.args.modules.now c.in-Full.ensures)

pub returns-in-Open : goal.returns-in-Open
returns-in-Open c =
    yes (IsUnloaded c.args.modules.now (loaded_in_roster c.args.roster.now) c.args.number)
    (unloaded c.args.roster.now c.requires c.args.number c.args.modules.now (omega (arith, c.if-number-modules.false))
    c.in-Open.ensures)
