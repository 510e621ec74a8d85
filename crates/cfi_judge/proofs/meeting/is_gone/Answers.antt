use Rattle.cfi_ledger.specs.Roster.{loaded_in_roster}
use Rattle.cfi_valid.specs.Retiring.{HasGone}
use Rattle.cfi_judge.proofs.MeetingLemmas.{is_absent}
use Rattle.cfi_judge.proofs.RefutesLemmas.{refuted, yes}
use Rattle.cfi_judge.proofs.meeting.is_gone.Goals as goal

pub returns-in-Again : goal.returns-in-Again
returns-in-Again c = λ live has.
    refuted (HasGone (loaded_in_roster c.args.roster.now) live c.args.number)
    (λ gone. gone.gone (has.stays c.args.number c.in-Again.field-0 c.in-Again.ensures.0 c.in-Again.ensures.1))

pub returns-in-Retired : goal.returns-in-Retired
returns-in-Retired c = λ live has.
    yes (HasGone (loaded_in_roster c.args.roster.now) live c.args.number)
    (has.gone c.args.number c.in-Retired.field-0 c.in-Retired.ensures.0 c.in-Retired.ensures.1)

pub returns-in-Full : goal.returns-in-Full
returns-in-Full c = λ live has.
    refuted (HasGone (loaded_in_roster c.args.roster.now) live c.args.number)
    (λ gone. is_absent c.args.roster.now has.lined c.args.number c.in-Full.ensures.0 gone.has)

pub returns-in-Open : goal.returns-in-Open
returns-in-Open c = λ live has.
    refuted (HasGone (loaded_in_roster c.args.roster.now) live c.args.number)
    (λ gone. is_absent c.args.roster.now has.lined c.args.number c.in-Open.ensures.0 gone.has)
