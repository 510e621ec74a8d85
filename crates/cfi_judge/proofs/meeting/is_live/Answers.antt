use Rattle.cfi_valid.specs.Loaded.{IsLoaded}
use Rattle.cfi_judge.proofs.MeetingLemmas.{is_absent}
use Rattle.cfi_judge.proofs.RefutesLemmas.{refuted, yes}
use Rattle.cfi_judge.proofs.meeting.is_live.Goals as goal

pub returns-in-Again : goal.returns-in-Again
returns-in-Again c = λ live has.
    yes (IsLoaded live c.args.number)
    (has.stays c.args.number c.in-Again.field-0 c.in-Again.ensures.0 c.in-Again.ensures.1)

pub returns-in-Retired : goal.returns-in-Retired
returns-in-Retired c = λ live has.
    refuted (IsLoaded live c.args.number)
    (has.gone c.args.number c.in-Retired.field-0 c.in-Retired.ensures.0 c.in-Retired.ensures.1).gone

pub returns-in-Full : goal.returns-in-Full
returns-in-Full c = λ live has.
    refuted (IsLoaded live c.args.number)
    (λ there. is_absent c.args.roster.now has.lined c.args.number c.in-Full.ensures.0 (has.among c.args.number there))

pub returns-in-Open : goal.returns-in-Open
returns-in-Open c = λ live has.
    refuted (IsLoaded live c.args.number)
    (λ there. is_absent c.args.roster.now has.lined c.args.number c.in-Open.ensures.0 (has.among c.args.number there))
