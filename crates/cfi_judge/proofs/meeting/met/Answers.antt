use Rattle.std.proofs.Common.{sym, subst}
use Rattle.cfi_ledger.specs.Roster.{loaded_in_roster}
use Rattle.cfi_judge.specs.inner.Rows.{IsMeeting}
use Rattle.cfi_judge.specs.declared.meeting.Meeting.{Meeting}
use Rattle.cfi_judge.proofs.ItemLemmas.{item_there}
use Rattle.cfi_judge.proofs.MeetingLemmas.{full}
use Rattle.cfi_judge.proofs.RowLemmas.{met_again, met_gone, met_open}
use Rattle.cfi_judge.proofs.meeting.met.Goals as goal

pub returns-in-Again-clause-ok : goal.returns-in-Again-clause-ok
returns-in-Again-clause-ok c = λ live has.
    met_again c.args.roster.now c.args.number c.args.modules.now live has c.requires.known c.in-Again.field-0
    c.in-Again.ensures

pub returns-in-Retired-clause-ok : goal.returns-in-Retired-clause-ok
returns-in-Retired-clause-ok c = λ live has.
    met_gone c.args.roster.now c.args.number c.args.modules.now live has c.requires.known c.in-Retired.field-0
    c.in-Retired.ensures

pub returns-in-Full-clause-ok : goal.returns-in-Full-clause-ok
returns-in-Full-clause-ok c = λ live has.
    full c.args.roster.now has.lined c.args.number c.args.modules.now c.requires.known c.in-Full.ensures

pub returns-in_ok-told-in-Open-clause-ok : goal.returns-in_ok-told-in-Open-clause-ok
returns-in_ok-told-in-Open-clause-ok c = λ live has.
    let r = c.args.roster.now in
    let ms = c.args.modules.now in
    let m = c.index-modules-number.result in
    let there = item_there ms c.args.number m c.requires.known c.index-modules-number.is in
    subst (λ (x : Meeting). IsMeeting r.code_words ms (loaded_in_roster r) live c.args.number x)
    (sym c.meeting_of.ensures)
    (met_open r c.args.number ms live has m there c.in-Open.ensures c.in_ok-told-in-Open.told
    c.in_ok-told-in-Open.ensures.ok)
