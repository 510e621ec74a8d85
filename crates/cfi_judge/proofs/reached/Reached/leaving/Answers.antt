use Rattle.cfi_judge.proofs.LeavingLemmas.{leaving_there}
use Rattle.cfi_judge.proofs.LiveLemmas.{has_live}
use Rattle.cfi_judge.proofs.MeetingLemmas.{is_absent}
use Rattle.cfi_judge.proofs.reached.Reached.leaving.Goals as goal

pub returns-in-Again : goal.returns-in-Again
returns-in-Again c = λ plan modules is.
    leaving_there plan modules c.args.self.now is c.args.number c.in-Again.at c.in-Again.ensures.0 c.in-Again.ensures.1
    c.leaving_at.result c.leaving_at.ensures

pub returns-in-Retired : goal.returns-in-Retired
returns-in-Retired c = λ plan modules is.
    let has = has_live plan c.args.self.now is.kept is.policies in
    (has.gone c.args.number c.in-Retired.field-0 c.in-Retired.ensures.0 c.in-Retired.ensures.1).gone

pub returns-in-Full : goal.returns-in-Full
returns-in-Full c = λ plan modules is.
    let has = has_live plan c.args.self.now is.kept is.policies in
    λ live. is_absent c.args.self.now.roster has.lined c.args.number c.in-Full.ensures.0 (has.among c.args.number live)

pub returns-in-Open : goal.returns-in-Open
returns-in-Open c = λ plan modules is.
    let has = has_live plan c.args.self.now is.kept is.policies in
    λ live. is_absent c.args.self.now.roster has.lined c.args.number c.in-Open.ensures.0 (has.among c.args.number live)
