use Rattle.cfi_replay.specs.Setting.{ComesNowhere}
use Rattle.cfi_judge.proofs.RunLemmas.{if_none, nowhere}
use Rattle.cfi_judge.proofs.runs.outcome_of.Goals as goal

-- a part whose units come nowhere
pub returns-in-None : goal.returns-in-None
returns-in-None c = λ course is same.
    let s = c.args.setting.now in
    let part = c.args.part.now in
    nowhere s part (if_none {P = ComesNowhere s part} c.in_ok-found.found c.in-None.is c.in_ok-found.ensures.none)
    course is
