use Rattle.std.proofs.Common.{◌≡◌, ◌∷◌, ◌++◌, [], rules}
use Rattle.std.proofs.lemmas.Result.{IfOk-weaker}
use Rattle.cfi_top.proofs.JudgingLemmas.{plan_judged}
use Rattle.cfi_top.proofs.judging.judge_plan.Goals as goal

-- the last file is the report
pub returns : goal.returns
returns c =
    let files = c.from_vec.result in
    let text = c.as_slice.result.now in
    let split : c.args.others ≡ files ++ text ∷ [] = search rules in
    IfOk-weaker c.judge_found.result _ _
    (plan_judged c.args.input c.args.report c.args.bytes.now c.args.others c.requires.begins c.in-Ok.found
    c.in-Ok.ensures.due files text split)
    c.judge_found.ensures
