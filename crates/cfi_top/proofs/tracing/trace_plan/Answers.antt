use Rattle.std.proofs.Common.{◌≡◌, ◌∷◌, ◌++◌, [], rules}
use Rattle.std.proofs.lemmas.Result.{IfOk-weaker}
use Rattle.cfi_top.proofs.TracingLemmas.{plan_trace}
use Rattle.cfi_top.proofs.tracing.trace_plan.Goals as goal

-- the last file is the schedule
pub returns : goal.returns
returns c =
    let files = c.from_vec-files.result in
    let text = c.as_slice.result.now in
    let split : c.args.others ≡ files ++ text ∷ [] = search rules in
    IfOk-weaker c.trace_of.result _ _
    (plan_trace c.args.plan c.args.schedule c.args.bytes.now c.args.others c.in-Ok.found c.in-Ok.ensures.due files text
    split)
    c.trace_of.ensures
