use Rattle.std.proofs.lemmas.Result.{IfOk-weaker}
use Rattle.cfi_top.proofs.RunLemmas.{plan_run}
use Rattle.cfi_top.proofs.running.run_file.Goals as goal

-- what the plan comes to
pub returns : goal.returns
returns g c =
    IfOk-weaker c.run_found.result _ _
    (plan_run c.args.input c.args.bytes.now c.args.files c.requires.begins c.in-Ok.found c.in-Ok.ensures.due
    c.in-Ok.ensures.sound)
    c.run_found.ensures
