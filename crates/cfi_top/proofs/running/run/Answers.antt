use Rattle.std.proofs.Common.{◌≡◌, false, rules}
use Rattle.std.proofs.lemmas.Result.{IfOk-weaker}
use Rattle.cfi_request.specs.Plans.{begins_as_plan}
use Rattle.cfi_top.proofs.RunLemmas.{bare_run}
use Rattle.cfi_top.proofs.running.run.Goals as goal

-- what a bare file comes to
pub returns : goal.returns
returns g c =
    let bytes = c.args.bytes.now in
    let begins : begins_as_plan bytes ≡ false = search rules in
    IfOk-weaker c.run_bare.result _ _ (bare_run c.args.input bytes c.args.files begins) c.run_bare.ensures
