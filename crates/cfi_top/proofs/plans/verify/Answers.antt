use Rattle.std.proofs.Common.{subst}
use Rattle.std.proofs.lemmas.Result.{IfOk-weaker}
use Rattle.cfi_top.specs.Refused.{IsModuleRefused}
use Rattle.cfi_top.proofs.PlansLemmas.{among_modules, files_stand, verify_stands}
use Rattle.cfi_top.proofs.plans.verify.Goals as goal

-- the fault is of one of the plan's modules
pub module_refused-requires : goal.module_refused-requires
module_refused-requires c =
    among_modules c.args.bytes.now c.in-Ok.found c.args.files c.as_slice.result.now c.in-Err-verified_text.fault
    c.in-Ok.ensures.due c.requires.named c.as_slice.ensures c.in-Err-verified_text.ensures.fault

-- the first of the modules' files that has a fault is refused by its name
pub returns : goal.returns
returns c =
    let name = c.args.plan in
    let bytes = c.args.bytes.now in
    let files = c.args.files in
    let fault = c.in-Err-verified_text.fault in
    IfOk-weaker c.module_refused.result _ _
    (λ answer said. verify_stands name bytes files answer
    (files_stand name bytes files c.in-Ok.found c.in-Ok.ensures.due fault answer c.in-Err-verified_text.ensures.fault
    (subst (λ modules. IsModuleRefused modules fault answer) c.as_slice.ensures said)))
    c.module_refused.ensures
