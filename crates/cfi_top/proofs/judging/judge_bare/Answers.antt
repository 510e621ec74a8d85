use Rattle.std.proofs.Common.{◌≡◌, [], ◌∷◌, List, subst, rules}
use Rattle.std.proofs.lemmas.Result.{IfOk-weaker}
use Rattle.cfi_aux.specs.declared.modules.Module.{Module}
use Rattle.cfi_plan.specs.Bare.{bare_plan}
use Rattle.cfi_plan.specs.declared.plan.Plan.{Plan}
use Rattle.cfi_top.specs.inner.Judging.{IsTextJudged}
use Rattle.cfi_top.proofs.JudgingLemmas.{bare_judged}
use Rattle.cfi_top.proofs.judging.judge_bare.Goals as goal

-- its plan has one module, and the report is the one file behind it
pub returns : goal.returns
returns c =
    let report = c.args.report in
    let made = c.in-Ok.made in
    let modules = c.as_slice.result.now in
    let text = c.only.result.now in
    let same : modules ≡ made ∷ [] = search rules in
    let one : c.args.others ≡ text ∷ [] = search rules in
    IfOk-weaker c.judge_text.result _ _
    (λ answer said. bare_judged c.args.input report c.args.bytes.now c.args.others c.requires.begins made
    c.in-Ok.ensures.ok text one answer
    (subst (λ (ms : List Module). IsTextJudged report bare_plan ms text answer) same
    (subst (λ (p : Plan). IsTextJudged report p modules text answer) c.in_ok-plan.ensures said)))
    c.judge_text.ensures
