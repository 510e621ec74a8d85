use Rattle.std.proofs.Common.{◌≡◌, ◌∙◌, length, sym, ap}
use Rattle.cfi_plan.specs.declared.plan.Plan.{Plan}
use Rattle.cfi_gen.proofs.FilesLemmas.{files_count}
use Rattle.cfi_gen.proofs.generated.generate.Goals as goal

-- as many files as modules of the plan
pub returns-clause-count : goal.returns-clause-count
returns-clause-count c =
    let count = c.args.count in
    files_count c.args.seed count c.in_ok-drawn.drawn.items c.as_slice.result.now c.in_ok-files.files
    c.in_ok-drawn.ensures c.as_slice.ensures.value c.in_ok-files.ensures.ok
    ∙ sym (c.plans_are_read.ensures.count count c.requires.some c.requires.few)
    ∙ sym (ap (λ (p : Plan). length p.modules) c.in_ok-plan.ensures.is)
