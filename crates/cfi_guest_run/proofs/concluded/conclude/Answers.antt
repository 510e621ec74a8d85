use Rattle.std.proofs.Common.{◌≡◌, List, length, sym, ap, subst, ◌∙◌}
use Rattle.std.proofs.lemmas.List.{length-map}
use Rattle.cfi_aux.specs.declared.modules.Module.{Module}
use Rattle.cfi_plan.specs.declared.plan.Plan.{Plan}
use Rattle.cfi_report.specs.declared.report.GuestPart.{GuestPart}
use Rattle.cfi_report.specs.declared.report.Report.{Report}
use Rattle.cfi_guest_run.specs.Concluded.{IsConcluded, conclusion_of}
use Rattle.cfi_guest_run.specs.Ending.{part_by}
use Rattle.cfi_guest_run.specs.inner.Ending.{ArePartsAt}
use Rattle.cfi_guest_run.proofs.ConcludedLemmas.{concluded}
use Rattle.cfi_guest_run.proofs.concluded.conclude.Goals as goal

-- the report is valid
pub invariant_of-result : goal.invariant_of-result
invariant_of-result g c =
    let k = g.N.TableName.key in
    let plan = g.N.LoaderName.plan in
    let modules = g.N.LoaderName.modules in
    let report = c.report_of-report.result in
    let is = c.report_of-report.ensures.is in
    let taken = c.in_ok-guests.ensures in
    let guests : report.guests ≡ c.in_ok-guests.guests.items = ap (λ (r : Report). r.guests) is in
    let count =
    ap (λ (ps : List GuestPart). length ps) (guests ∙ taken.say)
    ∙ (length-map c.args.runners.items (part_by plan) ∙ c.requires.count) in
    subst (λ (z : Plan × List Module). IsConcluded (conclusion_of z.0 z.1 report))
    (λ i. ((sym c.parts-plan.ensures.plan) i, (sym c.parts-plan.ensures.modules) i))
    (concluded k plan modules c.args.loader c.journal.ensures.law c.requires.made report
    c.report_of-report.ensures.numbers (ap (λ (r : Report). r.epoch) is ∙ c.force-force.ensures.epoch)
    (ap (λ (r : Report). r.policy) is ∙ c.force-force.ensures.policy)
    (ap (λ (r : Report). r.modules) is ∙ (c.in_ok-modules.ensures.same ∙ c.modules.ensures))
    (ap (λ (r : Report). r.journal) is ∙ (c.in_ok-journal.ensures.same ∙ c.journal.ensures.value)) count
    (subst (ArePartsAt k c.args.loader) (sym guests) taken.each))
