use Rattle.std.proofs.Common.{◌++◌, List, ap, sym, ◌∙◌}
use Rattle.cfi_plan.specs.declared.plan.Plan.{Plan}
use Rattle.cfi_valid.specs.Script.{Call, script_calls, made_by_script}
use Rattle.cfi_loader.specs.Ledger.{Ledger}
use Rattle.cfi_ledger.proofs.CallLemmas.{none_due}
use Rattle.cfi_loader.proofs.loader.Loader.due.Goals as goal

pub returns-clause-none : goal.returns-clause-none
returns-clause-none g c =
    let b = c.self.inside.books in
    let journal = ap (λ (l : Ledger). made_by_script l.course.journal) c.self.view_is in
    none_due c.due.result (made_by_script c.args.self.now.course.journal) b.force.journal.left
    (script_calls g.N.LoaderName.plan.script) c.due.ensures
    (ap (λ (calls : List Call). calls ++ b.force.journal.left) (sym journal) ∙ c.self.invariant.kept.ledger.script
    ∙ ap (λ (p : Plan). script_calls p.script) c.self.invariant.plan_is)
