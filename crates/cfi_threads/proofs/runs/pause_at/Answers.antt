use Rattle.std.proofs.Common.{◌≡◌, [], ap, subst, sym, ◌∙◌}
use Rattle.cfi_model.specs.History.{IsStart}
use Rattle.cfi_model.specs.Tables.{IsTables}
use Rattle.cfi_tables.specs.Keeping.{Keeping, opened_keeping}
use Rattle.cfi_tables.specs.Views.{admitted, tables_with}
use Rattle.cfi_tables.specs.declared.view.PassView.{PassView}
use Rattle.cfi_runner.specs.Seen.{history_seen}
use Rattle.cfi_runner.proofs.OpenedLemmas.{all_start}
use Rattle.cfi_threads.proofs.runs.pause_at.Goals as goal

-- the entry is a start of the opening, which the pass has seen
pub drive-requires-clause-start : goal.drive-requires-clause-start
drive-requires-clause-start g c =
    let k = g.N.TableName.key in
    let entry = c.args.entry in
    let tables = subst (λ (s : Keeping). IsTables (tables_with k s.entries)) c.open-tables.ensures
    c.admit.ensures.tables in
    let pass : c.in-Ok.pass ≡ admitted k (opened_keeping k) c.in-Ok.pass.guest =
    c.in-Ok.ensures.ok ∙ ap (λ (s : Keeping). admitted k s c.in-Ok.pass.guest) c.open-tables.ensures in
    subst (λ (q : PassView). IsStart (history_seen k q.sight) entry) (sym pass)
    (all_start k (opened_keeping k) [] tables entry c.requires.start)
