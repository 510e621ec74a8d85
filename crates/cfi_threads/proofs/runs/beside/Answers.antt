use Rattle.std.proofs.Common.{rules, ◌≡◌, [], false, ap, subst, sym, ◌∙◌}
use Rattle.cfi_model.specs.History.{IsStart}
use Rattle.cfi_model.specs.Tables.{IsTables}
use Rattle.cfi_tables.specs.Keeping.{Keeping, opened_keeping}
use Rattle.cfi_threads.specs.Like.{IsLike}
use Rattle.cfi_tables.specs.Views.{admitted, tables_with}
use Rattle.cfi_tables.specs.declared.view.PassView.{PassView}
use Rattle.cfi_runner.specs.Seen.{IsSight, history_seen}
use Rattle.cfi_runner.proofs.OpenedLemmas.{all_sight, all_start}
use Rattle.cfi_threads.proofs.runs.beside.Goals as goal

-- the pass has seen the opening
pub join-made-requires-after_bounds : goal.join-made-requires-after_bounds
join-made-requires-after_bounds g c =
    let k = g.N.TableName.key in
    let tables = subst (λ (s : Keeping). IsTables (tables_with k s.entries)) c.open-tables.ensures
    c.admit.ensures.tables in
    let pass : c.in-Ok.pass ≡ admitted k (opened_keeping k) c.in-Ok.pass.guest =
    c.in-Ok.ensures.ok ∙ ap (λ (s : Keeping). admitted k s c.in-Ok.pass.guest) c.open-tables.ensures in
    let like : IsLike c.args.image c.admit.new.self.entries = search rules in
    let both : (IsLike c.args.image c.admit.new.self.entries)
    × (IsSight k c.in-Ok.pass.sight
    × (IsStart (history_seen k c.in-Ok.pass.sight) 88 × (c.in-Ok.pass.parked ≡ false))) = (
      like,
      (
        subst (λ (q : PassView). IsSight k q.sight) (sym pass) (all_sight k (opened_keeping k) [] tables),
        (
          subst (λ (q : PassView). IsStart (history_seen k q.sight) 88) (sym pass)
              (all_start k (opened_keeping k) [] tables 88 c.requires.start),
          ap (λ (q : PassView). q.parked) pass,
        ),
      ),
    ) in
    λ lifetimes bounds. both
