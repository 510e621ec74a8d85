use Rattle.std.proofs.Common.{sym, subst, ◌∙◌}
use Rattle.cfi_model.specs.Tables.{IsUpdate}
use Rattle.cfi_tables.specs.Keeping.{Keeping, entry_by, last_of}
use Rattle.cfi_tables.specs.Views.{idle_view}
use Rattle.cfi_tables.specs.inner.Stores.{IsAt}
use Rattle.cfi_tables.proofs.KeeperLemmas.{keeper_grows}
use Rattle.cfi_tables.proofs.keeper.Keeper.update.Goals as goal

pub invariant_of-self-2 : goal.invariant_of-self-2
invariant_of-self-2 g c =
    let k = g.N.TableName.key in
    let a = c.args in
    let entry = entry_by a.policy a.image.now a.mark in
    let follows = subst (λ (s : Keeping). IsUpdate k.code_words (last_of s.entries) entry) (sym c.self.view_is)
    c.requires.follows in
    keeper_grows g.N.TableName.table k _ _ c.self.inside.seat.me _ c.self.invariant c.if-self-eq-MAX_EPOCH.false entry
    follows _ (c.in_default.ensures.later.many ∙ c.self.invariant.quiets_many) c.in_default.ensures.admitted.many _
    c.in_default.ensures.passed.me_is _ _ _
    (subst
    (λ z. IsAt g.N.TableName.table c.store_all.new.seat.table_id c.store_all.new.seat.id c.store_all.new.seat.me
    (idle_view k z)) c.put_code.ensures.same c.store_all.ensures)
