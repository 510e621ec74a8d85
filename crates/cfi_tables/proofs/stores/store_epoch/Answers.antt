use Rattle.std.proofs.Common.{◌+◌, ◌*◌, sym, ap, ◌∙◌, refl, arith}
use Rattle.cfi_word.specs.Table.{Epoch}
use Rattle.cfi_tables.specs.Views.{keeper_of}
use Rattle.cfi_tables.specs.inner.Stamps.{word_by}
use Rattle.cfi_tables.proofs.StoringLemmas.{next_allowed, next_view}
use Rattle.cfi_tables.proofs.stores.store_epoch.Goals as goal

pub store-requires : goal.store-requires
store-requires g c =
    let t = c.args.tables.now in
    let k = g.N.TableName.key in
    let r = c.requires in (
      r.seat.table_is ∙ sym t.name,
      omega (arith, t.many),
      next_allowed k (keeper_of c.args.seat.now.me.0) Epoch tt tt (2 * k.code_words) refl r.reaches _ _ _ _ _ _ t.key
          r.seat.id_is r.seat.me_is refl (c.word-value.ensures ∙ ap (λ s. word_by s 0) r.stamp)
          (λ index e. absurd (cc)),
    )

pub returns-clause-reaches : goal.returns-clause-reaches
returns-clause-reaches g c =
    let k = g.N.TableName.key in
    let r = c.requires in
    (next_view k (keeper_of c.args.seat.now.me.0) Epoch tt tt (2 * k.code_words) refl r.reaches (2 * k.code_words + 1)
    refl 0 _ _ r.seat.me_is refl c.store.ensures.2).reaches

pub returns-clause-stored : goal.returns-clause-stored
returns-clause-stored g c =
    let k = g.N.TableName.key in
    let r = c.requires in
    (next_view k (keeper_of c.args.seat.now.me.0) Epoch tt tt (2 * k.code_words) refl r.reaches (2 * k.code_words + 1)
    refl 0 _ _ r.seat.me_is refl c.store.ensures.2).stored
