use Rattle.std.proofs.Common.{◌+◌, sym, ◌∙◌, refl, arith}
use Rattle.cfi_word.specs.Table.{Code}
use Rattle.cfi_tables.specs.Views.{keeper_of}
use Rattle.cfi_tables.proofs.CodeLemmas.{look_allowed}
use Rattle.cfi_tables.proofs.StoringLemmas.{next_allowed, next_view}
use Rattle.cfi_tables.proofs.code.put_word.Goals as goal

pub load-found-requires : goal.load-found-requires
load-found-requires g c =
    let t = c.args.tables.now in
    let r = c.requires in
    let number = c.code-number.ensures in (
      r.seat.table_is ∙ sym t.name,
      omega (arith, t.many, number, r.index),
      look_allowed g.N.TableName.key _ _ _ _ _ (keeper_of c.args.seat.now.me.0) t.key r.seat.id_is r.seat.me_is
          (Code c.args.index) r.index tt number,
    )

pub store-requires : goal.store-requires
store-requires g c =
    let t = c.args.tables.now in
    let k = g.N.TableName.key in
    let r = c.requires in
    let l = c.load-found.ensures in
    let number = c.code-number.ensures in (
      l.0 ∙ (r.seat.table_is ∙ sym t.name),
      omega (arith, t.many, number, r.index),
      next_allowed k (keeper_of c.args.seat.now.me.0) (Code c.args.index) r.index tt c.args.index refl r.reaches _ _ _ _
          _ _ t.key (l.1 ∙ r.seat.id_is) (l.2.same ∙ r.seat.me_is) number (c.from-value.ensures ∙ r.word)
          (λ index e. omega (arith, c.from-value.ensures, c.ranges.word.fits)),
    )

pub returns-clause-reaches : goal.returns-clause-reaches
returns-clause-reaches g c =
    let k = g.N.TableName.key in
    let r = c.requires in
    let l = c.load-found.ensures in
    (next_view k (keeper_of c.args.seat.now.me.0) (Code c.args.index) r.index tt c.args.index refl r.reaches
    (c.args.index + 1) refl _ _ _ (l.2.same ∙ r.seat.me_is) c.code-number.ensures c.store.ensures.2).reaches
