use Rattle.std.proofs.Common.{◌≡◌, ℕ, ◌+◌, ◌<◌, length, slice_index, sym, ap, ◌∙◌, refl, arith}
use Rattle.cfi_word.specs.Table.{Tary, tary_word}
use Rattle.cfi_tables.specs.Keeping.{last_of}
use Rattle.cfi_tables.specs.Views.{keeper_of}
use Rattle.cfi_tables.specs.inner.Stamps.{word_by}
use Rattle.cfi_tables.specs.inner.Stores.{keeping_at, stamp_of}
use Rattle.cfi_tables.proofs.StoringLemmas.{next_allowed, next_view}
use Rattle.cfi_tables.proofs.stores.store_tary.Goals as goal

-- the word is that of the last entry
pub store-requires : goal.store-requires
store-requires g c =
    let t = c.args.tables.now in
    let k = g.N.TableName.key in
    let r = c.requires in
    let i = c.loop-index.invariant in
    let u = keeper_of c.loop-index.seat.me.0 in
    let n : ℕ = c.loop-index.index in
    let many : length c.args.classes.now ≡ k.code_words = ap length r.classes ∙ r.fit.tary_length in
    let below : n < k.code_words = omega (arith, many, c.loop-index-test.true) in
    let number = c.tary-number.ensures ∙ ap (λ c. tary_word c n) t.layout_is in
    let entries = (keeping_at c.args.seat.now.me).entries in
    let value = c.word-value.ensures
    ∙ (ap (λ s. word_by s (slice_index c.args.classes.now n)) r.stamp
    ∙ (ap (λ l. word_by (stamp_of k entries) (slice_index l n)) r.classes
    ∙ ap (λ e. word_by (stamp_of k e.entries) (slice_index (last_of e.entries).image.tary n)) (sym i.2))) in (
      i.0.table_is ∙ sym t.name,
      omega (arith, t.many, number, below),
      next_allowed k u (Tary n) below tt (k.code_words + n) refl i.1 _ _ _ _ _ _ t.key i.0.id_is i.0.me_is number
          value (λ index e. absurd (cc)),
    )

pub loop-index-preserved : goal.loop-index-preserved
loop-index-preserved g c =
    let t = c.args.tables.now in
    let k = g.N.TableName.key in
    let r = c.requires in
    let i = c.loop-index.invariant in
    let n : ℕ = c.loop-index.index in
    let many : length c.args.classes.now ≡ k.code_words = ap length r.classes ∙ r.fit.tary_length in
    let below : n < k.code_words = omega (arith, many, c.loop-index-test.true) in
    let number = c.tary-number.ensures ∙ ap (λ c. tary_word c n) t.layout_is in
    let s = c.store.ensures in
    let gone = next_view k (keeper_of c.loop-index.seat.me.0) (Tary n) below tt (k.code_words + n) refl i.1
    (k.code_words + (n + 1)) (omega arith) _ _ _ i.0.me_is number s.2 in (
      record { table_is = s.0 ∙ i.0.table_is; id_is = s.1 ∙ i.0.id_is; me_is = gone.me_is },
      gone.reaches,
      gone.same ∙ i.2,
    )
