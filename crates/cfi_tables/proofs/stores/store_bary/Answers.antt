use Rattle.std.proofs.Common.{◌≡◌, ℕ, ◌+◌, ◌*◌, ◌<◌, length, slice_index, sym, ap, ◌∙◌, refl, arith}
use Rattle.cfi_word.specs.Table.{Bary, bary_word, slots_of}
use Rattle.cfi_tables.specs.Keeping.{last_of}
use Rattle.cfi_tables.specs.Views.{keeper_of}
use Rattle.cfi_tables.specs.inner.Stamps.{word_by}
use Rattle.cfi_tables.specs.inner.Stores.{keeping_at, stamp_of}
use Rattle.cfi_tables.proofs.StoringLemmas.{next_allowed, next_view}
use Rattle.cfi_tables.proofs.stores.store_bary.Goals as goal

-- the word is that of the last entry
pub store-requires : goal.store-requires
store-requires g c =
    let t = c.args.tables.now in
    let k = g.N.TableName.key in
    let r = c.requires in
    let i = c.loop-slot.invariant in
    let u = keeper_of c.loop-slot.seat.me.0 in
    let n : ℕ = c.loop-slot.slot in
    let many : length c.args.classes.now ≡ slots_of k.code_words = ap length r.classes ∙ r.fit.bary_length in
    let below : n < slots_of k.code_words = omega (arith, many, c.loop-slot-test.true) in
    let number = c.bary-number.ensures ∙ ap (λ c. bary_word c n) t.layout_is in
    let entries = (keeping_at c.args.seat.now.me).entries in
    let value = c.word-value.ensures
    ∙ (ap (λ s. word_by s (slice_index c.args.classes.now n)) r.stamp
    ∙ (ap (λ l. word_by (stamp_of k entries) (slice_index l n)) r.classes
    ∙ ap (λ e. word_by (stamp_of k e.entries) (slice_index (last_of e.entries).image.bary n)) (sym i.3))) in (
      i.0.table_is ∙ sym t.name,
      omega (arith, t.many, number, below),
      next_allowed k u (Bary n) below tt (2 * k.code_words + 1 + n) refl i.1 _ _ _ _ _ _ t.key i.0.id_is i.0.me_is
          number value (λ index e. absurd (cc)),
    )

pub loop-slot-preserved : goal.loop-slot-preserved
loop-slot-preserved g c =
    let t = c.args.tables.now in
    let k = g.N.TableName.key in
    let r = c.requires in
    let i = c.loop-slot.invariant in
    let n : ℕ = c.loop-slot.slot in
    let many : length c.args.classes.now ≡ slots_of k.code_words = ap length r.classes ∙ r.fit.bary_length in
    let below : n < slots_of k.code_words = omega (arith, many, c.loop-slot-test.true) in
    let number = c.bary-number.ensures ∙ ap (λ c. bary_word c n) t.layout_is in
    let s = c.store.ensures in
    let gone = next_view k (keeper_of c.loop-slot.seat.me.0) (Bary n) below tt (2 * k.code_words + 1 + n) refl i.1
    (2 * k.code_words + 1 + (n + 1)) (omega arith) _ _ _ i.0.me_is number s.2 in (
      record { table_is = s.0 ∙ i.0.table_is; id_is = s.1 ∙ i.0.id_is; me_is = gone.me_is },
      gone.reaches,
      gone.stored,
      gone.same ∙ i.3,
    )
