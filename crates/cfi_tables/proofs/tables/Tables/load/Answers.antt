use Rattle.std.proofs.Common.{inl, ℕ, sym, ap, subst, ◌∙◌, arith}
use Rattle.cfi_word.specs.Table.{word_number}
use Rattle.cfi_tables.specs.Loads.{IsLoad, place_at}
use Rattle.cfi_tables.specs.Views.{pass_of}
use Rattle.cfi_tables.specs.declared.view.PassView.{PassView}
use Rattle.cfi_tables.specs.inner.Steps.{Seated}
use Rattle.cfi_tables.specs.declared.view.View.TheVariants.{Pass}
use Rattle.cfi_tables.proofs.AddressLemmas.{is_answered}
use Rattle.cfi_tables.proofs.PlaceLemmas.{place_within}
use Rattle.cfi_tables.proofs.PassLemmas.{load_allowed}
use Rattle.cfi_tables.proofs.tables.Tables.load.Goals as goal

-- the word of the address's place may be loaded
pub load-requires : goal.load-requires
load-requires g c =
    let t = c.args.self.now in
    let k = g.N.TableName.key in
    let address : ℕ = c.args.address in
    let there = is_answered k.code_words address (omega (arith, t.size.least)) c.requires.address in
    let word = c.word_at-word.ensures ∙ ap (λ n. word_number n (place_at n address)) t.layout_is in (
      c.pass.invariant.table_is ∙ sym t.name,
      omega (arith, word, t.many, place_within k.code_words (place_at k.code_words address) there.within),
      load_allowed k _ _ _ _ _ t.key c.pass.invariant.me_is (place_at k.code_words address) there.within there.tells
          (inl (ap (λ (p : PassView). p.parked) c.pass.view_is ∙ c.requires.outside)) word,
    )

pub invariant_of-pass : goal.invariant_of-pass
invariant_of-pass g c =
    let t = c.args.self.now in
    let k = g.N.TableName.key in
    let address : ℕ = c.args.address in
    let there = is_answered k.code_words address (omega (arith, t.size.least)) c.requires.address in
    let word = c.word_at-word.ensures ∙ ap (λ n. word_number n (place_at n address)) t.layout_is in
    let load = c.load.ensures.2.load (place_at k.code_words address) there.within there.tells (sym word) in
    let i = c.pass.invariant in
    record {
      table_is = c.load.ensures.0 ∙ i.table_is;
      me_is = c.load.ensures.2.same ∙ ap (λ (z : Seated). (Pass (pass_of c.load.new.seat.me.0), z.1)) i.me_is;
      guest_is = i.guest_is ∙ sym load.guest;
      within = i.within;
    }

pub returns : goal.returns
returns g c =
    let t = c.args.self.now in
    let k = g.N.TableName.key in
    let address : ℕ = c.args.address in
    let there = is_answered k.code_words address (omega (arith, t.size.least)) c.requires.address in
    let word = c.word_at-word.ensures ∙ ap (λ n. word_number n (place_at n address)) t.layout_is in
    let load = c.load.ensures.2.load (place_at k.code_words address) there.within there.tells (sym word) in
    subst (λ p. IsLoad k (place_at k.code_words address) c.load.result p (pass_of c.load.new.seat.me.0))
    c.pass.view_is load
