use Rattle.std.proofs.Common.{rules, ◌≡◌, ◌<◌, ◌^◌, ◌∙◌, ℕ, slice_index, sym, ap, subst}
use Rattle.cfi_word.specs.Table.{IsSize}
use Rattle.cfi_word.specs.declared.lists.Image.{Image}
use Rattle.cfi_tables.specs.Key.{key_by}
use Rattle.cfi_tables.specs.inner.Opening.{opened_words}
use Rattle.cfi_model.specs.Tables.{IsTables}
use Rattle.cfi_tables.specs.Keeping.{opened_keeping}
use Rattle.cfi_tables.specs.Views.{idle_tables}
use Rattle.cfi_model.proofs.TableLemmas.{opened_are}
use Rattle.cfi_tables.proofs.OpeningLemmas.{opening_kept}
use Rattle.cfi_tables.proofs.blank.Blank.new.Goals as goal

-- the tables of the image are tables, which the words of the opening show
pub of_words-requires : goal.of_words-requires
of_words-requires c =
    let a = c.args in
    let same : c.of.result.value ≡ a.image.now = c.of.ensures in
    let size : IsSize a.layout = search rules in
    let is = opened_are a.layout a.versions a.first a.image.now size c.requires.least c.requires.most c.requires.first
    c.requires.closed in
    let key = λ (image : Image). key_by a.layout a.versions a.first image in
    let tables = subst (λ image. IsTables (idle_tables (key image) (opened_keeping (key image)))) (sym same) is in
    let small = subst (λ (image : Image). (index : ℕ) → slice_index image.code index < 2 ^ 32) (sym same)
    c.in_ok-words.ensures.small in
    let words = c.as_slice.ensures.value ∙ (c.in_ok-words.ensures.words
    ∙ (ap (λ s. opened_words s a.image.now) c.new-stamp.ensures
    ∙ ap (λ i. opened_words (record { epoch = a.first; policy = 0; versions = a.versions }) i) (sym same))) in
    opening_kept (key c.of.result.value) tables small c.as_slice.result.now words
