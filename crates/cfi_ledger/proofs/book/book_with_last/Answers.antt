use Rattle.std.proofs.Common.{◌∙◌, ◌-◌, List, ◌++◌, ◌∷◌, [], length, take, sym, ap, subst, IfOk, arith}
use Rattle.cfi_aux.specs.declared.placed.Placed.{Placed}
use Rattle.cfi_class.specs.Labels.{AreLabels}
use Rattle.cfi_graph.specs.Direct.{DirectEdge}
use Rattle.cfi_policy.specs.Book.{StandsFor, KeepsNumbers}
use Rattle.cfi_policy.specs.Code.{IsCodeOf}
use Rattle.cfi_policy.proofs.EdgeLemmas.{apart_in}
use Rattle.cfi_modules.specs.Series.{live_in, without_last}
use Rattle.cfi_ledger.specs.Roster.{IsBookOfSeries}
use Rattle.cfi_ledger.proofs.BookLemmas.{if_ok_three, image_there, book_is, some_live, first_live, all_of_live, all_of_modules}
use Rattle.cfi_ledger.proofs.book.book_with_last.Goals as goal

pub slice_bounds-extended-count : goal.slice_bounds-extended-count
slice_bounds-extended-count c =
    let many = ap (λ bs. length bs) (sym c.flags.ensures.value) ∙ c.flags.ensures.many in
    omega (
      arith,
      some_live c.args.series.now many c.requires.live,
      ap (λ (xs : List Placed). length xs) c.live-live.ensures.value,
    )

-- the live ones are those before the last, and that
pub extended-requires-clause-modules : goal.extended-requires-clause-modules
extended-requires-clause-modules c =
    let series = c.args.series.now in
    let live = c.live-live.result.now in
    let m = c.index-modules-last.result in
    let all = all_of_live series c.requires.live live c.modules.result.now c.flags.result.now c.live-live.ensures.value
    c.flags.ensures.value c.flags.ensures.many c.modules.ensures.value m c.index-modules-last.is in
    image_there (take (length live - 1) live ++ m ∷ []) (live_in series) (length c.args.before.now.image.tary)
    series.code_words all c.requires.book.image.labels.words c.live-live.ensures.image

pub extended-requires-clause-stands : goal.extended-requires-clause-stands
extended-requires-clause-stands c =
    let live = c.live-live.result.now in
    let first = first_live c.args.series.now c.requires.live live c.modules.result.now c.flags.result.now
    c.live-live.ensures.value c.flags.ensures.value c.flags.ensures.many c.modules.ensures.value
    c.index-modules-last.result c.index-modules-last.is in
    subst (λ xs. StandsFor xs c.args.before.now) (sym first) c.requires.book.stands

-- and so it is with all modules, of which the book has the code
pub returns-clause-book : goal.returns-clause-book
returns-clause-book c =
    let series = c.args.series.now in
    let image = c.args.before.now.image in
    let rest = (without_last series).placed in
    let m = c.index-modules-last.result in
    let live = c.live-live.result.now in
    let ms = c.modules.result.now in
    let flags = c.flags.result.now in
    let all_live = all_of_live series c.requires.live live ms flags c.live-live.ensures.value c.flags.ensures.value
    c.flags.ensures.many c.modules.ensures.value m c.index-modules-last.is in
    let all = all_of_modules series c.requires.live live ms flags c.live-live.ensures.value c.flags.ensures.value
    c.flags.ensures.many c.modules.ensures.value m c.index-modules-last.is in
    let words = c.requires.book.image.labels.words in
    let there = image_there (rest ++ m ∷ []) series.placed (length image.tary) series.code_words all words
    c.modules.ensures.image in
    let before = subst (λ n. IsCodeOf rest n image.code) (sym words) c.requires.book.image.code in
    if_ok_three c.extended.result (StandsFor (take (length live - 1) live ++ m ∷ []))
    (λ book. AreLabels (DirectEdge (take (length live - 1) live ++ m ∷ [])) (length image.tary) book.image.tary
    book.image.bary)
    (λ book. IsCodeOf (rest ++ m ∷ []) (length image.tary) book.image.code) (IsBookOfSeries series)
    (λ book stands labels code.
    book_is series (take (length live - 1) live ++ m ∷ []) (length image.tary) book all_live words stands labels
    (subst (λ n. IsCodeOf series.placed n book.image.code) words
    (subst (λ xs. IsCodeOf xs (length image.tary) book.image.code) all code)))
    c.extended.ensures.stands c.extended.ensures.labels
    (c.extended.ensures.all rest (apart_in (rest ++ m ∷ []) (length image.tary) there) before)

pub returns-clause-kept : goal.returns-clause-kept
returns-clause-kept c =
    let all = all_of_live c.args.series.now c.requires.live c.live-live.result.now c.modules.result.now
    c.flags.result.now c.live-live.ensures.value c.flags.ensures.value c.flags.ensures.many c.modules.ensures.value
    c.index-modules-last.result c.index-modules-last.is in
    subst (λ xs. IfOk c.extended.result (λ book. KeepsNumbers xs c.args.before.now.image book.image)) all
    c.extended.ensures.kept
