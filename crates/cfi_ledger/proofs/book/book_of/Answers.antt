use Rattle.std.proofs.Common.{◌≡◌, ◌∙◌, sym, subst}
use Rattle.cfi_class.specs.Labels.{AreLabels}
use Rattle.cfi_graph.specs.Direct.{DirectEdge}
use Rattle.cfi_policy.specs.Book.{StandsFor}
use Rattle.cfi_policy.specs.Code.{IsCodeOf}
use Rattle.cfi_policy.specs.Image.{HaveImage}
use Rattle.cfi_policy.proofs.EdgeLemmas.{apart_in}
use Rattle.cfi_ledger.specs.Roster.{IsBookOfSeries}
use Rattle.cfi_ledger.proofs.BookLemmas.{if_ok_three, book_is}
use Rattle.cfi_modules.proofs.LiveLemmas.{all_live_in}
use Rattle.cfi_ledger.proofs.book.book_of.Goals as goal

pub code_of-requires : goal.code_of-requires
code_of-requires c =
    let ms = c.modules-modules.result.now in
    let series = c.args.series.now in
    apart_in ms c.layout-layout.result
    (subst (HaveImage ms) (sym c.layout-layout.ensures)
    (subst (λ xs. HaveImage xs series.code_words) (sym c.modules-modules.ensures.value)
    c.modules-modules.ensures.image))

-- the book of all, which are live
pub returns : goal.returns
returns c =
    let series = c.args.series.now in
    let ms = c.modules-modules.result.now in
    let words = c.layout-layout.result in
    let value = c.modules-modules.ensures.value in
    let made = c.of.ensures in
    let code = subst (IsCodeOf series.placed series.code_words) (sym c.as_slice.ensures)
    (subst (λ n. IsCodeOf series.placed n c.in_ok-code.code) c.layout-layout.ensures
    (subst (λ xs. IsCodeOf xs words c.in_ok-code.code) value c.in_ok-code.ensures)) in
    if_ok_three c.of.result (StandsFor ms)
    (λ book. AreLabels (DirectEdge ms) words book.image.tary book.image.bary)
    (λ book. book.image.code ≡ c.as_slice.result.now) (IsBookOfSeries series)
    (λ book stands labels same.
    book_is series ms words book (value ∙ sym (all_live_in series c.requires)) c.layout-layout.ensures stands labels
    (subst (IsCodeOf series.placed series.code_words) (sym same) code)) made.stands made.labels made.code
