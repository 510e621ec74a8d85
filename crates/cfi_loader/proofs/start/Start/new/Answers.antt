use Rattle.std.proofs.Common.{◌≡◌, ℕ, ap, sym, subst, ◌∙◌}
use Rattle.cfi_ledger.specs.declared.books.Books.{Books}
use Rattle.cfi_model.specs.Closed.{IsClosed}
use Rattle.cfi_tables.specs.Key.{key_by}
use Rattle.cfi_word.specs.declared.lists.Image.{Image}
use Rattle.std.proofs.lemmas.Result.{err_from_is_err_and}
use Rattle.cfi_loader.proofs.OpeningLemmas.{first_kept, first_started, first_closed, no_memory}
use Rattle.cfi_loader.proofs.start.Start.new.Goals as goal

-- the layout is the plan's
pub new-requires-clause-closed : goal.new-requires-clause-closed
new-requires-clause-closed c =
    let plan = c.args.plan.now in
    let b = c.in_ok-books.books in
    let opened = c.in_ok-books.ensures.ok in
    subst (λ (i : Image). IsClosed b.layout i) (sym c.image.ensures)
    (subst (λ (n : ℕ). IsClosed n b.book.image) (sym (ap (λ (x : Books). x.layout) opened.books.is))
    (first_closed plan c.args.modules c.requires opened.roster opened.started b opened.books))

pub invariant_of-result : goal.invariant_of-result
invariant_of-result c =
    let plan = c.args.plan.now in
    let b = c.in_ok-books.books in
    let opened = c.in_ok-books.ensures.ok in
    let layout : b.layout ≡ plan.code_words = ap (λ (x : Books). x.layout) opened.books.is in
    let key = c.in_ok-blank.ensures
    ∙ ap (λ (i : Image). key_by b.layout plan.versions plan.first i) c.image.ensures
    ∙ ap (λ (n : ℕ). key_by n plan.versions plan.first b.book.image) layout in
    record {
      kept = first_kept plan c.args.modules c.requires opened.roster opened.started b opened.books
          c.in_ok-blank.blank.key key opened.enter opened.filled;
      untold = opened.books.lines_are;
    }

pub returns-clause-ok : goal.returns-clause-ok
returns-clause-ok c =
    let opened = c.in_ok-books.ensures.ok in
    first_started c.args.plan.now c.args.modules c.requires opened.roster opened.started c.in_ok-books.books
    opened.books c.in_ok-blank.blank c.in_ok-pad.pad

-- there is no memory
pub returns-in_err-blank-clause-fault : goal.returns-in_err-blank-clause-fault
returns-in_err-blank-clause-fault c = no_memory c.args.plan.now c.args.modules c.from_residual-in_err-blank.result
    (err_from_is_err_and c.from_residual-in_err-blank.result c.from_residual-in_err-blank.ensures.1)

pub returns-in_err-pad-clause-fault : goal.returns-in_err-pad-clause-fault
returns-in_err-pad-clause-fault c = no_memory c.args.plan.now c.args.modules c.from_residual-in_err-pad.result
    (err_from_is_err_and c.from_residual-in_err-pad.result c.from_residual-in_err-pad.ensures.1)
