use Rattle.std.proofs.Common.{List, subst}
use Rattle.std.proofs.lemmas.Result.{IfOk-weaker}
use Rattle.cfi_aux.specs.declared.modules.Module.{Module}
use Rattle.cfi_ledger.specs.Opening.{AreOpened, AreOpeningBooks, IsStartRoster}
use Rattle.cfi_ledger.proofs.OpeningLemmas.{filled_opened}
use Rattle.cfi_ledger.proofs.books.Books.open.Goals as goal

-- the books of the start modules, where each guest has somewhere to begin
pub returns-clause-ok : goal.returns-clause-ok
returns-clause-ok c =
    let plan = c.args.plan.now in
    let r = c.in_ok-roster.roster in
    let now = c.fill_cells.new.self in
    let start = subst (λ (ms : List Module). IsStartRoster plan ms r) c.as_slice.ensures c.in_ok-roster.ensures.ok in
    IfOk-weaker c.first_books.result (AreOpeningBooks plan c.args.modules now) (AreOpened plan c.args.modules)
    (filled_opened plan c.args.modules r now start c.in_ok-fill_cells.ensures.ok) c.first_books.ensures.books
