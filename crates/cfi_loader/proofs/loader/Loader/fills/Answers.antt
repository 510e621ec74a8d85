use Rattle.std.proofs.Common.{List, ◌++◌, ap, sym, ◌∙◌}
use Rattle.cfi_aux.specs.declared.placed.Placed.{Placed}
use Rattle.cfi_ledger.specs.Books.{end_of_books}
use Rattle.cfi_modules.specs.Fills.{fills_of}
use Rattle.cfi_unit.specs.declared.fill.Fill.{Fill}
use Rattle.cfi_valid.specs.Journal.{members_of}
use Rattle.cfi_valid.specs.Loaded.{placed_modules, with_cells, Filled}
use Rattle.cfi_loader.specs.Ledger.{Ledger}
use Rattle.cfi_loader.proofs.LiveLemmas.{places}
use Rattle.cfi_loader.proofs.ReadLemmas.{cells_are}
use Rattle.cfi_loader.proofs.loader.Loader.fills.Goals as goal

-- the data of all, and the cells of all
pub returns : goal.returns
returns g c =
    let a = c.self.inside in
    let kept = c.self.invariant.kept in
    let placed = a.books.force.roster.placed in
    c.fills.ensures
    ∙ ap (λ (fs : List Fill). fills_of placed ++ fs) (cells_are g.N.TableName.key a.books a.keeper kept)
    ∙ ap (λ (ps : List Placed). with_cells Filled a.books.force.policy (members_of (end_of_books a.books)) (fills_of ps))
    (sym (places g.N.TableName.key a.books a.keeper kept))
    ∙ ap (λ (l : Ledger). with_cells Filled l.course.end.policy (members_of l.course.end)
    (fills_of (placed_modules l.course.end.loaded))) c.self.view_is
