use Rattle.cfi_ledger.specs.declared.finding.Outcome.TheVariants.{Joins}
use Rattle.cfi_ledger.proofs.FindingLemmas.{noted_now}
use Rattle.cfi_ledger.proofs.books.Books.keep_joining.Goals as goal

pub returns-clause-found : goal.returns-clause-found
returns-clause-found c =
    let joins = c.requires.joins in
    noted_now c.args.self.now c.args.number Joins c.requires.found c.note.new.self.found.items c.note.ensures.found
    joins.unplaced joins.is (joins.placed, joins.joins)
