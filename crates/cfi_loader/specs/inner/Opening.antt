-- What is there before the tables have a name.
use Rattle.std.specs.Prelude.{◌≡◌, []}
use Rattle.cfi_tables.specs.Keeping.{opened_keeping}
use Rattle.cfi_loader.specs.declared.start.Start.TheInside.{Inside}
use Rattle.cfi_loader.specs.Start.{Started}
use Rattle.cfi_loader.specs.inner.Books.{ledger_of, BooksAgree}

-- the parts of a start, as its loader will have them
abbrev pub started_of : Inside → Started
started_of a = record { named = a.blank; slips = a.pad; ledger = ledger_of a.books (opened_keeping a.blank.key) }

-- they agree, and nothing was told yet
pub record IsReadyStart (a : Inside) : Type 0 where
  pub kept : BooksAgree a.blank.key a.books (opened_keeping a.blank.key)
  pub untold : a.books.force.journal.lines ≡ []
