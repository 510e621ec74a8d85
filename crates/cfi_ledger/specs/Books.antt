-- The books of a run: the plan and its modules, and what is in force, with the journal.
use Rattle.std.specs.Prelude.{List}
use Rattle.cfi_policy.specs.Book.{KeptImage}
use Rattle.cfi_valid.specs.Course.{Course}
use Rattle.cfi_valid.specs.Journal.{JournalState}
use Rattle.cfi_valid.specs.Loaded.{LoadedModule}
use Rattle.cfi_ledger.specs.declared.books.Books.{Books}
use Rattle.cfi_ledger.specs.Force.{state_of, with_change}
use Rattle.cfi_ledger.specs.Journal.{Minutes}
use Rattle.cfi_ledger.specs.Roster.{Roster, loaded_in_roster}

-- the loaded modules
abbrev pub loaded_in : Books → List LoadedModule
loaded_in b = loaded_in_roster b.force.roster

-- the state to which the journal leads, and the course
abbrev pub end_of_books : Books → JournalState
end_of_books b = state_of b.force

-- the run so far, as valid reports have it
abbrev pub course_in : Books → Course
course_in b = record { plan = b.plan; modules = b.modules; journal = b.force.journal.lines; end = end_of_books b }

-- with another journal
abbrev pub with_journal : Minutes → Books → Books
with_journal journal b = record b { force = record b.force { journal = journal } }

-- with other loaded modules
abbrev pub with_roster : Roster → Books → Books
with_roster roster b = record b { force = record b.force { roster = roster } }

-- a load or a retirement is in force: these are the modules, with this image and its links
abbrev pub committed : Roster → KeptImage → Minutes → Books → Books
committed roster book journal b = record b { force = with_change roster journal b.force; book = book }
