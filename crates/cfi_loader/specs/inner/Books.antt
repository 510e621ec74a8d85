-- What a loader has beside the keeper of the tables, and how both agree.
use Rattle.std.specs.Prelude.{◌≡◌, ℕ, List}
use Rattle.cfi_aux.specs.declared.modules.Module.{Module}
use Rattle.cfi_plan.specs.declared.journal.Entry.{Entry}
use Rattle.cfi_plan.specs.declared.plan.Plan.{Plan}
use Rattle.cfi_slips.specs.Lines.{lines_of}
use Rattle.cfi_slips.specs.Stubs.{Sheet}
use Rattle.cfi_tables.specs.Keeping.{Keeping, last_of}
use Rattle.cfi_tables.specs.Key.{Key}
use Rattle.cfi_ledger.specs.declared.books.Books.{Books}
use Rattle.cfi_loader.specs.Ledger.{Ledger, IsLedger}
use Rattle.cfi_loader.specs.Told.{HasTold}
use Rattle.cfi_ledger.specs.Finding.{AreFindings}
use Rattle.cfi_ledger.specs.Books.{course_in}
use Rattle.cfi_ledger.specs.Roster.{IsBookOfRoster, IsFilled, IsRosterOf, members_in_roster}
use Rattle.cfi_valid.specs.Loaded.{live_flags}

-- what a loader keeps, as clauses see it
abbrev pub ledger_of : Books → Keeping → Ledger
ledger_of b keeping = record {
  course = course_in b;
  keeping = keeping;
  left = b.force.journal.left;
  starved = b.starved;
}

-- all of it agrees
pub record BooksAgree (k : Key) (b : Books) (keeping : Keeping) : Type 0 where
  pub ledger : IsLedger k b.plan b.modules (ledger_of b keeping)
  pub roster_is : IsRosterOf b.plan b.force.roster
  pub filled : IsFilled b.force.roster
  pub layout_is : b.layout ≡ b.plan.code_words
  pub book_is : IsBookOfRoster b.force.roster b.book
  pub image_is : b.book.image ≡ (last_of keeping.entries).image
  pub flags_are : b.force.roster.flags ≡ live_flags b.force.policy (members_in_roster b.force.roster)
  pub found_are : AreFindings b.modules b.force.policy b.force.roster b.found.items

-- a line more, and all of it agrees again
pub record IsAfter (k : Key) (entry : Entry) (old new : Books) (before after : Keeping) : Type 0 where
  pub kept : BooksAgree k new after
  pub told : HasTold k entry (ledger_of old before) (ledger_of new after)

-- what the stubs of the guests' slips say: the lines of the journal in each guest's name, and that a slip is out where
-- its guest's pass is
pub record StubsAgree (l : Ledger) (sheet : Sheet) : Type 0 where
  pub told : (guest : ℕ) → lines_of guest sheet.told ≡ lines_of guest l.course.journal
  pub out : sheet.out ≡ l.keeping.out

-- all that a loader has agrees, and is the plan's and the modules' of a name
pub record IsLoader (k : Key) (plan : Plan) (modules : List Module) (b : Books) (keeping : Keeping) (sheet : Sheet)
    : Type 0 where
  pub kept : BooksAgree k b keeping
  pub plan_is : b.plan ≡ plan
  pub modules_are : b.modules ≡ modules
  pub slips : StubsAgree (ledger_of b keeping) sheet
