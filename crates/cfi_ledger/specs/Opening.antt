-- What opening a plan makes, and why it cannot be opened.
use Rattle.std.specs.Prelude.{◌≡◌, false, List, [], length, None, replicate, ⊤}
use Rattle.cfi_aux.specs.declared.modules.Module.{Module}
use Rattle.cfi_plan.specs.declared.plan.Plan.{Plan}
use Rattle.cfi_policy.specs.Book.{KeptImage}
use Rattle.cfi_modules.specs.Image.{IsOrderedImage}
use Rattle.cfi_modules.specs.declared.fault.JoinFault.TheVariants as joins
use Rattle.cfi_valid.specs.Opening.{IsFirstUnjoined, IsFirstLost}
use Rattle.cfi_valid.specs.Script.{script_calls}
use Rattle.cfi_word.specs.declared.lists.Image.{Image}
use Rattle.cfi_ledger.specs.declared.books.Books.{Books}
use Rattle.cfi_ledger.specs.declared.fault.OpenFault.{OpenFault}
use Rattle.cfi_ledger.specs.declared.fault.OpenFault.TheVariants.{Place, Verify, NoEntry}
use Rattle.cfi_ledger.specs.declared.fault.StartFault.{StartFault}
use Rattle.cfi_ledger.specs.declared.fault.StartFault.TheVariants.{Open, Memory}
use Rattle.cfi_ledger.specs.Entries.{AllEnter}
use Rattle.cfi_ledger.specs.Force.{force_at}
use Rattle.cfi_ledger.specs.Journal.{Minutes}
use Rattle.cfi_ledger.specs.Roster.{Roster, IsBookOfRoster, IsFilled, IsImageOfRoster}
use Rattle.cfi_ledger.specs.Starts.{AreStarted}

-- ---- faults

-- a start module does not join those before it, or all do, and a guest has nowhere to begin
abbrev pub IsOpenFault : Plan → List Module → OpenFault → Type 0
IsOpenFault plan modules (Place number fault) = IsFirstUnjoined plan modules number (joins.Place fault)
IsOpenFault plan modules (Verify number fault) = IsFirstUnjoined plan modules number (joins.Verify fault)
IsOpenFault plan modules (NoEntry guest) = IsFirstLost plan modules guest

-- the opening cannot be made for this fault of the plan or its modules; want of memory may always be
abbrev pub IsStartFault : Plan → List Module → StartFault → Type 0
IsStartFault plan modules (Open fault) = IsOpenFault plan modules fault
IsStartFault plan modules Memory = ⊤

-- ---- the start

-- the start modules, where each guest has somewhere to begin
pub record IsStartRoster (plan : Plan) (modules : List Module) (roster : Roster) : Type 0 where
  pub started : AreStarted plan modules (length plan.modules) roster
  pub enter : AllEnter plan roster.placed

-- the start modules and their image, where each guest has somewhere to begin
pub record HasOpened (plan : Plan) (modules : List Module) (roster : Roster) (image : Image) : Type 0 where
  pub started : AreStarted plan modules (length plan.modules) roster
  pub enter : AllEnter plan roster.placed
  pub image_is : IsImageOfRoster roster image
  pub ordered : IsOrderedImage roster.placed image

-- ---- books

-- what there is at the start; its memory, and what was found, are those of another
abbrev pub books_at : Plan → List Module → Roster → KeptImage → Minutes → Books → Books
books_at plan modules roster book journal b = record b {
  plan = plan;
  modules = modules;
  layout = plan.code_words;
  force = force_at plan roster journal;
  book = book;
  starved = false;
}

-- the books of these start modules: with their image, no lines yet, the whole script left, and nothing found
pub record AreOpeningBooks (plan : Plan) (modules : List Module) (roster : Roster) (b : Books) : Type 0 where
  pub is : b ≡ books_at plan modules roster b.book b.force.journal b
  pub book_is : IsBookOfRoster roster b.book
  pub lines_are : b.force.journal.lines ≡ []
  pub left_are : b.force.journal.left ≡ script_calls plan.script
  pub none_found : b.found.items ≡ replicate (length modules) None

-- they are those of the start modules, whose cells are filled, and each guest has somewhere to begin
pub record AreOpened (plan : Plan) (modules : List Module) (b : Books) : Type 0 where
  pub roster : Roster
  pub started : AreStarted plan modules (length plan.modules) roster
  pub enter : AllEnter plan roster.placed
  pub filled : IsFilled roster
  pub books : AreOpeningBooks plan modules roster b
