-- What a journal tells in the name of one guest.
use Rattle.std.specs.Prelude.{◌≡◌, ◌≢◌, ℕ, ◌==◌, Bool, false, List, [], map, filter}
use Rattle.cfi_plan.specs.declared.journal.Entry.{Entry}
use Rattle.cfi_plan.specs.declared.journal.JournalLine.{JournalLine}
use Rattle.cfi_plan.specs.declared.journal.Who.{Who}
use Rattle.cfi_plan.specs.declared.journal.Who.TheVariants.{Script, Guest}

-- it is the guest who asked
abbrev pub is_guest : (guest : ℕ) → Who → Bool
is_guest guest Script = false
is_guest guest (Guest number) = number == guest

-- the lines for which the guest asked, in order
abbrev pub lines_of : (guest : ℕ) → (journal : List Entry) → List JournalLine
lines_of guest journal = map (λ (e : Entry). e.what) (filter (λ (e : Entry). is_guest guest e.who) journal)

-- a line for which the guest asked
abbrev pub line_for : (guest : ℕ) → JournalLine → Entry
line_for guest what = record { who = Guest guest; what = what }

-- none of these is in the name of another guest
abbrev pub AreOf : (guest : ℕ) → (more : List Entry) → Type 0
AreOf guest more = (other : ℕ) → other ≢ guest → lines_of other more ≡ []
