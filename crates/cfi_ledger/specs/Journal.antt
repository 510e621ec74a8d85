-- A journal as it is kept: with room for each line that the script can still add, and for some more.
use Rattle.std.specs.Prelude.{◌≡◌, ℕ, ◌+◌, ◌-◌, ◌<◌, ◌≤◌, List, ◌∷◌, ◌++◌, [], length, map, drop, vec_len, vec_capacity}
use Rattle.cfi_plan.specs.declared.journal.Entry.{Entry}
use Rattle.cfi_plan.specs.declared.journal.JournalLine.{JournalLine}
use Rattle.cfi_plan.specs.declared.journal.Who.{Who}
use Rattle.cfi_plan.specs.declared.journal.Who.TheVariants.{Script, Guest}
use Rattle.cfi_valid.specs.Script.{Call}
use Rattle.cfi_ledger.specs.Calls.{call_due, calls_after}
use Rattle.cfi_ledger.specs.declared.journal.Journal.TheInside.{Inside}

-- its lines, the script's calls that are left, and for how many lines beside those of the script there is room
pub record Minutes : Type 0 where
  pub lines : List Entry
  pub left : List Call
  pub spare : ℕ

-- the calls of the script that are left
abbrev pub calls_left : Inside → List Call
calls_left a = map call_due (drop a.made a.calls.items)

-- the lines, the calls that are left, and the room beside them
abbrev pub minutes_of : Inside → Minutes
minutes_of a = record {
  lines = a.lines.items;
  left = calls_left a;
  spare = vec_capacity a.lines - (vec_len a.lines + (vec_len a.calls - a.made));
}

-- no more calls were made than the script has, and each that is left has room for its line
pub record HasScriptRoom (a : Inside) : Type 0 where
  pub made_most : a.made ≤ vec_len a.calls
  pub room : vec_len a.lines + (vec_len a.calls - a.made) ≤ vec_capacity a.lines

-- the entry of a line, by whoever asked
abbrev pub asked_by : Who → JournalLine → Entry
asked_by who what = record { who = who; what = what }

-- there is room for a line: for the script's that of a call that is left, or beside those
abbrev pub HasRoomFor : Who → Minutes → Type 0
HasRoomFor Script minutes = 0 < length minutes.left + minutes.spare
HasRoomFor (Guest number) minutes = 0 < minutes.spare

-- a line more
pub record HasLine (entry : Entry) (old new : Minutes) : Type 0 where
  pub lines_are : new.lines ≡ old.lines ++ entry ∷ []
  pub left_are : new.left ≡ calls_after entry.who old.left
