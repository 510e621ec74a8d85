-- Marks: the numbers by which the history of the tables, and the updates that were not admitted, tell who asked for
-- what; and what of a journal they tell.
use Rattle.std.specs.Prelude.{◌≡◌, ℕ, ◌+◌, ◌*◌, ◌<◌, Bool, true, false, List, ◌∷◌, map, filter, filter_map, Option, Some, None, ⊤}
use Rattle.cfi_model.specs.declared.history.Entry.{Entry as TableEntry}
use Rattle.cfi_model.specs.declared.history.Refusal.{Refusal}
use Rattle.cfi_plan.specs.declared.journal.Entry.{Entry}
use Rattle.cfi_plan.specs.declared.journal.JournalLine.{JournalLine}
use Rattle.cfi_plan.specs.declared.journal.JournalLine.TheVariants.{LoadOk, LoadAgain, LoadFull, LoadPlace, LoadVerify, LoadVersions, LoadEpochs, LoadRetired, RefreshOk, RefreshVersions, RefreshEpochs, RetireOk, RetireNotLive, RetireInUse, RetireVersions, RetireEpochs}
use Rattle.cfi_plan.specs.declared.journal.Who.{Who}
use Rattle.cfi_plan.specs.declared.journal.Who.TheVariants.{Script, Guest}
use Rattle.cfi_word.specs.declared.limits.TheConstants.{GUESTS}
use Rattle.cfi_valid.specs.Script.{Call, Load, Refresh, Retire, call_of}
use Rattle.cfi_loader.specs.declared.mark.TheConstants.{REFRESH_MARK, GUEST_MARKS, RETIREMENT_MARKS}

-- the mark of a call: the module's number, with its guest's place above it where a guest asked, or with
-- `RETIREMENT_MARKS` above it where it is retired
abbrev pub mark_by : Who → Call → ℕ
mark_by who Refresh = REFRESH_MARK
mark_by who (Retire number) = RETIREMENT_MARKS + number
mark_by Script (Load number) = number
mark_by (Guest guest) (Load number) = number + GUEST_MARKS * (guest + 1)

-- that of the call of which a line tells
abbrev pub mark_of : Entry → ℕ
mark_of entry = mark_by entry.who (call_of entry.what)

-- a guest that asks has a seat
abbrev pub IsAsker : Who → Type 0
IsAsker Script = ⊤
IsAsker (Guest guest) = guest < GUESTS

-- ---- updates

-- the line tells of an update that was made: a case a line
abbrev pub is_made : JournalLine → Bool
is_made (LoadOk number epoch policy) = true
is_made (LoadAgain number policy) = false
is_made (LoadFull number) = false
is_made (LoadPlace number fault) = false
is_made (LoadVerify number fault place) = false
is_made (LoadVersions number guest quiet) = false
is_made (LoadEpochs number) = false
is_made (LoadRetired number) = false
is_made (RefreshOk epoch) = true
is_made (RefreshVersions guest quiet) = false
is_made RefreshEpochs = false
is_made (RetireOk number epoch policy) = true
is_made (RetireNotLive number) = false
is_made (RetireInUse number user) = false
is_made (RetireVersions number guest quiet) = false
is_made (RetireEpochs number) = false

-- the marks of the updates that a journal tells of
abbrev pub made_marks : (journal : List Entry) → List ℕ
made_marks journal = map mark_of (filter (λ (e : Entry). is_made e.what) journal)

-- those of a history, whose first entry is of no update
abbrev pub AreMade : (journal : List Entry) → List TableEntry → Type 0
AreMade journal entries = map (λ (e : TableEntry). e.mark) entries ≡ 0 ∷ made_marks journal

-- ---- updates that were not admitted

-- the guest that was too far behind, the epoch that it had published, and the mark
pub record Spent : Type 0 where
  pub guest : ℕ
  pub quiet : ℕ
  pub mark : ℕ

-- what a refused update tells of the guest at fault, and for whom it was
abbrev pub spent_of : Refusal → Spent
spent_of refusal = record { guest = refusal.guest; quiet = refusal.quiet; mark = refusal.mark }

-- what a line tells of one: a case a line
abbrev pub spent_by : (mark : ℕ) → JournalLine → Option Spent
spent_by mark (LoadOk number epoch policy) = None
spent_by mark (LoadAgain number policy) = None
spent_by mark (LoadFull number) = None
spent_by mark (LoadPlace number fault) = None
spent_by mark (LoadVerify number fault place) = None
spent_by mark (LoadVersions number guest quiet) = Some (record { guest = guest; quiet = quiet; mark = mark })
spent_by mark (LoadEpochs number) = None
spent_by mark (LoadRetired number) = None
spent_by mark (RefreshOk epoch) = None
spent_by mark (RefreshVersions guest quiet) = Some (record { guest = guest; quiet = quiet; mark = mark })
spent_by mark RefreshEpochs = None
spent_by mark (RetireOk number epoch policy) = None
spent_by mark (RetireNotLive number) = None
spent_by mark (RetireInUse number user) = None
spent_by mark (RetireVersions number guest quiet) = Some (record { guest = guest; quiet = quiet; mark = mark })
spent_by mark (RetireEpochs number) = None

-- what a line of the journal tells of one
abbrev pub spent_in : Entry → Option Spent
spent_in entry = spent_by (mark_of entry) entry.what

-- the journal tells of them in their order
abbrev pub AreRefused : (journal : List Entry) → List Refusal → Type 0
AreRefused journal refusals = map spent_of refusals ≡ filter_map spent_in journal
