-- A ledger after a call: a line more, or a mark that memory was missing.
use Rattle.std.specs.Prelude.{◌≡◌, ℕ, ◌<◌, true, ◌++◌, [], ◌∷◌, length, slice_get, Some}
use Rattle.cfi_plan.specs.declared.journal.Entry.{Entry}
use Rattle.cfi_plan.specs.declared.journal.JournalLine.{JournalLine}
use Rattle.cfi_plan.specs.declared.journal.JournalLine.TheVariants as lines
use Rattle.cfi_plan.specs.declared.journal.Who.{Who}
use Rattle.cfi_plan.specs.declared.journal.Who.TheVariants.{Script, Guest}
use Rattle.cfi_tables.specs.Faults.{IsRefused}
use Rattle.cfi_tables.specs.Keeping.{Keeping, entry_by, grown_by, last_of}
use Rattle.cfi_tables.specs.Key.{Key}
use Rattle.cfi_valid.specs.Course.{Course}
use Rattle.cfi_valid.specs.Journal.{EntryLeads}
use Rattle.cfi_valid.specs.Script.{Call}
use Rattle.cfi_word.specs.declared.lists.Image.{Image}
use Rattle.cfi_ledger.specs.Calls.{calls_after}
use Rattle.cfi_loader.specs.Ledger.{Ledger}
use Rattle.cfi_loader.specs.Mark.{mark_of}

-- whoever asks may: the script for the call that is due, a guest of the plan for a load
abbrev pub MayAskFor : Ledger → Who → Call → Type 0
MayAskFor l Script call = slice_get l.left 0 ≡ Some call
MayAskFor l (Guest number) call = number < length l.course.plan.guests

-- the course goes on by a line
pub record GoesOnBy (entry : Entry) (old new : Course) : Type 0 where
  pub plan_is : new.plan ≡ old.plan
  pub modules_are : new.modules ≡ old.modules
  pub journal_is : new.journal ≡ old.journal ++ entry ∷ []
  pub leads : EntryLeads old.plan old.modules old.end entry new.end

-- what the keeper keeps then: with an update that was made an entry more, with one that was not admitted a refusal, and
-- else what it kept
abbrev pub HasGrown : (policy mark : ℕ) → (old new : Keeping) → Type 0
HasGrown policy mark old new =
    (image : Image) × (new ≡ grown_by (entry_by policy image mark) new.quiets old)

-- an epoch more, with the policy and the image in force
abbrev pub HasRefreshed : (mark : ℕ) → (old new : Keeping) → Type 0
HasRefreshed mark old new =
    new ≡ grown_by (entry_by (last_of old.entries).policy (last_of old.entries).image mark) new.quiets old

-- what the keeper keeps after a line: an epoch more, an update that was refused, or what it kept
abbrev pub KeepsAfter : Key → (mark : ℕ) → JournalLine → (old new : Keeping) → Type 0
KeepsAfter k mark (lines.LoadOk number epoch policy) old new = HasGrown policy mark old new
KeepsAfter k mark (lines.RefreshOk epoch) old new = HasRefreshed mark old new
KeepsAfter k mark (lines.LoadVersions number guest quiet) old new = IsRefused k mark guest quiet old new
KeepsAfter k mark (lines.RefreshVersions guest quiet) old new = IsRefused k mark guest quiet old new
KeepsAfter k mark (lines.LoadAgain number policy) old new = new ≡ old
KeepsAfter k mark (lines.LoadFull number) old new = new ≡ old
KeepsAfter k mark (lines.LoadPlace number fault) old new = new ≡ old
KeepsAfter k mark (lines.LoadVerify number fault place) old new = new ≡ old
KeepsAfter k mark (lines.LoadEpochs number) old new = new ≡ old
KeepsAfter k mark (lines.LoadRetired number) old new = new ≡ old
KeepsAfter k mark lines.RefreshEpochs old new = new ≡ old
KeepsAfter k mark (lines.RetireOk number epoch policy) old new = HasGrown policy mark old new
KeepsAfter k mark (lines.RetireNotLive number) old new = new ≡ old
KeepsAfter k mark (lines.RetireInUse number user) old new = new ≡ old
KeepsAfter k mark (lines.RetireVersions number guest quiet) old new = IsRefused k mark guest quiet old new
KeepsAfter k mark (lines.RetireEpochs number) old new = new ≡ old

-- a line more
pub record HasTold (k : Key) (entry : Entry) (old new : Ledger) : Type 0 where
  pub course : GoesOnBy entry old.course new.course
  pub keeping : KeepsAfter k (mark_of entry) entry.what old.keeping new.keeping
  pub left : new.left ≡ calls_after entry.who old.left
  pub starved : new.starved ≡ old.starved

-- memory was missing: no line more
abbrev pub HasStarved : (old new : Ledger) → Type 0
HasStarved old new = new ≡ record old { starved = true }
