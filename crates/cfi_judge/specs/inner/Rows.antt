-- What the modules of a plan meet behind those that each policy finds loaded, beside those that are live under it.
use Rattle.std.specs.Prelude.{◌≡◌, ℕ, ◌+◌, ◌<◌, List, length, slice_get, Some, ◌≤◌, Option, None}
use Rattle.cfi_aux.specs.declared.modules.Module.{Module}
use Rattle.cfi_modules.specs.declared.numbers.FaultNumbers.{FaultNumbers}
use Rattle.cfi_modules.specs.declared.numbers.FaultNumbers.TheVariants.{Place, Verify}
use Rattle.cfi_valid.specs.Joining.{HasFault, HasNoFault, IsFull}
use Rattle.cfi_valid.specs.Journal.{JournalState, members_of}
use Rattle.cfi_valid.specs.Loaded.{IsLoaded, LoadedModule, live_at, loaded_by}
use Rattle.cfi_valid.specs.Retiring.{HasGone}
use Rattle.cfi_judge.specs.declared.meeting.Meeting.{Meeting}
use Rattle.cfi_judge.specs.declared.meeting.Meeting.TheVariants.{Again, Gone, Full, Unplaced, Unverified, Joins}
use Rattle.cfi_judge.specs.declared.meeting.Kind.{Kind}
use Rattle.cfi_judge.specs.declared.meeting.Kind.TheVariants as kinds

-- ---- one module

-- the module of the plan of this number meets so those that are loaded: a case a meeting
abbrev pub IsMeeting : (code_words : ℕ) → List Module → (loaded live : List LoadedModule) → (number : ℕ) → Meeting
    → Type 0
IsMeeting code_words modules loaded live number Again =
    IsLoaded live number × IsLoaded loaded number × (number < length modules)
IsMeeting code_words modules loaded live number Gone = HasGone loaded live number × (number < length modules)
IsMeeting code_words modules loaded live number Full = IsFull modules loaded number
IsMeeting code_words modules loaded live number (Unplaced fault) =
    HasFault code_words modules loaded live number (Place fault)
IsMeeting code_words modules loaded live number (Unverified fault place) =
    HasFault code_words modules loaded live number (Verify fault place)
IsMeeting code_words modules loaded live number Joins = HasNoFault code_words modules loaded live number

-- the meeting of these numbers of a fault, or of none: a case a fault
abbrev pub meeting_of : Option FaultNumbers → Meeting
meeting_of (Some (Place fault)) = Unplaced fault
meeting_of (Some (Verify fault place)) = Unverified fault place
meeting_of None = Joins

-- ---- without the numbers of a fault

-- a meeting without them: a case a meeting
abbrev pub kind_of : Meeting → Kind
kind_of Again = kinds.Again
kind_of Gone = kinds.Gone
kind_of Full = kinds.Full
kind_of (Unplaced fault) = kinds.Unplaced
kind_of (Unverified fault place) = kinds.Unverified
kind_of Joins = kinds.Joins

-- the module meets so those that are loaded: a case a kind
abbrev pub IsOfKind : (code_words : ℕ) → List Module → (loaded live : List LoadedModule) → (number : ℕ) → Kind
    → Type 0
IsOfKind code_words modules loaded live number kinds.Again =
    IsLoaded live number × IsLoaded loaded number × (number < length modules)
IsOfKind code_words modules loaded live number kinds.Gone = HasGone loaded live number × (number < length modules)
IsOfKind code_words modules loaded live number kinds.Full = IsFull modules loaded number
IsOfKind code_words modules loaded live number kinds.Unplaced =
    (fault : ℕ) × HasFault code_words modules loaded live number (Place fault)
IsOfKind code_words modules loaded live number kinds.Unverified =
    (fault : ℕ) × (place : ℕ) × HasFault code_words modules loaded live number (Verify fault place)
IsOfKind code_words modules loaded live number kinds.Joins = HasNoFault code_words modules loaded live number

-- ---- all modules, under all policies

-- a meeting for each module of the plan, by its number
pub record IsRow (code_words : ℕ) (modules : List Module) (loaded live : List LoadedModule) (row : List Meeting)
    : Type 0 where
  pub count : length row ≡ length modules
  pub each : (number : ℕ) (meeting : Meeting) → slice_get row number ≡ Some meeting
      → IsMeeting code_words modules loaded live number meeting

-- a row for each policy up to the one in force, by its number
pub record AreRows (code_words : ℕ) (modules : List Module) (s : JournalState) (rows : List (List Meeting))
    : Type 0 where
  pub count : length rows ≡ s.policy + 1
  pub each : (policy : ℕ) (row : List Meeting) → slice_get rows policy ≡ Some row
      → IsRow code_words modules (loaded_by policy s.loaded) (live_at policy (members_of s)) row

-- the row of the policy in force may still lack, which finds all loaded
pub record LackLast (code_words : ℕ) (modules : List Module) (s : JournalState) (rows : List (List Meeting))
    : Type 0 where
  pub least : s.policy ≤ length rows
  pub most : length rows ≤ s.policy + 1
  pub each : (policy : ℕ) (row : List Meeting) → slice_get rows policy ≡ Some row
      → IsRow code_words modules (loaded_by policy s.loaded) (live_at policy (members_of s)) row
  pub all : loaded_by s.policy s.loaded ≡ s.loaded

-- ---- what rows say

-- the row says so of the module of a number, but for the numbers of a fault
pub record Shows (row : List Meeting) (number : ℕ) (kind : Kind) : Type 0 where
  pub meeting : Meeting
  pub says : slice_get row number ≡ Some meeting
  pub is : kind_of meeting ≡ kind

-- the row of some policy between these does
pub record HasMeeting (least most : ℕ) (rows : List (List Meeting)) (number : ℕ) (kind : Kind) : Type 0 where
  pub policy : ℕ
  pub above : least ≤ policy
  pub below : policy ≤ most
  pub row : List Meeting
  pub has : slice_get rows policy ≡ Some row
  pub shows : Shows row number kind
