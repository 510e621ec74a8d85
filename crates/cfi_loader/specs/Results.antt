-- What each call answers, by the line that it adds to the journal.
use Rattle.std.specs.Prelude.{◌≡◌, ℕ, if◌then◌else◌, List, [], ◌∷◌, slice_get, Option, Some, None, option_map, Result, Ok, Err, ⊤}
use Rattle.std.specs.List.{cons_option}
use Rattle.cfi_aux.specs.declared.modules.Module.{Module}
use Rattle.cfi_plan.specs.declared.journal.JournalLine.{JournalLine}
use Rattle.cfi_plan.specs.declared.journal.JournalLine.TheVariants as lines
use Rattle.cfi_plan.specs.declared.journal.Who.{Who}
use Rattle.cfi_modules.specs.declared.fault.JoinFault.{JoinFault}
use Rattle.cfi_modules.specs.declared.fault.JoinFault.TheVariants as joins
use Rattle.cfi_modules.specs.Numbers.{place_numbers, verify_numbers}
use Rattle.cfi_modules.specs.Order.{IsJoinFault}
use Rattle.cfi_policy.specs.Book.{KeepsNumbers}
use Rattle.cfi_tables.specs.Keeping.{last_of}
use Rattle.cfi_tables.specs.Key.{Key}
use Rattle.cfi_tables.specs.declared.fault.UpdateFault.{UpdateFault}
use Rattle.cfi_tables.specs.declared.fault.UpdateFault.TheVariants as updates
use Rattle.cfi_valid.specs.Course.{Course}
use Rattle.cfi_valid.specs.NumberedLine.{numbered_line}
use Rattle.cfi_valid.specs.Journal.{live_in}
use Rattle.cfi_valid.specs.Loaded.{placed_modules}
use Rattle.cfi_loader.specs.declared.fault.LoadFault.{LoadFault}
use Rattle.cfi_loader.specs.declared.fault.LoadFault.TheVariants.{Retired, ModulesFull, Place, Verify, EpochsSpent, VersionsSpent, Memory}
use Rattle.cfi_loader.specs.declared.loaded.Loaded.{Loaded}
use Rattle.cfi_loader.specs.Ledger.{Ledger}
use Rattle.cfi_loader.specs.Told.{HasTold, HasStarved}
use Rattle.cfi_ledger.specs.Journal.{asked_by}
use Rattle.cfi_ledger.specs.Opens.{IsAddressOf}

-- ---- a load that came through

-- the line of an answer: the module was loaded already, or is now
abbrev pub loaded_line : (number : ℕ) → Loaded → JournalLine
loaded_line number answer =
    if answer.again then lines.LoadAgain number answer.policy else lines.LoadOk number answer.epoch answer.policy

-- the answer to a load, with its line: the epoch and the policy in force then, and the module's address
pub record HasLoaded (k : Key) (who : Who) (number : ℕ) (answer : Loaded) (old new : Ledger) : Type 0 where
  pub told : HasTold k (asked_by who (loaded_line number answer)) old new
  pub epoch_is : answer.epoch ≡ new.course.end.epoch
  pub policy_is : answer.policy ≡ new.course.end.policy
  pub address_is : IsAddressOf (live_in new.course.end) number answer.address

-- of what is live after a call, the image then in force keeps the class numbers of the one before
abbrev pub KeepsClasses : (old new : Ledger) → Type 0
KeepsClasses old new =
    KeepsNumbers (placed_modules (live_in new.course.end)) (last_of old.keeping.entries).image
    (last_of new.keeping.entries).image

-- ---- a load that was refused

-- the line that tells of a fault; want of memory has none
abbrev pub fault_line : (number : ℕ) → LoadFault → Option JournalLine
fault_line number ModulesFull = Some (lines.LoadFull number)
fault_line number (Place fault) = option_map (numbered_line number) (place_numbers fault)
fault_line number (Verify fault) = option_map (numbered_line number) (verify_numbers fault)
fault_line number EpochsSpent = Some (lines.LoadEpochs number)
fault_line number (VersionsSpent guest quiet) = Some (lines.LoadVersions number guest quiet)
fault_line number Retired = Some (lines.LoadRetired number)
fault_line number Memory = None

-- the lines that a load tells: one, and none where memory was missing
abbrev pub told_lines : (number : ℕ) → Result Loaded LoadFault → List JournalLine
told_lines number (Ok answer) = loaded_line number answer ∷ []
told_lines number (Err fault) = cons_option (fault_line number fault) []

-- the module of the number does not join those that are loaded and live, for this fault
pub record DoesNotJoin (c : Course) (number : ℕ) (fault : JoinFault) : Type 0 where
  pub unplaced : Module
  pub is : slice_get c.modules number ≡ Some unplaced
  pub why : IsJoinFault c.plan.code_words (placed_modules c.end.loaded) (placed_modules (live_in c.end)) unplaced fault

-- what a fault says of the module
abbrev pub SaysOf : (c : Course) → (number : ℕ) → LoadFault → Type 0
SaysOf c number (Place fault) = DoesNotJoin c number (joins.Place fault)
SaysOf c number (Verify fault) = DoesNotJoin c number (joins.Verify fault)
SaysOf c number fault = ⊤

-- a refusal, with its line, and what it says of the module
pub record HasRefused (k : Key) (who : Who) (number : ℕ) (fault : LoadFault) (line : JournalLine) (old new : Ledger)
    : Type 0 where
  pub told : HasTold k (asked_by who line) old new
  pub says : SaysOf old.course number fault

-- with a line a refusal; none is told of want of memory alone
abbrev pub RefusesBy : Key → Who → (number : ℕ) → LoadFault → Option JournalLine → (old new : Ledger) → Type 0
RefusesBy k who number fault (Some line) old new = HasRefused k who number fault line old new
RefusesBy k who number fault None old new = (fault ≡ Memory) × HasStarved old new

-- a load was refused for this fault
abbrev pub IsLoadFault : Key → Who → (number : ℕ) → LoadFault → (old new : Ledger) → Type 0
IsLoadFault k who number fault old new = RefusesBy k who number fault (fault_line number fault) old new

-- ---- a refresh

-- the line of a refresh that was refused
abbrev pub refused_refresh : UpdateFault → JournalLine
refused_refresh updates.EpochsSpent = lines.RefreshEpochs
refused_refresh (updates.VersionsSpent guest quiet) = lines.RefreshVersions guest quiet
