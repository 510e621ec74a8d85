-- What is known of a module that is to be loaded.
use Rattle.std.specs.Prelude.{◌≡◌, ◌≢◌, ℕ, ◌+◌, ◌<◌, ◌≤◌, Bool, true, false, length, slice_get, slice_index_or, Some, All, ⊤}
use Rattle.cfi_aux.specs.declared.modules.Module.{Module}
use Rattle.cfi_plan.specs.declared.journal.ModuleLine.{ModuleLine}
use Rattle.cfi_modules.specs.declared.fault.JoinFault.{JoinFault}
use Rattle.cfi_modules.specs.Series.{IsRefusedBy}
use Rattle.cfi_valid.specs.Loaded.{planned_name, IsLoaded}
use Rattle.cfi_valid.specs.declared.limits.TheConstants.{MAX_LOADED}
use Rattle.cfi_word.specs.declared.limits.TheConstants.{MAX_EPOCH}
use Rattle.cfi_ledger.specs.declared.books.Books.{Books}
use Rattle.cfi_ledger.specs.declared.finding.Known.{Known}
use Rattle.cfi_ledger.specs.declared.finding.Known.TheVariants.{Nothing, Unjoined, Spent}
use Rattle.cfi_ledger.specs.declared.prospect.Prospect.{Prospect}
use Rattle.cfi_ledger.specs.declared.prospect.Prospect.TheVariants.{Again, Retired, Full, Open}
use Rattle.cfi_ledger.specs.Books.{loaded_in}
use Rattle.cfi_ledger.specs.Finding.{DoesJoin}
use Rattle.cfi_ledger.specs.Roster.{Roster, HasJoined, series_of}

-- the module of the number stands at this place in load order
pub record IsListed (r : Roster) (number at : ℕ) : Type 0 where
  pub within : at < length r.placed
  pub number_is : (d : ModuleLine) → (slice_index_or r.lines at d).number ≡ number

-- it stands at none
abbrev pub IsUnlisted : Roster → (number : ℕ) → Type 0
IsUnlisted r number = All (λ (line : ModuleLine). line.number ≢ number) r.lines

-- the one at this place is live, or is not
abbrev pub IsFlagged : Roster → (at : ℕ) → (live : Bool) → Type 0
IsFlagged r at live = slice_get r.flags at ≡ Some live

-- what stands against its load before it is tried: a case an answer
abbrev pub IsProspect : Roster → (number : ℕ) → Prospect → Type 0
IsProspect r number (Again at) = IsListed r number at × IsFlagged r at true
IsProspect r number (Retired at) = IsListed r number at × IsFlagged r at false
IsProspect r number Full = IsUnlisted r number × MAX_LOADED ≤ length r.lines
IsProspect r number Open = IsUnlisted r number × length r.lines < MAX_LOADED

-- the module of the number is not loaded, and there is room for it
pub record IsAbsent (b : Books) (number : ℕ) : Type 0 where
  pub absent : ¬ IsLoaded (loaded_in b) number
  pub room : length (loaded_in b) < MAX_LOADED

-- the module of the plan of this number joins
pub record HasPrepared (b : Books) (number : ℕ) (roster : Roster) : Type 0 where
  pub unplaced : Module
  pub is : slice_get b.modules number ≡ Some unplaced
  pub joined : HasJoined number (planned_name b.plan.modules number) (b.force.policy + 1) unplaced b.force.roster roster

-- or it does not, for this fault
pub record IsUnprepared (b : Books) (number : ℕ) (fault : JoinFault) : Type 0 where
  pub unplaced : Module
  pub is : slice_get b.modules number ≡ Some unplaced
  pub why : IsRefusedBy (series_of b.force.roster) unplaced fault

-- it joins, and no epoch is left
pub record IsSpent (b : Books) (number : ℕ) : Type 0 where
  pub joins : DoesJoin b.modules b.force.roster number
  pub last : b.force.epoch ≡ MAX_EPOCH

-- what is known of it
abbrev pub IsKnown : Books → (number : ℕ) → Known → Type 0
IsKnown b number Nothing = ⊤
IsKnown b number (Unjoined fault) = IsUnprepared b number fault
IsKnown b number Spent = IsSpent b number
