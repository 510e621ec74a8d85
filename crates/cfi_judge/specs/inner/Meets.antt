-- What a module meets behind those that are loaded, beside those of them that are live.
use Rattle.std.specs.Prelude.{◌≡◌, ℕ, List, Option, Some, None, length, true, false}
use Rattle.cfi_aux.specs.declared.modules.Module.{Module}
use Rattle.cfi_aux.specs.declared.placed.Placed.{Placed}
use Rattle.cfi_ledger.specs.Loads.{IsFlagged, IsListed}
use Rattle.cfi_ledger.specs.Roster.{Roster, live_placed, loaded_in_roster, series_of}
use Rattle.cfi_modules.specs.Series.{IsRefusedBy, JoinsTo}
use Rattle.cfi_modules.specs.declared.fault.JoinFault.{JoinFault}
use Rattle.cfi_modules.specs.declared.numbers.FaultNumbers.{FaultNumbers}
use Rattle.cfi_modules.specs.Numbers.{numbers_of}
use Rattle.cfi_valid.specs.Loaded.{LoadedModule, IsLoaded, placed_modules}
use Rattle.cfi_valid.specs.Retiring.{HasGone}

-- the roster has a line for each module
abbrev pub IsLined : Roster → Type 0
IsLined r = length r.lines ≡ length r.placed

-- and these are the live ones, by its flags
pub record HasLive (r : Roster) (live : List LoadedModule) : Type 0 where
  pub lined : IsLined r
  pub places : placed_modules live ≡ live_placed r
  pub stays : (number at : ℕ) → IsListed r number at → IsFlagged r at true → IsLoaded live number
  pub gone : (number at : ℕ) → IsListed r number at → IsFlagged r at false
      → HasGone (loaded_in_roster r) live number
  pub among : (number : ℕ) → IsLoaded live number → IsLoaded (loaded_in_roster r) number

-- a module meets those before it: it has a fault of these numbers, or joins them where there are none
abbrev pub Meets : Roster → Module → Option FaultNumbers → Type 0
Meets r m (Some numbers) =
    (fault : JoinFault) × IsRefusedBy (series_of r) m fault × (numbers_of fault ≡ Some numbers)
Meets r m None = (placed : Placed) × JoinsTo (series_of r) m placed
