-- What retiring a module meets.
use Rattle.std.specs.Prelude.{◌≡◌, ℕ, true, slice_index_or}
use Rattle.cfi_graph.specs.Live.{IsFirstUser, IsUser}
use Rattle.cfi_ledger.specs.Loads.{IsFlagged, IsListed}
use Rattle.cfi_ledger.specs.Roster.{Roster, members_in_roster}
use Rattle.cfi_plan.specs.declared.journal.ModuleLine.{ModuleLine}
use Rattle.cfi_valid.specs.Retiring.{HasNoUser, HasUser, IsLiveAt}
use Rattle.cfi_judge.specs.declared.leaving.Leaving.{Leaving}
use Rattle.cfi_judge.specs.declared.leaving.Leaving.TheVariants.{NotLive, Used, Unused}
use Rattle.cfi_judge.specs.declared.reached.Reached.{Reached}

-- the line at a place in load order has this number
abbrev pub HasNumberAt : Roster → (at number : ℕ) → Type 0
HasNumberAt r at number = (line : ModuleLine) × (line ≡ slice_index_or r.lines at line) × (line.number ≡ number)

-- where the module at a place is live, retiring it meets this: a case a meeting
abbrev pub IsLeavingAt : Roster → (at : ℕ) → Leaving → Type 0
IsLeavingAt r at NotLive = ⊥
IsLeavingAt r at (Used user) =
    (by : ℕ) × IsFirstUser r.placed r.flags at by × HasNumberAt r by user
IsLeavingAt r at (Unused place) = (place ≡ at) × ((by : ℕ) → IsUser r.placed r.flags at by → ⊥)

-- the module of a number meets this: a case a meeting
abbrev pub IsLeaving : Reached → (number : ℕ) → Leaving → Type 0
IsLeaving r number NotLive = ¬ IsLiveAt r.policy (members_in_roster r.roster) number
IsLeaving r number (Used user) = HasUser r.policy (members_in_roster r.roster) number user
IsLeaving r number (Unused place) =
    HasNoUser r.policy (members_in_roster r.roster) number × IsListed r.roster number place
    × IsFlagged r.roster place true
