-- What a load of a module meets, where some modules are loaded and some of these are live: it is one of them, there is
-- no room for it, it has a fault behind them and beside the live ones, or it has none.
use Rattle.std.specs.Prelude.{◌≡◌, ℕ, ◌<◌, ◌≤◌, List, length, slice_get, Some}
use Rattle.cfi_aux.specs.declared.modules.Module.{Module}
use Rattle.cfi_aux.specs.declared.placed.Placed.{Placed}
use Rattle.cfi_modules.specs.declared.fault.JoinFault.{JoinFault}
use Rattle.cfi_modules.specs.declared.numbers.FaultNumbers.{FaultNumbers}
use Rattle.cfi_modules.specs.Numbers.{numbers_of}
use Rattle.cfi_modules.specs.Order.{Joins, IsJoinFault}
use Rattle.cfi_valid.specs.declared.limits.TheConstants.{MAX_LOADED}
use Rattle.cfi_valid.specs.Loaded.{LoadedModule, placed_modules, IsLoaded}

-- a module of the plan is not loaded, and no further one may be
pub record IsFull (modules : List Module) (loaded : List LoadedModule) (number : ℕ) : Type 0 where
  pub known : number < length modules
  pub absent : ¬ IsLoaded loaded number
  pub full : MAX_LOADED ≤ length loaded

-- it is not loaded, and there is room
pub record IsUnloaded (modules : List Module) (loaded : List LoadedModule) (number : ℕ) : Type 0 where
  pub unplaced : Module
  pub is : slice_get modules number ≡ Some unplaced
  pub absent : ¬ IsLoaded loaded number
  pub room : length loaded < MAX_LOADED

-- and it has a fault behind those that are loaded and beside those that are live, which is told by these numbers
pub record HasFault (code_words : ℕ) (modules : List Module) (loaded live : List LoadedModule) (number : ℕ)
    (numbers : FaultNumbers) : Type 0 where
  pub absent : IsUnloaded modules loaded number
  pub fault : JoinFault
  pub stands : IsJoinFault code_words (placed_modules loaded) (placed_modules live) absent.unplaced fault
  pub told : numbers_of fault ≡ Some numbers

-- or has none, and is placed so
pub record HasNoFault (code_words : ℕ) (modules : List Module) (loaded live : List LoadedModule) (number : ℕ)
    : Type 0 where
  pub absent : IsUnloaded modules loaded number
  pub placed : Placed
  pub joins : Joins code_words (placed_modules loaded) (placed_modules live) absent.unplaced placed
