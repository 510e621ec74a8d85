-- What retiring a module meets: it is not live, a live module jumps into it, or none does. A place is the number of a
-- module in load order, from 0.
use Rattle.std.specs.Prelude.{◌≡◌, ℕ, List, slice_get, Some}
use Rattle.cfi_graph.specs.Live.{IsUser, IsFirstUser}
use Rattle.cfi_valid.specs.Loaded.{LoadedModule, placed_modules, IsLoaded, Members, live_at, live_flags}

-- the module of the number is live under the policy
abbrev pub IsLiveAt : (policy : ℕ) → Members → (number : ℕ) → Type 0
IsLiveAt policy members number = IsLoaded (live_at policy members) number

-- it is loaded, and not live
pub record HasGone (loaded live : List LoadedModule) (number : ℕ) : Type 0 where
  pub has : IsLoaded loaded number
  pub gone : ¬ IsLoaded live number

-- the module of the number stands at this place
abbrev pub StandsAt : List LoadedModule → (number place : ℕ) → Type 0
StandsAt loaded number place = (l : LoadedModule) × (slice_get loaded place ≡ Some l) × (l.number ≡ number)

-- it is live, and the module `user` is the first other one that is live and jumps into it
pub record HasUser (policy : ℕ) (members : Members) (number user : ℕ) : Type 0 where
  pub live : IsLiveAt policy members number
  pub place : ℕ
  pub stands : StandsAt members.loaded number place
  pub by : ℕ
  pub user_stands : StandsAt members.loaded user by
  pub first : IsFirstUser (placed_modules members.loaded) (live_flags policy members) place by

-- it is live, and no other one that is jumps into it
pub record HasNoUser (policy : ℕ) (members : Members) (number : ℕ) : Type 0 where
  pub live : IsLiveAt policy members number
  pub place : ℕ
  pub stands : StandsAt members.loaded number place
  pub none : (by : ℕ) → ¬ IsUser (placed_modules members.loaded) (live_flags policy members) place by
