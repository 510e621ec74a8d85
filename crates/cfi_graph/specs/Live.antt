-- The modules of a list that are live, and those that jump into one of the list. A list of flags as long as the list of
-- modules tells by number, from 0, which are live.
use Rattle.std.specs.Prelude.{◌≡◌, ◌≢◌, ℕ, ◌<◌, Bool, true, List, zip, map, filter, length, slice_get, Some}
use Rattle.cfi_unit.specs.declared.unit.Unit.{Unit as CodeUnit}
use Rattle.cfi_unit.specs.declared.unit.Unit.TheVariants as units
use Rattle.cfi_aux.specs.declared.placed.Placed.{Placed}
use Rattle.cfi_graph.specs.Code.{Stands, code_address, Leads}

-- the live ones of the modules, in order
abbrev pub live_of : List Placed → (live : List Bool) → List Placed
live_of ms live = map (λ p. p.0) (filter (λ p. p.1) (zip ms live))

-- the unit at a word of m is a direct jump to a word of n
abbrev pub IsJumpInto : (m : Placed) (at : ℕ) → CodeUnit → (n : Placed) → Type 0
IsJumpInto m at (units.Jump link off) n =
    (word : ℕ) × (word < length n.words) × Leads (code_address m at) off (code_address n word)
IsJumpInto m at unit n = ⊥

-- a direct jump of m leads to a word of n
pub record JumpsInto (m n : Placed) : Type 0 where
  pub at : ℕ
  pub unit : CodeUnit
  pub stands : Stands m at unit
  pub jumps : IsJumpInto m at unit n

-- the module of a number is a user of the one of the number `target`: another live module that jumps into it
pub record IsUser (ms : List Placed) (live : List Bool) (target number : ℕ) : Type 0 where
  pub other : number ≢ target
  pub lives : slice_get live number ≡ Some true
  pub user : Placed
  pub is : slice_get ms number ≡ Some user
  pub used : Placed
  pub target_is : slice_get ms target ≡ Some used
  pub jumps : JumpsInto user used

-- no module before the number is a user of the target
abbrev pub HasNoUserBelow : (ms : List Placed) (live : List Bool) (target number : ℕ) → Type 0
HasNoUserBelow ms live target number = (k : ℕ) → k < number → IsUser ms live target k → ⊥

-- it is the first user of the target
pub record IsFirstUser (ms : List Placed) (live : List Bool) (target number : ℕ) : Type 0 where
  pub is : IsUser ms live target number
  pub first : HasNoUserBelow ms live target number
