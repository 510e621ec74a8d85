-- Where control enters modules by name: the address of a Global function, the first in the order of the modules and of
-- their records.
use Rattle.std.specs.Prelude.{◌≡◌, ℕ, ◌<◌, ◌^◌, true, List, slice_get, Some, All}
use Rattle.cfi_aux.specs.declared.placed.Placed.{Placed}
use Rattle.cfi_aux.specs.declared.placed.PlacedFunction.{PlacedFunction}
use Rattle.cfi_graph.specs.Code.{entry_of}

-- the function is Global
abbrev pub IsGlobal : PlacedFunction → Type 0
IsGlobal f = f.global ≡ true

-- and has this name
abbrev pub IsGlobalOf : (name : List ℕ) → PlacedFunction → Type 0
IsGlobalOf name f = IsGlobal f × (f.name ≡ name)

-- the address is that of the module's first function of which P holds
pub record IsFirstOf (P : PlacedFunction → Type 0) (m : Placed) (address : ℕ) : Type 0 where
  pub number : ℕ
  pub function : PlacedFunction
  pub is : slice_get m.functions number ≡ Some function
  pub holds : P function
  pub first : (k : ℕ) (g : PlacedFunction) → k < number → slice_get m.functions k ≡ Some g → ¬ P g
  pub here : address ≡ entry_of m function

-- the module has no function of which P holds
abbrev pub HasNoneOf : (P : PlacedFunction → Type 0) → Placed → Type 0
HasNoneOf P m = (k : ℕ) (g : PlacedFunction) → slice_get m.functions k ≡ Some g → ¬ P g

-- the address is that of the Global function of this name in the first of the modules that has one
pub record IsEntryIn (ms : List Placed) (name : List ℕ) (address : ℕ) : Type 0 where
  pub number : ℕ
  pub owner : Placed
  pub is : slice_get ms number ≡ Some owner
  pub entry : IsFirstOf (IsGlobalOf name) owner address
  pub first : (k : ℕ) (n : Placed) → k < number → slice_get ms k ≡ Some n → HasNoneOf (IsGlobalOf name) n

-- the module's functions have addresses of 32 bits
abbrev pub HasAddresses : Placed → Type 0
HasAddresses m = All (λ f. entry_of m f < 2 ^ 32) m.functions
