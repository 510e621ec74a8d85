-- Where the guests of a plan begin, by the names of their entries.
use Rattle.std.specs.Prelude.{◌≡◌, ℕ, ◌*◌, Bool, true, false, List}
use Rattle.cfi_aux.specs.declared.placed.Placed.{Placed}
use Rattle.cfi_plan.specs.declared.plan.Plan.{Plan}
use Rattle.cfi_modules.specs.Entry.{IsEntryIn}
use Rattle.cfi_valid.specs.Bare.{is_bare_plan}
use Rattle.cfi_valid.specs.Loaded.{LoadedModule, placed_modules, loaded_by}
use Rattle.cfi_word.specs.declared.map.TheConstants.{FIRST_BASE}

-- the guest of a bare file begins at its first word, each other at the Global function of the entry's name in the
-- first start module that has one
abbrev pub EntersBy : (bare : Bool) → (starts : List Placed) → (entry : List ℕ) → (address : ℕ) → Type 0
EntersBy true starts entry address = address ≡ 4 * FIRST_BASE
EntersBy false starts entry address = IsEntryIn starts entry address

-- where a guest with this entry begins among the start modules
abbrev pub EntersIn : Plan → (starts : List Placed) → (entry : List ℕ) → (address : ℕ) → Type 0
EntersIn plan starts entry address = EntersBy (is_bare_plan plan) starts entry address

-- a guest of this entry has an address to begin at
abbrev pub Enters : Plan → (starts : List Placed) → (entry : List ℕ) → Type 0
Enters plan starts entry = (address : ℕ) × EntersIn plan starts entry address

-- the same, where the start modules are those of the loaded ones
abbrev pub EntersAt : (bare : Bool) → List LoadedModule → (entry : List ℕ) → (address : ℕ) → Type 0
EntersAt bare loaded entry address = EntersBy bare (placed_modules (loaded_by 0 loaded)) entry address

-- the same among the loaded modules
abbrev pub GuestBegins : Plan → List LoadedModule → (entry : List ℕ) → (address : ℕ) → Type 0
GuestBegins plan loaded entry address = EntersAt (is_bare_plan plan) loaded entry address

-- it begins somewhere
abbrev pub HasEntry : Plan → List LoadedModule → (entry : List ℕ) → Type 0
HasEntry plan loaded entry = (address : ℕ) × GuestBegins plan loaded entry address
