-- Shaped modules: what a graph takes for granted of modules at their places. Verified modules are shaped.
use Rattle.std.specs.Prelude.{◌≡◌, ℕ, ◌+◌, ◌*◌, ◌≤◌, ◌<◌, Option, Some, None, List, length, slice_get, All, ⊤}
use Rattle.std.specs.List.{filter_map, AllPairs}
use Rattle.cfi_unit.specs.declared.unit.Unit.{Unit as CodeUnit}
use Rattle.cfi_unit.specs.declared.unit.Unit.TheVariants as units
use Rattle.cfi_unit.specs.Code.{UnitCode}
use Rattle.cfi_word.specs.declared.map.TheConstants.{FIRST_BASE}
use Rattle.cfi_word.specs.declared.limits.TheConstants.{MAX_CODE_WORDS}
use Rattle.cfi_aux.specs.declared.placed.Placed.{Placed}
use Rattle.cfi_aux.specs.declared.placed.PlacedFunction.{PlacedFunction}
use Rattle.cfi_aux.specs.declared.records.Kind.{Kind}
use Rattle.cfi_aux.specs.declared.records.Kind.TheVariants.{Call, Tail, Return, Switch, Import}
use Rattle.cfi_unit.specs.Spots.{place_of, IsOneOf}

-- the slot of a check
abbrev pub slot_of : CodeUnit → Option ℕ
slot_of (units.Check link rs1 imm slot) = Some slot
slot_of unit = None

-- the slots of the checks, in the order of the code
abbrev pub slots_of : List CodeUnit → List ℕ
slots_of code = filter_map slot_of code

-- the function is some units of the code, at least one
pub record IsPart (code : List CodeUnit) (f : PlacedFunction) : Type 0 where
  pub from : ℕ
  pub to : ℕ
  pub some : from < to
  pub within : to ≤ length code
  pub begins : f.first ≡ place_of code from
  pub ends : f.first + f.count ≡ place_of code to

-- a function ends before another begins
abbrev pub FunctionPrecedes : (f g : PlacedFunction) → Type 0
FunctionPrecedes f g = f.first + f.count ≤ g.first

-- the offset in bytes is that of a unit
abbrev pub IsUnitPlace : List CodeUnit → (offset : ℕ) → Type 0
IsUnitPlace code offset = IsOneOf (length code) (λ number. 4 * place_of code number) offset

-- a branch names a node of the types, or units of the code
abbrev pub IsNamed : (code : List CodeUnit) → (types : ℕ) → Kind → Type 0
IsNamed code types (Call node) = node < types
IsNamed code types (Tail node) = node < types
IsNamed code types Return = ⊤
IsNamed code types (Switch entries) = All (IsUnitPlace code) entries
IsNamed code types (Import name cell) = ⊤

-- the module, whose words are the code of these units, is shaped
pub record IsShapedAs (m : Placed) (code : List CodeUnit) : Type 0 where
  pub units : UnitCode m.words code
  pub parts : All (IsPart code) m.functions
  pub order : AllPairs FunctionPrecedes m.functions
  pub checks : length (slots_of code) ≡ length m.branches
  pub slots : (k : ℕ) → k < length m.branches → slice_get (slots_of code) k ≡ Some (m.slot_base + k)
  pub named : All (IsNamed code (length m.types)) m.branches
  pub typed : All (λ f. f.ty < length m.types) m.functions
  pub begins : FIRST_BASE ≤ m.base
  pub ends : m.base + length m.words ≤ MAX_CODE_WORDS

-- a module is shaped: its words are units, its functions are some of them each, in order; its k-th check is its k-th
-- branch, and there is no other; functions and branches name nodes and units; and it lies in the code
abbrev pub IsShaped : Placed → Type 0
IsShaped m = (code : List CodeUnit) × IsShapedAs m code

-- a module ends, in words and in slots, before another begins
pub record IsBefore (m n : Placed) : Type 0 where
  pub words : m.base + length m.words ≤ n.base
  pub slots : m.slot_base + length m.branches ≤ n.slot_base

-- shaped modules in the order of their places, which may leave words and slots between them
pub record AreApart (ms : List Placed) : Type 0 where
  pub shaped : All IsShaped ms
  pub order : AllPairs IsBefore ms

-- a module begins, in words and in slots, where another ends
pub record Follows (m n : Placed) : Type 0 where
  pub words : n.base ≡ m.base + length m.words
  pub slots : n.slot_base ≡ m.slot_base + length m.branches

-- shaped modules, each of which follows the one before
pub record AreShaped (ms : List Placed) : Type 0 where
  pub shaped : All IsShaped ms
  pub order : (k : ℕ) (m n : Placed) → slice_get ms k ≡ Some m → slice_get ms (k + 1) ≡ Some n → Follows m n
