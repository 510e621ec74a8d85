-- Direct edges of placed modules, and the policy that they make (MCFI, Niu and Tan, PLDI 2014: the control-flow graph
-- of all modules together). An edge goes from a branch, told by its slot, to a code address.
use Rattle.std.specs.Prelude.{◌≡◌, ℕ, ◌+◌, ◌*◌, Bool, ℤ, List}
use Rattle.std.specs.List.{Contains}
use Rattle.cfi_unit.specs.declared.unit.Unit.TheVariants as units
use Rattle.cfi_word.specs.Chain.{Chain}
use Rattle.cfi_aux.specs.declared.placed.Placed.{Placed}
use Rattle.cfi_aux.specs.declared.placed.PlacedFunction.{PlacedFunction}
use Rattle.cfi_aux.specs.declared.records.Kind.{Kind}
use Rattle.cfi_aux.specs.declared.records.Kind.TheVariants.{Call, Tail, Return, Switch, Import}
use Rattle.cfi_graph.specs.Code.{Stands, entry_of}
use Rattle.cfi_graph.specs.Calls.{HasKind, IsFunction, MayPoint, IsImported, ReturnsTo, IsReached}
use Rattle.cfi_aux.specs.Extent.{LiesIn}

-- the address is that of a function to which a pointer to the type of a node of m may lead
pub record IsPointee (ms : List Placed) (m : Placed) (node : ℕ) (address : ℕ) : Type 0 where
  pub owner : Placed
  pub function : PlacedFunction
  pub is : IsFunction ms owner function
  pub may : MayPoint m node owner function
  pub entry : address ≡ entry_of owner function

-- the return at a word of m may go to the address: it is the one after a call that may enter a function from which the
-- return's function is reached along tail calls, if any
pub record IsReturnTarget (ms : List Placed) (m : Placed) (at : ℕ) (address : ℕ) : Type 0 where
  pub returning : PlacedFunction
  pub has : Contains m.functions returning
  pub lies : LiesIn returning at
  pub owner : Placed
  pub entered : PlacedFunction
  pub is : IsFunction ms owner entered
  pub steps : ℕ
  pub reached : IsReached ms steps owner entered m returning
  pub returns : ReturnsTo ms owner entered address

-- the address is that of the function that a name means to the modules that import it
pub record IsImportTarget (ms : List Placed) (name : List ℕ) (address : ℕ) : Type 0 where
  pub owner : Placed
  pub function : PlacedFunction
  pub is : IsImported ms name owner function
  pub entry : address ≡ entry_of owner function

-- the branch of the kind, at a word of m, may go to the address
abbrev pub GoesTo : (ms : List Placed) (m : Placed) (at : ℕ) → Kind → (address : ℕ) → Type 0
GoesTo ms m at (Call node) address = IsPointee ms m node address
GoesTo ms m at (Tail node) address = IsPointee ms m node address
GoesTo ms m at Return address = IsReturnTarget ms m at address
GoesTo ms m at (Switch entries) address = (entry : ℕ) × Contains entries entry × (address ≡ 4 * m.base + entry)
GoesTo ms m at (Import name cell) address = IsImportTarget ms name address

-- a direct edge of the modules
pub record DirectEdge (ms : List Placed) (slot address : ℕ) : Type 0 where
  pub owner : Placed
  pub placed : Contains ms owner
  pub at : ℕ
  pub link : Bool
  pub rs1 : ℕ
  pub imm : ℤ
  pub stands : Stands owner at (units.Check link rs1 imm slot)
  pub kind : Kind
  pub has : HasKind owner slot kind
  pub goes : GoesTo ms owner at kind address

-- the policy of the modules: a chain of direct edges leads from the slot to the address
abbrev pub Allowed : (ms : List Placed) → (slot address : ℕ) → Type 0
Allowed ms slot address = Chain (DirectEdge ms) slot address
