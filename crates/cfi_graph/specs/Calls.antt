-- Calls and tail calls of placed modules (MCFI, Niu and Tan, PLDI 2014: an indirect call through a pointer may reach
-- each function whose address is taken and whose type fits the pointer's). A branch of kind Import may reach the one
-- function that its name means, as a symbol is looked up in objects one after the other (System V ABI, 5, shared object
-- dependencies: the first that has it).
-- A function is told by its module and its record there, a branch by its module and its slot.
use Rattle.std.specs.Prelude.{◌≡◌, ℕ, zero, suc, ◌+◌, ◌<◌, true, false, List, slice_get, Some, IsTrue}
use Rattle.std.specs.List.{Contains}
use Rattle.cfi_unit.specs.declared.unit.Unit.{Unit as CodeUnit}
use Rattle.cfi_unit.specs.declared.unit.Unit.TheVariants as units
use Rattle.cfi_unit.specs.Unit.{size_of}
use Rattle.cfi_fits.specs.Fits.{Fits}
use Rattle.cfi_aux.specs.declared.placed.Placed.{Placed}
use Rattle.cfi_aux.specs.declared.placed.PlacedFunction.{PlacedFunction}
use Rattle.cfi_aux.specs.declared.records.Kind.{Kind}
use Rattle.cfi_aux.specs.declared.records.Kind.TheVariants.{Call, Tail, Import}
use Rattle.cfi_graph.specs.Code.{Stands, code_address, entry_of, Leads}
use Rattle.cfi_aux.specs.Extent.{LiesIn}

-- the module's branch of the slot is of the kind
abbrev pub HasKind : Placed → (slot : ℕ) → Kind → Type 0
HasKind m slot kind = (number : ℕ) × (slot ≡ m.slot_base + number) × (slice_get m.branches number ≡ Some kind)

-- f is a function of n, one of the modules
pub record IsFunction (ms : List Placed) (n : Placed) (f : PlacedFunction) : Type 0 where
  pub placed : Contains ms n
  pub function : Contains n.functions f

-- a pointer to the type of a node of m may lead to f of n
pub record MayPoint (m : Placed) (node : ℕ) (n : Placed) (f : PlacedFunction) : Type 0 where
  pub taken : IsTrue f.taken
  pub fits : Fits m.types node n.types f.ty

-- the function is global and has the name
pub record IsGlobalNamed (name : List ℕ) (f : PlacedFunction) : Type 0 where
  pub global : IsTrue f.global
  pub named : f.name ≡ name

-- f of n is the first global function of the name in the first of the modules that has one
pub record IsImported (ms : List Placed) (name : List ℕ) (n : Placed) (f : PlacedFunction) : Type 0 where
  pub number : ℕ
  pub is : slice_get ms number ≡ Some n
  pub place : ℕ
  pub has : slice_get n.functions place ≡ Some f
  pub global : IsGlobalNamed name f
  pub first : (k : ℕ) (g : PlacedFunction) → k < place → slice_get n.functions k ≡ Some g → IsGlobalNamed name g → ⊥
  pub earliest : (k : ℕ) (o : Placed) (g : PlacedFunction) → k < number → slice_get ms k ≡ Some o
      → Contains o.functions g → IsGlobalNamed name g → ⊥

-- the unit at a word of m is a call that may enter f of n: a jump that links, or a branch of kind Call
abbrev pub IsCall : (m : Placed) (at : ℕ) → CodeUnit → (n : Placed) → PlacedFunction → Type 0
IsCall m at (units.Jump true off) n f = Leads (code_address m at) off (entry_of n f)
IsCall m at (units.Check link rs1 imm slot) n f = (node : ℕ) × HasKind m slot (Call node) × MayPoint m node n f
IsCall m at unit n f = ⊥

-- a branch of m of the kind may enter f of n without a call: through a pointer, or by its name
abbrev pub MayTail : (ms : List Placed) (m : Placed) → Kind → (n : Placed) → PlacedFunction → Type 0
MayTail ms m (Tail node) n f = MayPoint m node n f
MayTail ms m (Import name cell) n f = IsImported ms name n f
MayTail ms m kind n f = ⊥

-- the unit at a word of m is a tail call of f of n: a jump that does not link, or a branch of kind Tail or Import
abbrev pub IsTailCall : (ms : List Placed) (m : Placed) (at : ℕ) → CodeUnit → (n : Placed) → PlacedFunction → Type 0
IsTailCall ms m at (units.Jump false off) n f = Leads (code_address m at) off (entry_of n f)
IsTailCall ms m at (units.Check link rs1 imm slot) n f = (kind : Kind) × HasKind m slot kind × MayTail ms m kind n f
IsTailCall ms m at unit n f = ⊥

-- some call of the modules may enter f of n, and the address after it is this one
pub record ReturnsTo (ms : List Placed) (n : Placed) (f : PlacedFunction) (address : ℕ) : Type 0 where
  pub caller : Placed
  pub placed : Contains ms caller
  pub at : ℕ
  pub unit : CodeUnit
  pub stands : Stands caller at unit
  pub call : IsCall caller at unit n f
  pub after : address ≡ code_address caller (at + size_of unit)

-- f of m tail calls g of n, of the modules
pub record TailCalls (ms : List Placed) (m : Placed) (f : PlacedFunction) (n : Placed) (g : PlacedFunction)
    : Type 0 where
  pub at : ℕ
  pub lies : LiesIn f at
  pub unit : CodeUnit
  pub stands : Stands m at unit
  pub call : IsTailCall ms m at unit n g

-- g of n is reached from f of m along so many tail calls
abbrev pub IsReached : (ms : List Placed) → (steps : ℕ) → (m : Placed) → PlacedFunction
    → (n : Placed) → PlacedFunction → Type 0
IsReached ms zero m f n g = (m ≡ n) × (f ≡ g)
IsReached ms (suc steps) m f n g =
    (o : Placed) × (h : PlacedFunction) × IsFunction ms o h × TailCalls ms m f o h × IsReached ms steps o h n g
