-- What the units and the functions of placed modules tell of where control may go. A node is what may be entered: a
-- function, told by the code word at which it begins, or all functions of one type, told by a number past those words.
use Rattle.std.specs.Prelude.{◌≡◌, ◌⊎◌, ◌↔◌, ℕ, ◌+◌, ◌*◌, ◌/◌, ◌<◌, Bool, true, false, ℤ, List, Option, slice_get, Some, IsTrue}
use Rattle.std.specs.List.{Contains}
use Rattle.cfi_unit.specs.declared.unit.Unit.{Unit as CodeUnit}
use Rattle.cfi_unit.specs.declared.unit.Unit.TheVariants as units
use Rattle.cfi_word.specs.declared.limits.TheConstants.{MAX_CODE_WORDS}
use Rattle.cfi_type_table.specs.Node.{node_of}
use Rattle.cfi_types.specs.Classes.{class_of}
use Rattle.cfi_fits.specs.Fits.{IsCallable}
use Rattle.cfi_aux.specs.declared.placed.Placed.{Placed}
use Rattle.cfi_aux.specs.declared.placed.PlacedFunction.{PlacedFunction}
use Rattle.cfi_aux.specs.declared.records.Kind.{Kind}
use Rattle.cfi_aux.specs.declared.records.Kind.TheVariants as kinds
use Rattle.cfi_graph.specs.declared.fact.Fact.{Fact}
use Rattle.cfi_graph.specs.declared.fact.Fact.TheVariants as facts
use Rattle.cfi_graph.specs.declared.fact.TheConstants.{CHECK_WORDS}
use Rattle.cfi_graph.specs.Code.{Stands, code_address, entry_of, Leads}
use Rattle.cfi_graph.specs.Calls.{HasKind}
use Rattle.cfi_graph.specs.Direct.{IsImportTarget}
use Rattle.cfi_aux.specs.Extent.{LiesIn}

-- the node of a type: its class, where modules are told by their numbers, from 0
abbrev pub type_node : (classes : List (List ℕ)) → (number node : ℕ) → ℕ
type_node classes number node = MAX_CODE_WORDS + class_of classes number node

-- the node of a function
abbrev pub function_node : Placed → PlacedFunction → ℕ
function_node m f = m.base + f.first

-- the offset leads from one code word to another
pub record LeadsToWord (at : ℕ) (off : ℤ) (word : ℕ) : Type 0 where
  pub leads : Leads (4 * at) off (4 * word)
  pub within : word < MAX_CODE_WORDS

-- the word lies in the function that begins there
pub record IsFirst (functions : List PlacedFunction) (at first : ℕ) : Type 0 where
  pub function : PlacedFunction
  pub has : Contains functions function
  pub lies : LiesIn function at
  pub is : first ≡ function.first

-- the word of the module lies in the function of the node
abbrev pub LiesInNode : Placed → (at node : ℕ) → Type 0
LiesInNode m at node = (first : ℕ) × IsFirst m.functions at first × (node ≡ m.base + first)

-- what a direct jump at a word of the module tells
abbrev pub IsJumpFact : Placed → (at : ℕ) → (link : Bool) → ℤ → Fact → Type 0
IsJumpFact m at true off (facts.Site l) = LeadsToWord (m.base + at) off l.from × (l.to ≡ code_address m (at + 1))
IsJumpFact m at false off (facts.Arrow l) = LiesInNode m at l.from × LeadsToWord (m.base + at) off l.to
IsJumpFact m at link off fact = ⊥

-- a branch lists an address, by its distance in bytes from the module's first word
abbrev pub listed_fact : (base slot entry : ℕ) → Fact
listed_fact base slot entry = facts.Listed (record { from = slot; to = 4 * base + entry })

-- where the imports of a name lead: the address of its function, if there is one
abbrev pub ByName : Type 0
ByName = (name : List ℕ) → Option ℕ

-- where the imports of modules lead
abbrev pub AreImports : List Placed → ByName → Type 0
AreImports ms imports = (name : List ℕ) (address : ℕ) → (imports name ≡ Some address) ↔ IsImportTarget ms name address

-- the code word of an address
abbrev pub word_of : (address : ℕ) → ℕ
word_of address = address / 4

-- what a check at a word of the module tells, by its branch's kind
abbrev pub IsBranchFact : ByName → (classes : List (List ℕ)) → (number : ℕ) → Placed → (at slot : ℕ) → Kind → Fact
    → Type 0
IsBranchFact imports classes number m at slot (kinds.Call node) (facts.Pointer l) =
    (l.from ≡ type_node classes number node) × (l.to ≡ slot)
IsBranchFact imports classes number m at slot (kinds.Call node) (facts.Site l) =
    (l.from ≡ type_node classes number node) × (l.to ≡ code_address m (at + CHECK_WORDS))
IsBranchFact imports classes number m at slot (kinds.Call node) fact = ⊥
IsBranchFact imports classes number m at slot (kinds.Tail node) (facts.Pointer l) =
    (l.from ≡ type_node classes number node) × (l.to ≡ slot)
IsBranchFact imports classes number m at slot (kinds.Tail node) (facts.Arrow l) =
    LiesInNode m at l.from × (l.to ≡ type_node classes number node)
IsBranchFact imports classes number m at slot (kinds.Tail node) fact = ⊥
IsBranchFact imports classes number m at slot kinds.Return (facts.Return l) = LiesInNode m at l.from × (l.to ≡ slot)
IsBranchFact imports classes number m at slot kinds.Return fact = ⊥
IsBranchFact imports classes number m at slot (kinds.Switch entries) (facts.Listed l) =
    (l.from ≡ slot) × ((entry : ℕ) × Contains entries entry × (l.to ≡ 4 * m.base + entry))
IsBranchFact imports classes number m at slot (kinds.Switch entries) fact = ⊥
IsBranchFact imports classes number m at slot (kinds.Import name cell) (facts.Listed l) =
    (l.from ≡ slot) × (imports name ≡ Some l.to)
IsBranchFact imports classes number m at slot (kinds.Import name cell) (facts.Arrow l) =
    LiesInNode m at l.from × ((address : ℕ) × (imports name ≡ Some address) × (l.to ≡ word_of address))
IsBranchFact imports classes number m at slot (kinds.Import name cell) fact = ⊥

-- what a unit at a word of the module tells
abbrev pub IsUnitFact : ByName → (classes : List (List ℕ)) → (number : ℕ) → Placed → (at : ℕ) → CodeUnit → Fact → Type 0
IsUnitFact imports classes number m at (units.Jump link off) fact = IsJumpFact m at link off fact
IsUnitFact imports classes number m at (units.Check link rs1 imm slot) fact =
    (kind : Kind) × HasKind m slot kind × IsBranchFact imports classes number m at slot kind fact
IsUnitFact imports classes number m at unit fact = ⊥

-- pointers may lead to the function: it is taken, and its type is a function's
pub record IsOpen (m : Placed) (f : PlacedFunction) : Type 0 where
  pub taken : IsTrue f.taken
  pub callable : IsCallable (node_of m.types f.ty).kind

-- what a function of the module tells
abbrev pub IsFunctionFact : (classes : List (List ℕ)) → (number : ℕ) → Placed → PlacedFunction → Fact → Type 0
IsFunctionFact classes number m f (facts.Arrow l) =
    IsOpen m f × (l.from ≡ type_node classes number f.ty) × (l.to ≡ function_node m f)
IsFunctionFact classes number m f (facts.Entry l) =
    IsOpen m f × (l.from ≡ type_node classes number f.ty) × (l.to ≡ entry_of m f)
IsFunctionFact classes number m f fact = ⊥

-- some unit of the module tells the fact
pub record UnitTells (imports : ByName) (classes : List (List ℕ)) (number : ℕ) (m : Placed) (fact : Fact) : Type 0 where
  pub at : ℕ
  pub unit : CodeUnit
  pub stands : Stands m at unit
  pub tells : IsUnitFact imports classes number m at unit fact

-- some function of the module tells it
pub record FunctionTells (classes : List (List ℕ)) (number : ℕ) (m : Placed) (fact : Fact) : Type 0 where
  pub function : PlacedFunction
  pub has : Contains m.functions function
  pub tells : IsFunctionFact classes number m function fact

-- the module tells it
abbrev pub ModuleTells : ByName → (classes : List (List ℕ)) → (number : ℕ) → Placed → Fact → Type 0
ModuleTells imports classes number m fact =
    UnitTells imports classes number m fact ⊎ FunctionTells classes number m fact

-- some of the modules tells it
pub record IsTold (ms : List Placed) (imports : ByName) (classes : List (List ℕ)) (fact : Fact) : Type 0 where
  pub number : ℕ
  pub owner : Placed
  pub is : slice_get ms number ≡ Some owner
  pub tells : ModuleTells imports classes number owner fact

-- these are the facts that the modules tell
pub record AreFacts (ms : List Placed) (imports : ByName) (classes : List (List ℕ)) (list : List Fact) : Type 0 where
  pub sound : (fact : Fact) → Contains list fact → IsTold ms imports classes fact
  pub whole : (fact : Fact) → IsTold ms imports classes fact → Contains list fact

-- the new list has the facts of the old one, and what is told
pub record Adds (old new : List Fact) (Tells : Fact → Type 0) : Type 0 where
  pub kept : (fact : Fact) → Contains old fact → Contains new fact
  pub whole : (fact : Fact) → Tells fact → Contains new fact
  pub only : (fact : Fact) → Contains new fact → Contains old fact ⊎ Tells fact
