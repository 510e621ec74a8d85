-- Which faults a verifier can find in a module that was instrumented, once it is placed: none but jumps that lead
-- elsewhere. Where a jump leads to another module is known only where both are placed.
use Rattle.std.specs.Prelude.{◌≡◌, ℕ, ◌≤◌, List, length, All, IsTrue, ⊤}
use Rattle.cfi_type_table.specs.Node.{Node}
use Rattle.cfi_type_table.specs.Kind.{is_callable}
use Rattle.cfi_aux.specs.declared.modules.Module.{Module}
use Rattle.cfi_aux.specs.declared.placed.Placed.{Placed}
use Rattle.cfi_aux.specs.declared.records.Kind.{Kind}
use Rattle.cfi_aux.specs.declared.records.Kind.TheVariants.{Call, Tail, Return, Switch, Import}
use Rattle.cfi_instr.specs.Output.{IsInstrumented}
use Rattle.cfi_place.specs.declared.room.Room.{Room}
use Rattle.cfi_place.specs.Names.{Names}
use Rattle.cfi_place.specs.Placed.{IsRoom, IsPlaced}
use Rattle.cfi_verify.specs.declared.fault.VerifyFault.{VerifyFault}
use Rattle.cfi_verify.specs.declared.fault.VerifyFault.TheVariants.{Target}
use Rattle.cfi_verify.specs.Fault.{FaultStands}

-- the node that a branch names is the type of a function
abbrev pub NamesCallable : (types : List Node) → Kind → Type 0
NamesCallable types (Call node) = IsTrue (is_callable types node)
NamesCallable types (Tail node) = IsTrue (is_callable types node)
NamesCallable types Return = ⊤
NamesCallable types (Switch entries) = ⊤
NamesCallable types (Import name cell) = ⊤

-- the nodes of functions and of branches are types of functions
pub record IsTyped (m : Module) : Type 0 where
  pub functions : All (λ f. IsTrue (is_callable m.types f.ty)) m.records.functions
  pub branches : All (NamesCallable m.types) m.records.branches

-- a module with types of functions was made by instrumenting another, which has a word of text, and is placed in a room
pub record IsMadeAt (source m : Module) (room : Room) (names : Names) (placed : Placed) : Type 0 where
  pub made : IsInstrumented source m
  pub some : 4 ≤ length source.object.text
  pub typed : IsTyped m
  pub fits : IsRoom room
  pub stands : IsPlaced m room names placed

-- the fault is that of a jump that leads elsewhere
abbrev pub IsTargetFault : VerifyFault → Type 0
IsTargetFault fault = (o : ℕ) × (fault ≡ Target o)

-- each fault of a module is such a one
abbrev pub IsProper : (m : Placed) → (loaded : List Placed) → Type 0
IsProper m loaded = (fault : VerifyFault) → FaultStands m loaded fault → IsTargetFault fault
