-- What one module more tells behind others: its own facts, and those of checks of the others that import a name which
-- no function had before and one of its functions has. The facts of the others stay.
use Rattle.std.specs.Prelude.{◌≡◌, ◌⊎◌, ℕ, List, [], None, length}
use Rattle.std.specs.List.{Contains}
use Rattle.cfi_unit.specs.declared.unit.Unit.{Unit as CodeUnit}
use Rattle.cfi_unit.specs.declared.unit.Unit.TheVariants as units
use Rattle.cfi_aux.specs.declared.placed.Placed.{Placed}
use Rattle.cfi_aux.specs.declared.records.Kind.{Kind}
use Rattle.cfi_aux.specs.declared.records.Kind.TheVariants as kinds
use Rattle.cfi_graph.specs.declared.fact.Fact.{Fact}
use Rattle.cfi_graph.specs.Code.{Stands}
use Rattle.cfi_graph.specs.Calls.{HasKind}
use Rattle.cfi_graph.specs.Facts.{ByName, IsBranchFact, ModuleTells}

-- what a branch tells that imports a name which led nowhere before; no type has to do with it
abbrev pub IsMetBranch : (before own : ByName) → Placed → (at slot : ℕ) → Kind → Fact → Type 0
IsMetBranch before own m at slot (kinds.Import name cell) fact =
    (before name ≡ None) × IsBranchFact own [] 0 m at slot (kinds.Import name cell) fact
IsMetBranch before own m at slot (kinds.Call node) fact = ⊥
IsMetBranch before own m at slot (kinds.Tail node) fact = ⊥
IsMetBranch before own m at slot kinds.Return fact = ⊥
IsMetBranch before own m at slot (kinds.Switch entries) fact = ⊥

-- what a unit at a word of the module tells so
abbrev pub IsMetFact : (before own : ByName) → Placed → (at : ℕ) → CodeUnit → Fact → Type 0
IsMetFact before own m at (units.Check link rs1 imm slot) fact =
    (kind : Kind) × HasKind m slot kind × IsMetBranch before own m at slot kind fact
IsMetFact before own m at unit fact = ⊥

-- some unit of the module tells such a fact
pub record MeetsOwn (before own : ByName) (m : Placed) (fact : Fact) : Type 0 where
  pub at : ℕ
  pub unit : CodeUnit
  pub stands : Stands m at unit
  pub tells : IsMetFact before own m at unit fact

-- some unit of some of the modules does
pub record OneMeetsOwn (ms : List Placed) (before own : ByName) (fact : Fact) : Type 0 where
  pub owner : Placed
  pub placed : Contains ms owner
  pub meets : MeetsOwn before own owner fact

-- what one module more tells, by where the imports of those before it, of its own functions and of all lead
abbrev pub IsMoreFact : (before own all : ByName) → (ms : List Placed) → Placed → (classes : List (List ℕ)) → Fact → Type 0
IsMoreFact before own all ms m classes fact =
    OneMeetsOwn ms before own fact ⊎ ModuleTells all classes (length ms) m fact
