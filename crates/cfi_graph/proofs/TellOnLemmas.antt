-- What modules tell by other imports, and by other numbers of the same classes.
use Rattle.std.proofs.Common.{◌≡◌, ◌∙◌, ℕ, List, Some, inl, inr}
use Rattle.cfi_unit.specs.declared.unit.Unit.{Unit as CodeUnit}
use Rattle.cfi_unit.specs.declared.unit.Unit.TheVariants as units
use Rattle.cfi_aux.specs.declared.placed.Placed.{Placed}
use Rattle.cfi_aux.specs.declared.placed.PlacedFunction.{PlacedFunction}
use Rattle.cfi_aux.specs.declared.records.Kind.{Kind}
use Rattle.cfi_aux.specs.declared.records.Kind.TheVariants as kinds
use Rattle.cfi_graph.specs.declared.fact.Fact.{Fact}
use Rattle.cfi_graph.specs.declared.fact.Fact.TheVariants as facts
use Rattle.cfi_graph.specs.Calls.{HasKind}
use Rattle.cfi_graph.specs.Facts.{ByName, type_node, IsBranchFact, IsUnitFact, IsFunctionFact, ModuleTells}

-- where a name led it leads
abbrev pub LeadsOn : (old new : ByName) → (name : List ℕ) → Type 0
LeadsOn old new name = (address : ℕ) → old name ≡ Some address → new name ≡ Some address

-- the name that a branch imports leads where it led
abbrev pub KindLeadsOn : (old new : ByName) → Kind → Type 0
KindLeadsOn old new (kinds.Import name cell) = LeadsOn old new name
KindLeadsOn old new kind = Unit {0}

-- the names that the branches of the module import do
abbrev pub BranchesLeadOn : (old new : ByName) → Placed → Type 0
BranchesLeadOn old new m = (slot : ℕ) (kind : Kind) → HasKind m slot kind → KindLeadsOn old new kind

pub all_lead_on : (old new : ByName) → ((name : List ℕ) → LeadsOn old new name) → (m : Placed) → BranchesLeadOn old new m
all_lead_on old new on m slot (kinds.Import name cell) has = on name
all_lead_on old new on m slot (kinds.Call node) has = tt
all_lead_on old new on m slot (kinds.Tail node) has = tt
all_lead_on old new on m slot kinds.Return has = tt
all_lead_on old new on m slot (kinds.Switch entries) has = tt

-- what a check of an import tells has nothing to do with types
pub import_on : (old new : ByName) (classes more : List (List ℕ)) (number other : ℕ) (m : Placed) (at slot : ℕ)
    (name : List ℕ) (cell : ℕ) → LeadsOn old new name → (fact : Fact)
    → IsBranchFact old classes number m at slot (kinds.Import name cell) fact
    → IsBranchFact new more other m at slot (kinds.Import name cell) fact
import_on old new classes more number other m at slot name cell on (facts.Listed l) told = (told.0, on l.to told.1)
import_on old new classes more number other m at slot name cell on (facts.Arrow l) (lies, (address, there, word)) =
    (lies, (address, on address there, word))
import_on old new classes more number other m at slot name cell on (facts.Pointer l) told = told
import_on old new classes more number other m at slot name cell on (facts.Site l) told = told
import_on old new classes more number other m at slot name cell on (facts.Return l) told = told
import_on old new classes more number other m at slot name cell on (facts.Entry l) told = told

module _ (old new : ByName) (classes more : List (List ℕ)) (number : ℕ)
    (same : (node : ℕ) → type_node classes number node ≡ type_node more number node) where
  pub branch_on : (m : Placed) (at slot : ℕ) (kind : Kind) (fact : Fact) → KindLeadsOn old new kind
      → IsBranchFact old classes number m at slot kind fact → IsBranchFact new more number m at slot kind fact
  branch_on m at slot (kinds.Call node) (facts.Pointer l) on told = (told.0 ∙ same node, told.1)
  branch_on m at slot (kinds.Call node) (facts.Site l) on told = (told.0 ∙ same node, told.1)
  branch_on m at slot (kinds.Call node) (facts.Arrow l) on told = told
  branch_on m at slot (kinds.Call node) (facts.Return l) on told = told
  branch_on m at slot (kinds.Call node) (facts.Entry l) on told = told
  branch_on m at slot (kinds.Call node) (facts.Listed l) on told = told
  branch_on m at slot (kinds.Tail node) (facts.Pointer l) on told = (told.0 ∙ same node, told.1)
  branch_on m at slot (kinds.Tail node) (facts.Site l) on told = told
  branch_on m at slot (kinds.Tail node) (facts.Arrow l) on told = (told.0, told.1 ∙ same node)
  branch_on m at slot (kinds.Tail node) (facts.Return l) on told = told
  branch_on m at slot (kinds.Tail node) (facts.Entry l) on told = told
  branch_on m at slot (kinds.Tail node) (facts.Listed l) on told = told
  branch_on m at slot kinds.Return (facts.Pointer l) on told = told
  branch_on m at slot kinds.Return (facts.Site l) on told = told
  branch_on m at slot kinds.Return (facts.Arrow l) on told = told
  branch_on m at slot kinds.Return (facts.Return l) on told = told
  branch_on m at slot kinds.Return (facts.Entry l) on told = told
  branch_on m at slot kinds.Return (facts.Listed l) on told = told
  branch_on m at slot (kinds.Switch entries) (facts.Pointer l) on told = told
  branch_on m at slot (kinds.Switch entries) (facts.Site l) on told = told
  branch_on m at slot (kinds.Switch entries) (facts.Arrow l) on told = told
  branch_on m at slot (kinds.Switch entries) (facts.Return l) on told = told
  branch_on m at slot (kinds.Switch entries) (facts.Entry l) on told = told
  branch_on m at slot (kinds.Switch entries) (facts.Listed l) on told = told
  branch_on m at slot (kinds.Import name cell) fact on told =
      import_on old new classes more number number m at slot name cell on fact told

  unit_on : (m : Placed) → BranchesLeadOn old new m → (at : ℕ) (unit : CodeUnit) (fact : Fact)
      → IsUnitFact old classes number m at unit fact → IsUnitFact new more number m at unit fact
  unit_on m on at (units.Jump linked off) fact told = told
  unit_on m on at (units.Check linked rs1 imm slot) fact (kind, has, told) =
      (kind, has, branch_on m at slot kind fact (on slot kind has) told)
  unit_on m on at (units.Plain insn) fact told = told
  unit_on m on at (units.Load kind rd rs1 imm) fact told = told
  unit_on m on at (units.Store kind rs1 rs2 imm) fact told = told
  unit_on m on at (units.Branch cond rs1 rs2 off) fact told = told
  unit_on m on at units.Service fact told = told

  pub function_on : (m : Placed) (f : PlacedFunction) (fact : Fact) → IsFunctionFact classes number m f fact
      → IsFunctionFact more number m f fact
  function_on m f (facts.Arrow l) told = (told.0, told.1 ∙ same f.ty, told.2)
  function_on m f (facts.Entry l) told = (told.0, told.1 ∙ same f.ty, told.2)
  function_on m f (facts.Site l) told = told
  function_on m f (facts.Return l) told = told
  function_on m f (facts.Pointer l) told = told
  function_on m f (facts.Listed l) told = told

  pub module_on : (m : Placed) → BranchesLeadOn old new m → (fact : Fact)
      → ModuleTells old classes number m fact → ModuleTells new more number m fact
  module_on m on fact told =
      elim told [
        | inl u ↦
            inl (record { at = u.at; unit = u.unit; stands = u.stands; tells = unit_on m on u.at u.unit fact u.tells })
        | inr f ↦
            inr (record { function = f.function; has = f.has; tells = function_on m f.function fact f.tells })
      ]
