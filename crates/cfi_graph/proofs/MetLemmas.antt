-- What imports tell that one module more meets.
use Rattle.std.proofs.Common.{◌≡◌, ◌∙◌, ℕ, ◌<◌, Bool, ℤ, List, [], length, get_or, None, Some, refl, sym, subst}
use Rattle.std.specs.Prelude.{slice_get}
use Rattle.std.proofs.lemmas.Option.{same_Some, slice_get_within, slice_get-get_or}
use Rattle.cfi_unit.specs.declared.unit.Unit.{Unit as CodeUnit}
use Rattle.cfi_unit.specs.declared.unit.Unit.TheVariants as units
use Rattle.cfi_aux.specs.declared.placed.Placed.{Placed}
use Rattle.cfi_aux.specs.declared.records.Kind.{Kind}
use Rattle.cfi_aux.specs.declared.records.Kind.TheVariants as kinds
use Rattle.cfi_graph.specs.declared.fact.Fact.{Fact}
use Rattle.cfi_graph.specs.Calls.{HasKind}
use Rattle.cfi_graph.specs.Facts.{ByName, IsBranchFact, Adds}
use Rattle.cfi_graph.specs.More.{IsMetBranch, IsMetFact, MeetsOwn, OneMeetsOwn}
use Rattle.cfi_graph.proofs.AddsLemmas.{TellsBelow, adds_as}
use Rattle.cfi_graph.proofs.BoundLemmas.{contains_at, at_contains}
use Rattle.cfi_graph.proofs.BranchLemmas.{kind_one}
use Rattle.cfi_graph.proofs.FactLemmas.{no_import}
use Rattle.cfi_graph.proofs.TellLemmas.{SomeTells}

pub met_units : (before own : ByName) (m : Placed) (old new : List Fact)
    → Adds old new (SomeTells m (IsMetFact before own m)) → Adds old new (MeetsOwn before own m)
met_units before own m old new a =
    adds_as old new (SomeTells m (IsMetFact before own m)) (MeetsOwn before own m) a
    (λ fact told. record { at = told.0; unit = told.1; stands = told.2; tells = told.3 })
    (λ fact t. (t.at, t.unit, t.stands, t.tells))

-- what a branch of the kind tells is what the import tells
pub met_adds : (before own : ByName) (m : Placed) (at slot : ℕ) (name : List ℕ) (cell : ℕ) (kind : Kind)
    → kind ≡ kinds.Import name cell → before name ≡ None → (old new : List Fact)
    → Adds old new (IsBranchFact own [] 0 m at slot (kinds.Import name cell))
    → Adds old new (IsMetBranch before own m at slot kind)
met_adds before own m at slot name cell kind is none old new a =
    subst (λ k. Adds old new (IsMetBranch before own m at slot k)) (sym is)
    (adds_as old new (IsBranchFact own [] 0 m at slot (kinds.Import name cell))
    (IsMetBranch before own m at slot (kinds.Import name cell)) a (λ fact told. (none, told)) (λ fact met. met.1))

module _ (before own : ByName) (m : Placed) (at slot : ℕ) (linked : Bool) (rs1 : ℕ) (imm : ℤ) (unit : CodeUnit)
    (is : unit ≡ units.Check linked rs1 imm slot) where
  -- a check without a branch tells nothing
  pub no_kind_met : ((kind : Kind) → HasKind m slot kind → ⊥) → (fact : Fact) → IsMetFact before own m at unit fact → ⊥
  no_kind_met none fact met =
      let told = subst (λ u. IsMetFact before own m at u fact) is met in
      none told.0 told.1

  -- what a check tells is what its branch tells
  pub check_met : (kind : Kind) → HasKind m slot kind → (old new : List Fact)
      → Adds old new (IsMetBranch before own m at slot kind) → Adds old new (IsMetFact before own m at unit)
  check_met kind has old new a =
      subst (λ u. Adds old new (IsMetFact before own m at u)) (sym is)
      (adds_as old new (IsMetBranch before own m at slot kind)
      (IsMetFact before own m at (units.Check linked rs1 imm slot)) a (λ fact met. (kind, has, met))
      (λ fact told.
      subst (λ k. IsMetBranch before own m at slot k fact) (kind_one m slot told.0 kind told.1 has) told.2))

-- ---- where none is met

-- the name that a branch imports leads somewhere, or own functions do not have it
abbrev pub IsUnmet : (before own : ByName) → Kind → Type 0
IsUnmet before own kind = (name : List ℕ) (cell : ℕ) → kind ≡ kinds.Import name cell → before name ≡ None → own name ≡ None

unmet_branch : (before own : ByName) (m : Placed) (at slot : ℕ) (kind : Kind) → IsUnmet before own kind → (fact : Fact)
    → IsMetBranch before own m at slot kind fact → ⊥
unmet_branch before own m at slot (kinds.Import name cell) unmet fact (none, told) =
    no_import m at own [] 0 slot cell name (unmet name cell refl none) fact told
unmet_branch before own m at slot (kinds.Call node) unmet fact met = met
unmet_branch before own m at slot (kinds.Tail node) unmet fact met = met
unmet_branch before own m at slot kinds.Return unmet fact met = met
unmet_branch before own m at slot (kinds.Switch entries) unmet fact met = met

module _ (before own : ByName) (m : Placed) where
  unmet_unit : ((slot : ℕ) (kind : Kind) → HasKind m slot kind → IsUnmet before own kind) → (at : ℕ) (unit : CodeUnit)
      (fact : Fact) → IsMetFact before own m at unit fact → ⊥
  unmet_unit unmet at (units.Check linked rs1 imm slot) fact (kind, has, met) =
      unmet_branch before own m at slot kind (unmet slot kind has) fact met
  unmet_unit unmet at (units.Jump linked off) fact met = met
  unmet_unit unmet at (units.Plain insn) fact met = met
  unmet_unit unmet at (units.Load kind rd rs1 imm) fact met = met
  unmet_unit unmet at (units.Store kind rs1 rs2 imm) fact met = met
  unmet_unit unmet at (units.Branch cond rs1 rs2 off) fact met = met
  unmet_unit unmet at units.Service fact met = met

  -- where no branch is met no unit is
  pub none_met : ((k : ℕ) (d : Kind) → k < length m.branches → IsUnmet before own (get_or m.branches k d)) → (fact : Fact)
      → MeetsOwn before own m fact → ⊥
  none_met unmet fact t =
      unmet_unit (λ slot kind has.
      let within = slice_get_within m.branches has.0 kind has.2 in
      let same : get_or m.branches has.0 kind ≡ kind =
      same_Some (get_or m.branches has.0 kind) kind (sym (slice_get-get_or m.branches has.0 kind within) ∙ has.2) in
      subst (IsUnmet before own) same (unmet has.0 kind within)) t.at t.unit fact t.tells

-- ---- modules

-- the module of a number tells so
abbrev pub NumberMeets : (before own : ByName) → List Placed → ℕ → Fact → Type 0
NumberMeets before own ms number fact = (m : Placed) × (slice_get ms number ≡ Some m) × MeetsOwn before own m fact

pub number_meets : (before own : ByName) (ms : List Placed) (number : ℕ) (m : Placed) → slice_get ms number ≡ Some m
    → (old new : List Fact) → Adds old new (MeetsOwn before own m) → Adds old new (NumberMeets before own ms number)
number_meets before own ms number m is old new a =
    adds_as old new (MeetsOwn before own m) (NumberMeets before own ms number) a (λ fact told. (m, is, told))
    (λ fact told.
    let same : told.0 ≡ m = same_Some told.0 m (sym told.1 ∙ is) in
    subst (λ n. MeetsOwn before own n fact) same told.2)

pub modules_meet : (before own : ByName) (ms : List Placed) (old new : List Fact)
    → Adds old new (TellsBelow (length ms) (NumberMeets before own ms)) → Adds old new (OneMeetsOwn ms before own)
modules_meet before own ms old new a =
    adds_as old new (TellsBelow (length ms) (NumberMeets before own ms)) (OneMeetsOwn ms before own) a
    (λ fact told. record { owner = told.2.0; placed = contains_at ms told.0 told.2.0 told.2.1; meets = told.2.2 })
    (λ fact t. (t.placed.0, t.placed.1, (t.owner, at_contains ms t.owner t.placed, t.meets)))
