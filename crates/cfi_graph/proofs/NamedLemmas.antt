-- What modules tell where imports are known of some names alone: of those that branches import.
use Rattle.std.proofs.Common.{◌≡◌, ◌∙◌, ℕ, List, IsTrue, inl, inr, sym, refl, []}
use Rattle.std.specs.List.{Contains}
use Rattle.cfi_unit.specs.declared.unit.Unit.{Unit as CodeUnit}
use Rattle.cfi_unit.specs.declared.unit.Unit.TheVariants as units
use Rattle.cfi_aux.specs.declared.placed.Placed.{Placed}
use Rattle.cfi_aux.specs.declared.records.Kind.{Kind}
use Rattle.cfi_aux.specs.declared.records.Kind.TheVariants as kinds
use Rattle.cfi_graph.specs.declared.fact.Fact.{Fact}
use Rattle.cfi_graph.specs.declared.names.Names.{Names}
use Rattle.cfi_graph.specs.Calls.{HasKind}
use Rattle.cfi_graph.specs.Facts.{ByName, ModuleTells}
use Rattle.cfi_graph.specs.More.{IsMetBranch, IsMetFact, OneMeetsOwn}
use Rattle.cfi_graph.specs.inner.Names.{has_name, HasImports, HasMet}
use Rattle.cfi_graph.proofs.BoundLemmas.{contains_at}
use Rattle.cfi_graph.proofs.FactLemmas.{no_import}
use Rattle.cfi_graph.proofs.FirstLemmas.{none_or_some}
use Rattle.cfi_graph.proofs.TellOnLemmas.{BranchesLeadOn, module_on}

-- one leads where the other does, for each of the names
abbrev pub AgreeOn : Names → (one other : ByName) → Type 0
AgreeOn names one other = (name : List ℕ) → IsTrue (has_name names name) → one name ≡ other name

pub agree_back : (names : Names) (one other : ByName) → AgreeOn names one other → AgreeOn names other one
agree_back names one other agree name has = sym (agree name has)

module _ (names : Names) (one other : ByName) (agree : AgreeOn names one other) where
  kind_leads : (m : Placed) → HasImports names m.branches → BranchesLeadOn one other m
  kind_leads m has slot (kinds.Import name cell) kind =
      λ address is. sym (agree name (has name cell (contains_at m.branches kind.0 (kinds.Import name cell) kind.2))) ∙ is
  kind_leads m has slot (kinds.Call node) kind = tt
  kind_leads m has slot (kinds.Tail node) kind = tt
  kind_leads m has slot kinds.Return kind = tt
  kind_leads m has slot (kinds.Switch entries) kind = tt

  -- a module that imports these names alone tells the same
  pub module_named : (classes : List (List ℕ)) (number : ℕ) (m : Placed) → HasImports names m.branches → (fact : Fact)
      → ModuleTells one classes number m fact → ModuleTells other classes number m fact
  module_named classes number m has fact told =
      module_on one other classes classes number (λ node. refl) m (kind_leads m has) fact told

  module _ (own : ByName) where
    met_branch : (m : Placed) → HasMet names own m.branches → (at slot : ℕ) (kind : Kind) → HasKind m slot kind
        → (fact : Fact) → IsMetBranch one own m at slot kind fact → IsMetBranch other own m at slot kind fact
    met_branch m has at slot (kinds.Import name cell) kind fact (none, told) =
        elim (none_or_some (own name)) [
          | inl nowhere ↦ absurd (no_import m at own [] 0 slot cell name nowhere fact told)
          | inr some ↦ (
            sym (agree name (has name cell some.0 (contains_at m.branches kind.0 (kinds.Import name cell) kind.2) some.1))
                ∙ none,
            told,
          )
        ]
    met_branch m has at slot (kinds.Call node) kind fact met = met
    met_branch m has at slot (kinds.Tail node) kind fact met = met
    met_branch m has at slot kinds.Return kind fact met = met
    met_branch m has at slot (kinds.Switch entries) kind fact met = met

    met_unit : (m : Placed) → HasMet names own m.branches → (at : ℕ) (unit : CodeUnit) (fact : Fact)
        → IsMetFact one own m at unit fact → IsMetFact other own m at unit fact
    met_unit m has at (units.Check linked rs1 imm slot) fact (kind, is, met) =
        (kind, is, met_branch m has at slot kind is fact met)
    met_unit m has at (units.Jump linked off) fact met = met
    met_unit m has at (units.Plain insn) fact met = met
    met_unit m has at (units.Load kind rd rs1 imm) fact met = met
    met_unit m has at (units.Store kind rs1 rs2 imm) fact met = met
    met_unit m has at (units.Branch cond rs1 rs2 off) fact met = met
    met_unit m has at units.Service fact met = met

    -- modules meet the same, where the names that own functions have are among these
    pub met_named : (ms : List Placed) → ((m : Placed) → Contains ms m → HasMet names own m.branches) → (fact : Fact)
        → OneMeetsOwn ms one own fact → OneMeetsOwn ms other own fact
    met_named ms has fact met =
        let m = met.meets in
        record {
          owner = met.owner;
          placed = met.placed;
          meets = record {
            at = m.at;
            unit = m.unit;
            stands = m.stands;
            tells = met_unit met.owner (has met.owner met.placed) m.at m.unit fact m.tells;
          };
        }
