-- The facts that one module more tells, by one look at each function.
use Rattle.std.specs.Prelude.{◌≡◌, ◌↔◌, ℕ, ◌++◌, List, [], ◌∷◌}
use Rattle.std.specs.List.{Contains}
use Rattle.std.specs.Option.{option_or}
use Rattle.cfi_aux.specs.declared.placed.Placed.{Placed}
use Rattle.cfi_graph.specs.declared.fact.Fact.{Fact}
use Rattle.cfi_graph.specs.Facts.{ByName, AreImports}
use Rattle.cfi_graph.specs.More.{IsMoreFact}

-- the list has what the module tells behind the others
pub record AreMoreFacts (ms : List Placed) (m : Placed) (classes : List (List ℕ)) (list : List Fact) : Type 0 where
  pub before : ByName
  pub own : ByName
  pub all : ByName
  pub known : AreImports ms before
  pub named : AreImports (ms ++ m ∷ []) all
  pub joined : (name : List ℕ) → all name ≡ option_or (before name) (own name)
  pub are : (fact : Fact) → Contains list fact ↔ IsMoreFact before own all ms m classes fact
