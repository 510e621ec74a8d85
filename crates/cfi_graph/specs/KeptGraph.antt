-- The links along which control may go in placed modules, kept while modules are added.
use Rattle.std.specs.Prelude.{◌≡◌, ◌≤◌, ◌++◌, ℕ, List, map}
use Rattle.cfi_word.specs.declared.lists.Edge.{Edge}
use Rattle.cfi_word.specs.Chain.{Chain}
use Rattle.cfi_flow.specs.declared.links.Link.{Link}
use Rattle.cfi_flow.specs.Flow.{Links, Reaches}
use Rattle.cfi_flow.specs.Fans.{IsListed}
use Rattle.cfi_flow.specs.Kept.{Kept}
use Rattle.cfi_type_table.specs.Node.{Node}
use Rattle.cfi_types.specs.Classes.{table_of, class_of, IsNodePlace, AreClasses}
use Rattle.cfi_fits.specs.Fits.{VariadicFits}
use Rattle.cfi_fits.specs.Widening.{IsWider}
use Rattle.cfi_aux.specs.declared.placed.Placed.{Placed}
use Rattle.cfi_graph.specs.Direct.{DirectEdge}
use Rattle.cfi_graph.specs.Facts.{ByName, AreImports}
use Rattle.cfi_graph.specs.Links.{type_link, TellsLinks}
use Rattle.cfi_graph.specs.Reading.{tables_of, node_count}

-- the classes of types, the links between these, and all links with few edges of them
pub record Graph : Type 0 where
  pub classes : List (List ℕ)
  pub wider : List Link
  pub flow : Kept

-- each link leads to a wider class, and the links lead to all wider classes
pub record LeadToWider (tables : List (List Node)) (classes : List (List ℕ)) (links : List Link) : Type 0 where
  pub sound : (from to : ℕ) → Links links from to
      → (t : ℕ) × (a : ℕ) × (u : ℕ) × (b : ℕ) × IsWider tables classes from to t a u b
  pub whole : (t a u b : ℕ) → IsNodePlace tables t a → IsNodePlace tables u b
      → VariadicFits (table_of tables t) a (table_of tables u) b
      → Reaches links (class_of classes u b) (class_of classes t a)

-- the links are those of the modules
pub record IsGraphOf (ms : List Placed) (graph : Graph) : Type 0 where
  pub typed : AreClasses (tables_of ms) graph.classes
  pub wider : LeadToWider (tables_of ms) graph.classes graph.wider
  pub linked : graph.flow.widenings ≡ map type_link graph.wider
  pub imports : ByName
  pub named : AreImports ms imports
  pub tells : TellsLinks ms imports graph.classes graph.flow
  pub nodes : graph.flow.nodes ≤ node_count ms

-- the list is another with more behind it
abbrev pub IsLonger : (before edges : List Edge) → Type 0
IsLonger before edges = (added : List Edge) × (edges ≡ before ++ added)

-- each edge is a direct edge of the modules, and each of these a chain of the edges
pub record SpanEdges (ms : List Placed) (edges : List Edge) : Type 0 where
  pub sound : (slot address : ℕ) → IsListed edges slot address → DirectEdge ms slot address
  pub whole : (slot address : ℕ) → DirectEdge ms slot address → Chain (IsListed edges) slot address
