-- Links from classes of function types to wider ones: pointers of the wider one may reach what those of the other may.
-- The numbers of a link are numbers of classes.
use Rattle.std.specs.Prelude.{◌≡◌, ◌↔◌, ◌≤◌, ℕ, List, length}
use Rattle.std.specs.List.{flat_map}
use Rattle.cfi_type_table.specs.Node.{Node, node_of}
use Rattle.cfi_types.specs.Classes.{table_of, class_of, IsNodePlace}
use Rattle.cfi_flow.specs.declared.links.Link.{Link}
use Rattle.cfi_flow.specs.Flow.{Links, Reaches}
use Rattle.cfi_fits.specs.Fits.{IsCallable, VariadicFits, Fits}

-- node a of table t is in the class `wide`, node b of table u in the class `narrow`, and pointers to a may reach b
pub record IsWider (tables : List (List Node)) (classes : List (List ℕ)) (narrow wide : ℕ) (t a u b : ℕ) : Type 0 where
  pub here : IsNodePlace tables t a
  pub there : IsNodePlace tables u b
  pub wider : class_of classes t a ≡ wide
  pub narrower : class_of classes u b ≡ narrow
  pub fits : VariadicFits (table_of tables t) a (table_of tables u) b

-- each link leads to a wider class, and the links lead from each class to all wider ones: they lead from the class of a
-- function's type to that of a pointer's exactly where the one fits the other; there are no more links than nodes
pub record AreWidenings (tables : List (List Node)) (classes : List (List ℕ)) (links : List Link) : Type 0 where
  pub sound : (from to : ℕ) → Links links from to
      → (t : ℕ) × (a : ℕ) × (u : ℕ) × (b : ℕ) × IsWider tables classes from to t a u b
  pub whole : (t a u b : ℕ) → IsNodePlace tables t a → IsNodePlace tables u b
      → VariadicFits (table_of tables t) a (table_of tables u) b
      → Reaches links (class_of classes u b) (class_of classes t a)
  pub exact : (t a u b : ℕ) → IsNodePlace tables t a → IsNodePlace tables u b
      → IsCallable (node_of (table_of tables t) a).kind
      → Fits (table_of tables t) a (table_of tables u) b ↔ Reaches links (class_of classes u b) (class_of classes t a)
  pub few : length links ≤ length (flat_map (λ xs. xs) tables)
