-- Links between the nodes of types: they lead from the node of a function's type to those of the types that it fits.
use Rattle.std.proofs.Common.{◌≡◌, ◌↔◌, ◌∙◌, ℕ, zero, suc, ◌<◌, ◌≤◌, List, length, Some, sym, inl, inr, arith}
use Rattle.std.specs.Prelude.{slice_get}
use Rattle.cfi_word.specs.declared.limits.TheConstants.{MAX_CODE_WORDS}
use Rattle.cfi_flow.specs.declared.links.Link.{Link}
use Rattle.cfi_flow.specs.Flow.{Links, IsPath, Reaches}
use Rattle.cfi_type_table.specs.Node.{Node, node_of}
use Rattle.cfi_fits.specs.Fits.{IsCallable, Fits}
use Rattle.cfi_aux.specs.declared.placed.Placed.{Placed}
use Rattle.cfi_graph.specs.Facts.{type_node}

-- links from types' nodes to wider ones: they lead from the node of a function's type to exactly those that it fits
pub record AreWider (ms : List Placed) (classes : List (List ℕ)) (links : List Link) : Type 0 where
  pub high : (a b : ℕ) → Links links a b → (MAX_CODE_WORDS ≤ a) × (MAX_CODE_WORDS ≤ b)
  pub fits : (i j : ℕ) (m n : Placed) → slice_get ms i ≡ Some m → slice_get ms j ≡ Some n → (a b : ℕ)
      → a < length m.types → b < length n.types → IsCallable (node_of n.types b).kind
      → Reaches links (type_node classes j b) (type_node classes i a) ↔ Fits m.types a n.types b

-- what a type fits is a function's
pub fits_callable : (xs : List Node) (a : ℕ) (ys : List Node) (b : ℕ) → Fits xs a ys b
    → IsCallable (node_of ys b).kind
fits_callable xs a ys b fits =
    elim fits [ inl same ↦ inl (sym (same.1 1).0 ∙ same.0) | inr variadic ↦ variadic.callable ]

module _ (ms : List Placed) (classes : List (List ℕ)) (links : List Link) (wider : AreWider ms classes links) where
  high_path : (steps a b : ℕ) → MAX_CODE_WORDS ≤ a → IsPath links steps a b → MAX_CODE_WORDS ≤ b
  high_path zero a b high same = omega (arith, high, same)
  high_path (suc steps) a b high (next, link, rest) = high_path steps next b (wider.high a next link).1 rest

  -- what is reached from a type's node is one
  pub reaches_high : (number node to : ℕ) → Reaches links (type_node classes number node) to → MAX_CODE_WORDS ≤ to
  reaches_high number node to (steps, path) = high_path steps (type_node classes number node) to (omega arith) path
