-- Which function types a pointer's type may reach (MCFI, type matching): a pointer to functions with variable arguments
-- may reach those with an equal result and equal fixed parameters. A node is given by a table and its number there; the
-- nodes that a function's node names are its result and then its parameters.
use Rattle.std.specs.Prelude.{◌≡◌, ◌≤◌, ◌⊎◌, ℕ, List, length, take}
use Rattle.std.specs.List.{AllZip}
use Rattle.cfi_type_table.specs.declared.kind.TheConstants.{FUNC, VARFUNC}
use Rattle.cfi_type_table.specs.Node.{Node, node_of}
use Rattle.cfi_type_table.specs.Kind.{nodes_of}
use Rattle.cfi_types.specs.Same.{Equal}

-- a node of the kind is a function's
abbrev pub IsCallable : (kind : ℕ) → Type 0
IsCallable kind = (kind ≡ FUNC) ⊎ (kind ≡ VARFUNC)

-- node a of xs has variable arguments, node b of ys is a function's and has as many parameters or more, their results
-- are equal, and each parameter of a is equal to b's in its place
pub record VariadicFits (xs : List Node) (a : ℕ) (ys : List Node) (b : ℕ) : Type 0 where
  pub variadic : (node_of xs a).kind ≡ VARFUNC
  pub callable : IsCallable (node_of ys b).kind
  pub enough : length (nodes_of (node_of xs a)) ≤ length (nodes_of (node_of ys b))
  pub begins : AllZip (λ c d. Equal xs c ys d) (nodes_of (node_of xs a))
      (take (length (nodes_of (node_of xs a))) (nodes_of (node_of ys b)))

-- a pointer to node a of xs may reach functions of node b of ys
abbrev pub Fits : (xs : List Node) → (a : ℕ) → (ys : List Node) → (b : ℕ) → Type 0
Fits xs a ys b = (((node_of xs a).kind ≡ FUNC) × Equal xs a ys b) ⊎ VariadicFits xs a ys b
