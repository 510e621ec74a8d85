-- What each of joined modules brings to the records and the types of all.
use Rattle.std.proofs.Common.{◌≡◌, ◌∙◌, ℕ, ◌+◌, ◌<◌, true, List, [], ◌∷◌, ◌++◌, length, map, fold, refl, sym, ap, subst, arith, length-append, append_assoc}
use Rattle.std.specs.Prelude.{IsTrue}
use Rattle.std.proofs.Math.ListN.{get_or-append}
use Rattle.std.proofs.lemmas.Bool.{and_parts, and_from, ltb-true, lt-ltb}
use Rattle.std.proofs.lemmas.List.{length-map, get_or-map, get_or-append-add, append-nil}
use Rattle.cfi_type_table.specs.Node.{Node, make_node, node_of}
use Rattle.cfi_type_table.specs.Kind.{is_callable, is_callable_kind}
use Rattle.cfi_aux.specs.declared.modules.Module.{Module}
use Rattle.cfi_aux.specs.declared.records.Function.{Function}
use Rattle.cfi_aux.specs.declared.records.Kind.{Kind}
use Rattle.cfi_link.specs.declared.start.Start.{Start}
use Rattle.cfi_link.specs.Joined.{Joined, with_module, start_of, node_at, function_at, branch_at}

-- ---- one module more

functions-more : (joined : Joined) (m : Module)
    → (with_module joined m).functions ≡ joined.functions ++ map (function_at (start_of joined)) m.records.functions
unfolding with_module
functions-more joined m = refl

branches-more : (joined : Joined) (m : Module)
    → (with_module joined m).branches ≡ joined.branches ++ map (branch_at (start_of joined)) m.records.branches
unfolding with_module
branches-more joined m = refl

types-more : (joined : Joined) (m : Module)
    → (with_module joined m).types ≡ joined.types ++ map (node_at (start_of joined)) m.types
unfolding with_module
types-more joined m = refl

-- ---- what modules behind joined ones bring

abbrev pub functions_from : Joined → List Module → List Function
functions_from joined [] = []
functions_from joined (m ∷ ms) =
    map (function_at (start_of joined)) m.records.functions ++ functions_from (with_module joined m) ms

abbrev pub branches_from : Joined → List Module → List Kind
branches_from joined [] = []
branches_from joined (m ∷ ms) =
    map (branch_at (start_of joined)) m.records.branches ++ branches_from (with_module joined m) ms

abbrev pub types_from : Joined → List Module → List Node
types_from joined [] = []
types_from joined (m ∷ ms) = map (node_at (start_of joined)) m.types ++ types_from (with_module joined m) ms

pub functions-all : (joined : Joined) (ms : List Module)
    → (fold with_module joined ms).functions ≡ joined.functions ++ functions_from joined ms
functions-all joined [] = sym (append-nil joined.functions)
functions-all joined (m ∷ ms) =
    functions-all (with_module joined m) ms
    ∙ ap (λ (xs : List Function). xs ++ functions_from (with_module joined m) ms) (functions-more joined m)
    ∙ append_assoc joined.functions _ _

pub branches-all : (joined : Joined) (ms : List Module)
    → (fold with_module joined ms).branches ≡ joined.branches ++ branches_from joined ms
branches-all joined [] = sym (append-nil joined.branches)
branches-all joined (m ∷ ms) =
    branches-all (with_module joined m) ms
    ∙ ap (λ (xs : List Kind). xs ++ branches_from (with_module joined m) ms) (branches-more joined m)
    ∙ append_assoc joined.branches _ _

pub types-all : (joined : Joined) (ms : List Module)
    → (fold with_module joined ms).types ≡ joined.types ++ types_from joined ms
types-all joined [] = sym (append-nil joined.types)
types-all joined (m ∷ ms) =
    types-all (with_module joined m) ms
    ∙ ap (λ (xs : List Node). xs ++ types_from (with_module joined m) ms) (types-more joined m)
    ∙ append_assoc joined.types _ _

-- ---- types of functions

-- a node that is the type of a function is so among the nodes of all
callable-in : (front back types : List Node) (start : Start) (k : ℕ) → start.types ≡ length front
    → IsTrue (is_callable types k)
    → IsTrue (is_callable (front ++ (map (node_at start) types ++ back)) (start.types + k))
callable-in front back types start k at is =
    let parts = and_parts _ _ is in
    let less : k < length types = ltb-true k (length types) parts.0 in
    let long : length (map (node_at start) types) ≡ length types = length-map types (node_at start) in
    let all : length (front ++ (map (node_at start) types ++ back)) ≡ length front + (length types + length back) =
    omega (
      arith,
      length-append front (map (node_at start) types ++ back),
      length-append (map (node_at start) types) back,
      long,
    ) in
    let node : node_of (front ++ (map (node_at start) types ++ back)) (start.types + k)
    ≡ node_at start (node_of types k) =
    ap (λ (j : ℕ). node_of (front ++ (map (node_at start) types ++ back)) (j + k)) at
    ∙ get_or-append-add front (map (node_at start) types ++ back) k (make_node 0 [])
    ∙ get_or-append (map (node_at start) types) back (make_node 0 []) k (omega (arith, long, less))
    ∙ get_or-map (node_at start) types k (make_node 0 []) (make_node 0 []) less in
    let kind : is_callable_kind (node_of (front ++ (map (node_at start) types ++ back)) (start.types + k)).kind ≡ true =
    ap (λ (x : Node). is_callable_kind x.kind) node ∙ parts.1 in
    and_from _ _ (lt-ltb _ _ (omega (arith, all, at, less))) kind

pub callable-all : (joined : Joined) (m : Module) (ms : List Module) (types : List Node) (k : ℕ) → types ≡ m.types
    → IsTrue (is_callable types k)
    → IsTrue (is_callable (fold with_module joined (m ∷ ms)).types ((start_of joined).types + k))
callable-all joined m ms types k same is =
    subst (λ (xs : List Node). IsTrue (is_callable xs ((start_of joined).types + k))) (sym (types-all joined (m ∷ ms)))
    (callable-in joined.types (types_from (with_module joined m) ms) m.types (start_of joined) k refl
    (subst (λ (xs : List Node). IsTrue (is_callable xs k)) same is))
