-- Modules with one more behind them.
use Rattle.std.proofs.Common.{◌≡◌, ◌∙◌, ℕ, zero, suc, ◌+◌, ◌<◌, ◌⊎◌, List, [], ◌∷◌, ◌++◌, length, take, drop, get_or, Some, refl, sym, ap, subst, inl, inr, arith, length-append}
use Rattle.std.specs.Prelude.{slice_get, All}
use Rattle.std.specs.List.{AllPairs, flat_map}
use Rattle.std.proofs.lemmas.List.{append-nil, append_assoc, map_push, get_or_append_left, take_more, take-append-drop}
use Rattle.std.proofs.lemmas.List.Concat.{flat_map-append}
use Rattle.std.proofs.lemmas.Option.{none-some, same_Some}
use Rattle.cfi_type_table.specs.Node.{Node}
use Rattle.cfi_type_table.specs.Spelling.{AreTypes}
use Rattle.cfi_aux.specs.declared.placed.Placed.{Placed}
use Rattle.cfi_graph.specs.Shaped.{IsShaped, IsBefore}
use Rattle.cfi_graph.specs.Reading.{tables_of, type_count, HaveGraph}

-- ---- places

pub at_first : {X : Type 0} (xs : List X) (y : X) (k : ℕ) (x : X) → slice_get xs k ≡ Some x → slice_get (xs ++ y ∷ []) k ≡ Some x
at_first [] y k x is = absurd (none-some x is)
at_first (z ∷ zs) y zero x is = is
at_first (z ∷ zs) y (suc k) x is = at_first zs y k x is

pub at_last : {X : Type 0} (xs : List X) (y : X) → slice_get (xs ++ y ∷ []) (length xs) ≡ Some y
at_last [] y = refl
at_last (z ∷ zs) y = at_last zs y

pub at_cases : {X : Type 0} (xs : List X) (y : X) (k : ℕ) (x : X) → slice_get (xs ++ y ∷ []) k ≡ Some x
    → (slice_get xs k ≡ Some x) ⊎ ((k ≡ length xs) × (x ≡ y))
at_cases [] y zero x is = inr (refl, sym (same_Some y x is))
at_cases [] y (suc k) x is = absurd (none-some x is)
at_cases (z ∷ zs) y zero x is = inl is
at_cases (z ∷ zs) y (suc k) x is =
    elim (at_cases zs y k x is) [ inl a ↦ inl a | inr b ↦ inr (ap suc b.0, b.1) ]

pub length_more : {X : Type 0} (xs : List X) (y : X) → length (xs ++ y ∷ []) ≡ length xs + 1
length_more xs y = length-append xs (y ∷ [])

-- ---- what holds of all holds of the first ones

all_first : {X : Type 0} (P : X → Type 0) (xs : List X) (y : X) → All P (xs ++ y ∷ []) → All P xs
all_first P xs y all = λ k d within.
    let more = length_more xs y in
    subst P (get_or_append_left xs (y ∷ []) d k within) (all k d (omega (arith, more, within)))

pairs_first : {X : Type 0} (R : X → X → Type 0) (xs : List X) (y : X) → AllPairs R (xs ++ y ∷ []) → AllPairs R xs
pairs_first R xs y all = λ i j d less within.
    let more = length_more xs y in
    let first : i < length xs = omega (arith, less, within) in
    subst (λ x. R x (get_or xs j d)) (get_or_append_left xs (y ∷ []) d i first)
    (subst (λ x. R (get_or (xs ++ y ∷ []) i d) x) (get_or_append_left xs (y ∷ []) d j within)
    (all i j d less (omega (arith, more, within))))

-- how many type nodes one module more has
pub count_more : (ms : List Placed) (m : Placed) → type_count (ms ++ m ∷ []) ≡ type_count ms + length m.types
count_more ms m =
    let nodes : List (List Node) → List Node = λ tables. flat_map (λ types. types) tables in
    let tables = ap (λ ts. length (nodes ts)) (map_push (λ (n : Placed). n.types) ms m) in
    let two = ap (λ xs. length xs) (flat_map-append (λ (types : List Node). types) (tables_of ms) (m.types ∷ [])) in
    let apart = length-append (nodes (tables_of ms)) (nodes (m.types ∷ [])) in
    let last = length-append m.types (nodes []) in
    omega (arith, tables, two, apart, last)

-- a graph can be made of the first ones too
pub graph_first : (ms : List Placed) (m : Placed) → HaveGraph (ms ++ m ∷ []) → HaveGraph ms
graph_first ms m graph =
    let more = length_more ms m in
    let few = graph.few in
    let nodes = graph.nodes in
    let count = count_more ms m in
    record {
      apart = record {
        shaped = all_first IsShaped ms m graph.apart.shaped;
        order = pairs_first IsBefore ms m graph.apart.order;
      };
      types = all_first (λ n. AreTypes n.types) ms m graph.types;
      few = omega (arith, few, more);
      nodes = omega (arith, nodes, count);
    }

-- a graph can be made of each front of them
graph_front : (ms more : List Placed) → HaveGraph (ms ++ more) → HaveGraph ms
graph_front ms [] graph = subst HaveGraph (append-nil ms) graph
graph_front ms (m ∷ more) graph =
    graph_first ms m (graph_front (ms ++ m ∷ []) more (subst HaveGraph (sym (append_assoc ms (m ∷ []) more)) graph))

pub graph_take : (ms : List Placed) (count : ℕ) → HaveGraph ms → HaveGraph (take count ms)
graph_take ms count graph =
    graph_front (take count ms) (drop count ms) (subst HaveGraph (sym (take-append-drop count ms)) graph)

-- the next one behind the first ones
pub next_taken : {X : Type 0} (xs : List X) (k : ℕ) (x : X) → k < length xs → x ≡ get_or xs k x
    → take k xs ++ x ∷ [] ≡ take (k + 1) xs
next_taken xs k x within is = ap (λ y. take k xs ++ y ∷ []) is ∙ sym (take_more xs k x within)
