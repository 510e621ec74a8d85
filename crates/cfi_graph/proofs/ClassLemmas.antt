-- Classes of types as numbers of nodes: there are fewer of them than type nodes.
use Rattle.std.proofs.Common.{◌≡◌, ◌∙◌, ℕ, zero, suc, ◌+◌, ◌<◌, ◌≤◌, inl, inr, max, List, [], ◌∷◌, length, map, take, get_or, Some, refl, sym, ap, arith, length-append}
use Rattle.std.proofs.lemmas.List.{length-map}
use Rattle.std.specs.Prelude.{slice_get, slice_index_or}
use Rattle.std.specs.Option.{option_map}
use Rattle.std.specs.List.{Contains, flat_map}
use Rattle.std.proofs.lemmas.Option.{same_Some, slice_get-map, slice_get-get_or}
use Rattle.std.proofs.lemmas.List.Elements.{All-contains, Contains-get_or}
use Rattle.cfi_flow.proofs.Members.{member_cases, no_member, member_flat}
use Rattle.cfi_type_table.specs.Node.{Node}
use Rattle.cfi_types.specs.Classes.{table_of, class_of, IsNodePlace, InOrder, AreClasses}
use Rattle.cfi_aux.specs.declared.placed.Placed.{Placed}
use Rattle.cfi_graph.specs.Shaped.{IsShaped}
use Rattle.cfi_graph.specs.Facts.{type_node}
use Rattle.cfi_graph.specs.Reading.{tables_of, type_count, node_count, HaveGraph, CanAllBeRead}
use Rattle.cfi_graph.proofs.BoundLemmas.{contains_at}
use Rattle.cfi_graph.proofs.NodeLemmas.{table_is, table_within, place_is}

-- a number in order of first occurrence is below the count of all of them
order_low : (ns : List ℕ) (next n : ℕ) → InOrder next ns → Contains ns n → n < next + length ns
order_low [] next n order has = absurd (no_member n has)
order_low (m ∷ ns) next n order has =
    let first : m ≤ next = order.0 in
    elim (member_cases m ns n has) [
      | inl same ↦ omega (arith, first, same)
      | inr rest ↦
          let low = order_low ns (max next (m + 1)) n order.1 rest in
          omega (arith, low, first)
    ]

-- lists of lists of the same lengths have as many elements in all
flat_lengths : {A B : Type 0} (xs : List (List A)) (ys : List (List B))
    → map (λ x. length x) xs ≡ map (λ y. length y) ys → length (flat_map (λ x. x) xs) ≡ length (flat_map (λ y. y) ys)
flat_lengths [] [] same = refl
flat_lengths [] (y ∷ ys) same = absurd (cc)
flat_lengths (x ∷ xs) [] same = absurd (cc)
flat_lengths (x ∷ xs) (y ∷ ys) same =
    let first : length x ≡ length y = cc in
    let others : map (λ a. length a) xs ≡ map (λ b. length b) ys = cc in
    let rest = flat_lengths xs ys others in
    let one = length-append x (flat_map (λ a. a) xs) in
    let other = length-append y (flat_map (λ b. b) ys) in
    omega (arith, first, rest, one, other)

module _ (tables : List (List Node)) (classes : List (List ℕ)) (are : AreClasses tables classes) where
  pub as_many : length classes ≡ length tables
  as_many =
      sym (length-map classes (λ x. length x)) ∙ ap (λ ns. length ns) are.shape ∙ length-map tables (λ x. length x)

  -- a table's row has a number for each node
  pub row_length : (t : ℕ) → t < length tables → length (slice_index_or classes t []) ≡ length (table_of tables t)
  row_length t within =
      let row_in : t < length classes = omega (arith, within, as_many) in
      let row = slice_get-get_or classes t [] row_in in
      let table = slice_get-get_or tables t [] within in
      let row_is : slice_get (map (λ x. length x) classes) t ≡ Some (length (slice_index_or classes t [])) =
      slice_get-map (λ x. length x) classes t ∙ ap (λ o. option_map (λ x. length x) o) row in
      let table_is : slice_get (map (λ x. length x) tables) t ≡ Some (length (table_of tables t)) =
      slice_get-map (λ x. length x) tables t ∙ ap (λ o. option_map (λ x. length x) o) table in
      same_Some (length (slice_index_or classes t [])) (length (table_of tables t))
      (sym row_is ∙ ap (λ ns. slice_get ns t) are.shape ∙ table_is)

  pub class_low : (t a : ℕ) → IsNodePlace tables t a → class_of classes t a < length (flat_map (λ xs. xs) tables)
  class_low t a place =
      let row = slice_index_or classes t [] in
      let within : t < length tables = place.0 in
      let row_in : t < length classes = omega (arith, within, as_many) in
      let len = row_length t within in
      let a_in : a < length (table_of tables t) = place.1 in
      let node_in : a < length row = omega (arith, a_in, len) in
      let has : Contains (flat_map (λ r. r) classes) (class_of classes t a) =
      member_flat (λ r. r) classes row (class_of classes t a) (Contains-get_or classes t [] row_in)
      (Contains-get_or row a 0 node_in) in
      let low = order_low (flat_map (λ r. r) classes) 0 (class_of classes t a) are.order has in
      let many = flat_lengths classes tables are.shape in
      omega (arith, low, many)

-- a type's node is one of the flow's
pub type_low : (ms : List Placed) (classes : List (List ℕ)) → AreClasses (tables_of ms) classes → (number : ℕ)
    (m : Placed) → slice_get ms number ≡ Some m → (node : ℕ) → node < length m.types
    → type_node classes number node < node_count ms
type_low ms classes are number m is node within =
    let low = class_low (tables_of ms) classes are number node (place_is ms number m is node within) in
    omega (arith, low)

-- modules of a graph can be read by the classes of their types
pub all_read : (ms : List Placed) (classes : List (List ℕ)) → HaveGraph ms → AreClasses (tables_of ms) classes
    → CanAllBeRead classes ms
all_read ms classes graph are number m is =
    let within = table_within ms number m is in
    let many = as_many (tables_of ms) classes are in
    let nodes = graph.nodes in
    record {
      shaped = All-contains IsShaped ms m graph.apart.shaped (contains_at ms number m is);
      classed = record {
        table = omega (arith, within, many);
        row = row_length (tables_of ms) classes are number within
            ∙ ap (λ types. length types) (table_is ms number m is);
        low = λ node node_in.
            let low = type_low ms classes are number m is node node_in in
            omega (arith, low, nodes);
      };
    }

-- the type nodes of the first modules and of the next one are some of all
pub count_least : (ms : List Placed) (i : ℕ) (d : Placed) → i < length ms
    → type_count (take i ms) + length (get_or ms i d).types ≤ type_count ms
count_least [] i d within = absurd (omega (arith, within))
count_least (m ∷ ms) zero d within =
    let two = length-append m.types (flat_map (λ types. types) (tables_of ms)) in
    omega (arith, two)
count_least (m ∷ ms) (suc i) d within =
    let rest = count_least ms i d (omega (arith, within)) in
    let all = length-append m.types (flat_map (λ types. types) (tables_of ms)) in
    let some = length-append m.types (flat_map (λ types. types) (tables_of (take i ms))) in
    omega (arith, rest, all, some)
