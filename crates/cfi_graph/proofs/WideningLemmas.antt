-- The links between the classes of types, as links between the nodes of types.
use Rattle.std.proofs.Common.{◌≡◌, ◌↔◌, ℕ, zero, suc, ◌+◌, ◌-◌, ◌<◌, ◌^◌, List, length, map, get_or, Some, refl, sym, ap, subst, inl, inr, arith}
use Rattle.std.specs.Prelude.{slice_get}
use Rattle.std.proofs.lemmas.List.Elements.{Contains-get_or}
use Rattle.cfi_word.specs.declared.limits.TheConstants.{MAX_CODE_WORDS}
use Rattle.cfi_flow.specs.declared.links.Link.{Link}
use Rattle.cfi_flow.specs.Flow.{Links, IsPath, Reaches, AreBelow}
use Rattle.cfi_flow.proofs.Members.{member_map, from_map}
use Rattle.cfi_flow.proofs.RowLemmas.{make_link}
use Rattle.cfi_type_table.specs.Node.{Node, node_of}
use Rattle.cfi_types.specs.Classes.{table_of, class_of, IsNodePlace, AreClasses}
use Rattle.cfi_fits.specs.Fits.{IsCallable, Fits}
use Rattle.cfi_fits.specs.Widening.{AreWidenings}
use Rattle.cfi_aux.specs.declared.placed.Placed.{Placed}
use Rattle.cfi_graph.specs.Facts.{type_node}
use Rattle.cfi_graph.specs.Reading.{tables_of, type_count, node_count}
use Rattle.cfi_graph.specs.KeptGraph.{LeadToWider}
use Rattle.cfi_graph.specs.Links.{type_link}
use Rattle.cfi_graph.proofs.NodeLemmas.{table_is, place_is}
use Rattle.cfi_graph.proofs.ClassLemmas.{class_low}
use Rattle.cfi_graph.proofs.WiderLemmas.{AreWider}

-- a link between two classes, which the nodes of their types have
pub record IsTypeLink (links : List Link) (a b : ℕ) : Type 0 where
  pub from : ℕ
  pub to : ℕ
  pub has : Links links from to
  pub begins : a ≡ MAX_CODE_WORDS + from
  pub ends : b ≡ MAX_CODE_WORDS + to

is_type_link : (links : List Link) (a b : ℕ) → Links (map type_link links) a b → IsTypeLink links a b
is_type_link links a b has =
    let found = from_map type_link links (make_link a b) has in
    record {
      from = found.0.from;
      to = found.0.to;
      has = found.1;
      begins = sym (ap (λ l. l.from) found.2);
      ends = sym (ap (λ l. l.to) found.2);
    }

-- a path between the nodes of types is one between their classes
class_path : (links : List Link) (steps a b from to : ℕ) → a ≡ MAX_CODE_WORDS + from → b ≡ MAX_CODE_WORDS + to
    → IsPath (map type_link links) steps a b → IsPath links steps from to
class_path links zero a b from to begins ends same = omega (arith, begins, ends, same)
class_path links (suc steps) a b from to begins ends (next, link, rest) =
    let is = is_type_link links a next link in
    let same : is.from ≡ from = omega (arith, begins, is.begins) in (
      is.to,
      subst (λ k. Links links k is.to) same is.has,
      class_path links steps next b is.to to is.ends ends rest,
    )

type_path : (links : List Link) (steps from to : ℕ) → IsPath links steps from to
    → IsPath (map type_link links) steps (MAX_CODE_WORDS + from) (MAX_CODE_WORDS + to)
type_path links zero from to same = ap (λ k. MAX_CODE_WORDS + k) same
type_path links (suc steps) from to (next, link, rest) = (
  MAX_CODE_WORDS + next,
  member_map type_link links (make_link from next) link,
  type_path links steps next to rest,
)

-- links between classes that lead from each to exactly those of the types that it fits
pub record AreExact (tables : List (List Node)) (classes : List (List ℕ)) (links : List Link) : Type 0 where
  pub lead : LeadToWider tables classes links
  pub exact : (t a u b : ℕ) → IsNodePlace tables t a → IsNodePlace tables u b
      → IsCallable (node_of (table_of tables t) a).kind
      → Fits (table_of tables t) a (table_of tables u) b ↔ Reaches links (class_of classes u b) (class_of classes t a)

pub widenings_exact : (tables : List (List Node)) (classes : List (List ℕ)) (links : List Link)
    → AreWidenings tables classes links → AreExact tables classes links
widenings_exact tables classes links wide =
    record { lead = record { sound = wide.sound; whole = wide.whole }; exact = wide.exact }

module _ (ms : List Placed) (classes : List (List ℕ)) (are : AreClasses (tables_of ms) classes) (links : List Link)
    (wide : AreExact (tables_of ms) classes links) where
  -- the ends of a link are classes that there are
  ends_low : (from to : ℕ) → Links links from to → (from < type_count ms) × (to < type_count ms)
  ends_low from to has =
      let all = wide.lead.sound from to has in
      let is = all.4 in
      let high = class_low (tables_of ms) classes are all.0 all.1 is.here in
      let low = class_low (tables_of ms) classes are all.2 all.3 is.there in
      (omega (arith, low, is.narrower), omega (arith, high, is.wider))

  pub class_links_low : node_count ms < 2 ^ 32 → AreBelow (2 ^ 32 - MAX_CODE_WORDS) links
  class_links_low nodes = λ k d within.
      let l = get_or links k d in
      let low = ends_low l.from l.to (Contains-get_or links k d within) in
      (omega (arith, low.0, nodes), omega (arith, low.1, nodes))

  -- the ends of the links are nodes of the flow
  pub links_low : AreBelow (node_count ms) (map type_link links)
  links_low = λ k d within.
      let l = get_or (map type_link links) k d in
      let is = is_type_link links l.from l.to (Contains-get_or (map type_link links) k d within) in
      let low = ends_low is.from is.to is.has in
      (omega (arith, low.0, is.begins), omega (arith, low.1, is.ends))

  -- what is reached from a function's type is one
  reached_callable : (steps t a u b : ℕ) → IsNodePlace (tables_of ms) t a → IsNodePlace (tables_of ms) u b
      → IsCallable (node_of (table_of (tables_of ms) u) b).kind
      → IsPath links steps (class_of classes u b) (class_of classes t a)
      → IsCallable (node_of (table_of (tables_of ms) t) a).kind
  reached_callable zero t a u b here there callable same =
      subst IsCallable ((are.equal u b t a there here).0 same 1).0 callable
  reached_callable (suc steps) t a u b here there callable (next, link, rest) =
      let all = wide.lead.sound (class_of classes u b) next link in
      let is = all.4 in
      reached_callable steps t a all.0 all.1 here is.here (inr is.fits.variadic)
      (subst (λ k. IsPath links steps k (class_of classes t a)) (sym is.wider) rest)

  -- the nodes of types, by their classes
  module _ (i j : ℕ) (m n : Placed) (m_is : slice_get ms i ≡ Some m) (n_is : slice_get ms j ≡ Some n) (a b : ℕ)
      (a_in : a < length m.types) (b_in : b < length n.types) where
    down : IsCallable (node_of n.types b).kind
        → Reaches (map type_link links) (type_node classes j b) (type_node classes i a) → Fits m.types a n.types b
    down callable (steps, path) =
        let one = table_is ms i m m_is in
        let other = table_is ms j n n_is in
        let here = place_is ms i m m_is a a_in in
        let there = place_is ms j n n_is b b_in in
        let reach = class_path links steps (type_node classes j b) (type_node classes i a) (class_of classes j b)
        (class_of classes i a) refl refl path in
        subst (λ xs. Fits xs a n.types b) one (subst (λ ys. Fits (table_of (tables_of ms) i) a ys b) other
        ((wide.exact i a j b here there (reached_callable steps i a j b here there
        (subst (λ ys. IsCallable (node_of ys b).kind) (sym other) callable) reach)).1 (steps, reach)))

    class_reaches : Fits (table_of (tables_of ms) i) a (table_of (tables_of ms) j) b
        → Reaches links (class_of classes j b) (class_of classes i a)
    class_reaches fits =
        let here = place_is ms i m m_is a a_in in
        let there = place_is ms j n n_is b b_in in
        elim fits [
          | inl same ↦ (zero, sym ((are.equal i a j b here there).1 same.1))
          | inr variadic ↦ wide.lead.whole i a j b here there variadic
        ]

    up : Fits m.types a n.types b
        → Reaches (map type_link links) (type_node classes j b) (type_node classes i a)
    up fits =
        let one = table_is ms i m m_is in
        let other = table_is ms j n n_is in
        let reach = class_reaches (subst (λ xs. Fits xs a (table_of (tables_of ms) j) b) (sym one)
        (subst (λ ys. Fits m.types a ys b) (sym other) fits)) in
        (reach.0, type_path links reach.0 (class_of classes j b) (class_of classes i a) reach.1)

  -- links from types' nodes to wider ones
  pub are_wider : AreWider ms classes (map type_link links)
  are_wider = record {
    high = λ a b has.
        let is = is_type_link links a b has in
        (omega (arith, is.begins), omega (arith, is.ends));
    fits = λ i j m n m_is n_is a b a_in b_in callable.
        (down i j m n m_is n_is a b a_in b_in callable, up i j m n m_is n_is a b a_in b_in);
  }
