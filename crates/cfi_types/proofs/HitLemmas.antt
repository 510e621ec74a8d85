-- Which nodes name a node of a class, one name more and one member more.
use Rattle.std.proofs.Common.{◌≡◌, ◌∙◌, ℕ, ◌+◌, ◌<◌, true, false, eqb, List, [], ◌∷◌, ◌++◌, length, take, set, get_or, refl, sym, ap, subst, arith, inl, inr}
use Rattle.std.specs.Prelude.{◌||◌, ◌&&◌}
use Rattle.std.proofs.lemmas.Bool.{cases_eq, eq-eqb, ne_eqb}
use Rattle.std.proofs.lemmas.List.{length-set, get_or-set_same, get_or-set_other}
use Rattle.std.proofs.lemmas.List.Folds.{list_any-append, list_any_more}
use Rattle.cfi_types.specs.declared.parents.Name.{Name}
use Rattle.cfi_types.specs.inner.Parents.{has_name, lists_name}
use Rattle.cfi_types.specs.inner.Hits.{has, is_hit, hits_one, AddsHits, GathersHits}
use Rattle.cfi_types.proofs.Choices.{or_false, or_assoc, and_true, and_false}
use Rattle.cfi_types.proofs.NameLemmas.{make_name}

pub has_push : (nodes : List ℕ) (x node : ℕ) → has (nodes ++ x ∷ []) node ≡ (has nodes node || eqb x node)
has_push nodes x node =
    list_any-append (λ y. eqb y node) nodes (x ∷ [])
    ∙ ap (λ b. has nodes node || b) (or_false (eqb x node))

pub no_hits : (old : List (List ℕ)) (names : List Name) → AddsHits old (take 0 names) old
no_hits old names = record {
  len = refl;
  each = λ place node lt. sym (or_false (is_hit old place node));
}

-- one name more
module _ (old mid : List (List ℕ)) (names : List Name) (i : ℕ) (x : Name) (so_far : AddsHits old (take i names) mid)
    (lt : i < length names) (is : x ≡ get_or names i (make_name 0 0)) (below : x.place < length old) where
  row : List ℕ
  row = get_or mid x.place [] ++ x.node ∷ []

  more_names : (node place : ℕ) → has_name (take (i + 1) names) node place
      ≡ (has_name (take i names) node place || ((eqb x.node node) && (eqb x.place place)))
  more_names node place =
      list_any_more (λ (y : Name). (eqb y.node node) && (eqb y.place place)) names i (make_name 0 0) lt
      ∙ ap (λ (y : Name). has_name (take i names) node place || ((eqb y.node node) && (eqb y.place place))) (sym is)

  hit_here : (node : ℕ) → has row node ≡ (is_hit old x.place node || has_name (take (i + 1) names) node x.place)
  unfolding row
  hit_here node =
      let here : eqb x.place x.place ≡ true = eq-eqb x.place x.place refl in
      has_push (get_or mid x.place []) x.node node
      ∙ ap (λ b. b || eqb x.node node) (so_far.each x.place node below)
      ∙ or_assoc (is_hit old x.place node) (has_name (take i names) node x.place) (eqb x.node node)
      ∙ ap (λ b. is_hit old x.place node || (has_name (take i names) node x.place || b))
      (sym (ap (λ b. eqb x.node node && b) here ∙ and_true (eqb x.node node)))
      ∙ ap (λ b. is_hit old x.place node || b) (sym (more_names node x.place))

  hit_there : (place node : ℕ) → place < length old → (place ≡ x.place → ⊥)
      → is_hit mid place node ≡ (is_hit old place node || has_name (take (i + 1) names) node place)
  hit_there place node within differ =
      let apart : eqb x.place place ≡ false = ne_eqb x.place place (λ e. differ (sym e)) in
      so_far.each place node within
      ∙ ap (λ b. is_hit old place node || b)
      (sym (more_names node place
      ∙ ap (λ b. has_name (take i names) node place || b)
      (ap (λ b. eqb x.node node && b) apart ∙ and_false (eqb x.node node))
      ∙ or_false (has_name (take i names) node place)))

  pub hits_more : AddsHits old (take (i + 1) names) (set mid x.place (get_or mid x.place [] ++ x.node ∷ []))
  unfolding row
  hits_more = record {
    len = length-set mid x.place row ∙ so_far.len;
    each = λ place node within. elim (cases_eq place x.place) [
      | inl same ↦
          subst (λ q. is_hit (set mid x.place row) q node
          ≡ (is_hit old q node || has_name (take (i + 1) names) node q)) (sym same)
          (ap (λ r. has r node) (get_or-set_same mid x.place row [] (omega (arith, so_far.len, below))) ∙ hit_here node)
      | inr differ ↦
          ap (λ r. has r node) (get_or-set_other mid x.place place row [] differ)
          ∙ hit_there place node within differ
    ];
  }

-- ---- members

pub none_gathered : (old : List (List ℕ)) (parents : List (List Name)) (members classes : List ℕ) (class : ℕ)
    → GathersHits old parents (take 0 members) classes class old
none_gathered old parents members classes class = record {
  len = refl;
  each = λ place node lt. sym (or_false (is_hit old place node));
}

module _ (old mid : List (List ℕ)) (parents : List (List Name)) (members classes : List ℕ) (class i a : ℕ)
    (so_far : GathersHits old parents (take i members) classes class mid) (lt : i < length members)
    (is : a ≡ get_or members i 0) where
  one_more : (place node : ℕ) → hits_one parents (take (i + 1) members) classes class place node
      ≡ (hits_one parents (take i members) classes class place node
      || ((eqb (get_or classes a 0) class) && lists_name parents a node place))
  one_more place node =
      list_any_more (λ (k : ℕ). (eqb (get_or classes k 0) class) && lists_name parents k node place) members i 0 lt
      ∙ ap (λ (k : ℕ). hits_one parents (take i members) classes class place node
      || ((eqb (get_or classes k 0) class) && lists_name parents k node place)) (sym is)

  -- a member that is in the class
  pub gathered_more : (new : List (List ℕ)) → get_or classes a 0 ≡ class → AddsHits mid (get_or parents a []) new
      → GathersHits old parents (take (i + 1) members) classes class new
  gathered_more new same adds =
      let here : eqb (get_or classes a 0) class ≡ true = eq-eqb (get_or classes a 0) class same in
      record {
        len = adds.len ∙ so_far.len;
        each = λ place node within.
            adds.each place node (omega (arith, so_far.len, within))
            ∙ ap (λ b. b || lists_name parents a node place) (so_far.each place node within)
            ∙ or_assoc (is_hit old place node) (hits_one parents (take i members) classes class place node)
            (lists_name parents a node place)
            ∙ ap (λ b. is_hit old place node || b)
            (sym (one_more place node
            ∙ ap (λ b. hits_one parents (take i members) classes class place node ||
            (b && lists_name parents a node place))
            here));
      }

  -- one that has left it
  pub gathered_same : (get_or classes a 0 ≡ class → ⊥)
      → GathersHits old parents (take (i + 1) members) classes class mid
  gathered_same differ =
      let apart : eqb (get_or classes a 0) class ≡ false = ne_eqb (get_or classes a 0) class differ in
      record {
        len = so_far.len;
        each = λ place node within.
            so_far.each place node within
            ∙ ap (λ b. is_hit old place node || b)
            (sym (one_more place node
            ∙ ap (λ b. hits_one parents (take i members) classes class place node ||
            (b && lists_name parents a node place))
            apart
            ∙ or_false (hits_one parents (take i members) classes class place node)));
      }
