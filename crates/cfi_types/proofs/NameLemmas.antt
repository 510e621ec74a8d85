-- Where nodes are named, one name more and one node more.
use Rattle.std.proofs.Common.{◌≡◌, ◌∙◌, ℕ, ◌+◌, ◌<◌, true, false, ltb, eqb, List, [], ◌∷◌, ◌++◌, length, min, set, get_or, refl, sym, ap, subst, arith, inl, inr, replicate}
use Rattle.std.specs.Prelude.{◌||◌, ◌&&◌}
use Rattle.std.proofs.lemmas.Bool.{cases_eq, eq-eqb, ne_eqb, le-ltb}
use Rattle.std.proofs.lemmas.List.{length-set, length-replicate, get_or-set_same, get_or-set_other, get_or-replicate}
use Rattle.std.proofs.lemmas.List.Folds.{list_any-append}
use Rattle.cfi_word.specs.declared.limits.TheConstants.{MAX_FIELDS}
use Rattle.cfi_type_table.specs.Node.{Node, node_of}
use Rattle.cfi_type_table.specs.Kind.{nodes_of}
use Rattle.cfi_types.specs.declared.parents.Name.{Name}
use Rattle.cfi_types.specs.inner.Parents.{is_at, has_name, lists_name, names_at, AddsNames, AreParents}
use Rattle.cfi_types.proofs.Choices.{or_false, and_true, and_false, or_and_or, below_more}

abbrev pub make_name : (node place : ℕ) → Name
make_name node place = record { node = node; place = place }

has_name_push : (names : List Name) (x : Name) (node place : ℕ)
    → has_name (names ++ x ∷ []) node place ≡ (has_name names node place || ((eqb x.node node) && (eqb x.place place)))
has_name_push names x node place =
    list_any-append (λ (y : Name). (eqb y.node node) && (eqb y.place place)) names (x ∷ [])
    ∙ ap (λ b. has_name names node place || b) (or_false ((eqb x.node node) && (eqb x.place place)))

-- no name is added at first
pub no_names : (old : List (List Name)) (named : List ℕ) (number : ℕ) → AddsNames old named number 0 old
no_names old named number = record {
  len = refl;
  each = λ child node place lt.
      let none : ltb place 0 ≡ false = le-ltb place 0 (omega arith) in
      rw none (sym (ap (λ b. lists_name old child node place || b) (and_false (eqb number node))
      ∙ or_false (lists_name old child node place)));
}

-- one name more
module _ (old mid : List (List Name)) (named : List ℕ) (number j k : ℕ) (so_far : AddsNames old named number j mid)
    (is : k ≡ get_or named j 0) (lt : k < length old) where
  row : List Name
  row = get_or mid k [] ++ make_name number j ∷ []

  added_here : (node place : ℕ) → has_name row node place
      ≡ (lists_name old k node place || ((eqb number node) && is_at named (j + 1) place k))
  unfolding row
  added_here node place =
      let here : eqb (get_or named j 0) k ≡ true = eq-eqb (get_or named j 0) k (sym is) in
      let more = below_more (λ q. eqb (get_or named q 0) k) j place in
      let last : (eqb j place && eqb (get_or named j 0) k) ≡ eqb j place = ap (λ b. eqb j place && b) here
      ∙ and_true (eqb j place) in
      has_name_push (get_or mid k []) (make_name number j) node place
      ∙ ap (λ b. b || ((eqb number node) && (eqb j place))) (so_far.each k node place lt)
      ∙ or_and_or (lists_name old k node place) (eqb number node) (is_at named j place k) (eqb j place)
      ∙ ap (λ b. lists_name old k node place || ((eqb number node) && (is_at named j place k || b))) (sym last)
      ∙ ap (λ b. lists_name old k node place || ((eqb number node) && b)) (sym more)

  added_there : (child node place : ℕ) → child < length old → (child ≡ k → ⊥) → lists_name mid child node place
      ≡ (lists_name old child node place || ((eqb number node) && is_at named (j + 1) place child))
  added_there child node place below differ =
      let apart : eqb (get_or named j 0) child ≡ false =
      ne_eqb (get_or named j 0) child (λ e. differ (sym (is ∙ e))) in
      let more = below_more (λ q. eqb (get_or named q 0) child) j place in
      let last : (eqb j place && eqb (get_or named j 0) child) ≡ false =
      ap (λ b. eqb j place && b) apart ∙ and_false (eqb j place) in
      let same : is_at named (j + 1) place child ≡ is_at named j place child =
      more ∙ ap (λ b. is_at named j place child || b) last ∙ or_false (is_at named j place child) in
      so_far.each child node place below
      ∙ ap (λ b. lists_name old child node place || ((eqb number node) && b)) (sym same)

  pub names_more : AddsNames old named number (j + 1) (set mid k (get_or mid k [] ++ make_name number j ∷ []))
  unfolding row
  names_more =
      let within : k < length mid = omega (arith, so_far.len, lt) in
      record {
        len = length-set mid k row ∙ so_far.len;
        each = λ child node place below. elim (cases_eq child k) [
          | inl same ↦
              subst (λ c. lists_name (set mid k row) c node place
              ≡ (lists_name old c node place || ((eqb number node) && is_at named (j + 1) place c))) (sym same)
              (ap (λ r. has_name r node place) (get_or-set_same mid k row [] within) ∙ added_here node place)
          | inr differ ↦
              ap (λ r. has_name r node place) (get_or-set_other mid k child row [] differ)
              ∙ added_there child node place below differ
        ];
      }

-- ---- nodes

-- one node more
pub parents_more : (nodes : List Node) (i : ℕ) (mid new : List (List Name)) (xs : List ℕ) → AreParents nodes i mid
    → xs ≡ nodes_of (node_of nodes i) → AddsNames mid xs i (min (length xs) MAX_FIELDS) new
    → AreParents nodes (i + 1) new
parents_more nodes i mid new xs so_far is adds = record {
  len = adds.len ∙ so_far.len;
  each = λ child node place below.
      adds.each child node place (omega (arith, so_far.len, below))
      ∙ ap (λ b. b || ((eqb i node) && is_at xs (min (length xs) MAX_FIELDS) place child))
      (so_far.each child node place below)
      ∙ ap (λ (ys : List ℕ). (ltb node i && names_at (node_of nodes node) place child)
      || ((eqb i node) && is_at ys (min (length ys) MAX_FIELDS) place child)) is
      ∙ sym (below_more (λ n. names_at (node_of nodes n) place child) i node);
}

pub no_parents : (nodes : List Node) (parents : List (List Name)) → parents ≡ replicate (length nodes) []
    → AreParents nodes 0 parents
no_parents nodes parents none = record {
  len = ap length none ∙ length-replicate (length nodes) [];
  each = λ child node place below.
      let not_yet : ltb node 0 ≡ false = le-ltb node 0 (omega arith) in
      rw not_yet (ap (λ (r : List (List Name)). lists_name r child node place) none
      ∙ ap (λ (l : List Name). has_name l node place) (get_or-replicate (length nodes) child [] [] below));
}
