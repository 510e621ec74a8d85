-- The nodes that are gathered for a part tell equal nodes alike.
use Rattle.std.proofs.Common.{◌≡◌, ◌∙◌, ℕ, ◌<◌, Bool, true, false, ltb, eqb, min, List, [], length, get_or, All, refl, sym, ap, subst, arith, inl, inr}
use Rattle.std.specs.Prelude.{◌||◌, ◌&&◌}
use Rattle.std.proofs.lemmas.Bool.{cases_lt, and_parts, and_from, ltb-true, lt-ltb, le-ltb, eqb-true, eq-eqb}
use Rattle.std.proofs.lemmas.Bool.Decides.{same_from_decides}
use Rattle.std.proofs.lemmas.List.{get_or_default}
use Rattle.std.proofs.lemmas.List.Elements.{All-get_or, All-from_get_or, length_all_zip, AllZip-get_or}
use Rattle.std.proofs.lemmas.List.Folds.{Any-from_list_any, list_any_at}
use Rattle.cfi_word.specs.declared.limits.TheConstants.{MAX_FIELDS}
use Rattle.cfi_type_table.specs.Node.{Node, node_of}
use Rattle.cfi_type_table.specs.Kind.{nodes_of}
use Rattle.cfi_types.specs.declared.parents.Name.{Name}
use Rattle.cfi_types.specs.Same.{Equal}
use Rattle.cfi_types.specs.inner.Splitting.{IsClosed}
use Rattle.cfi_types.specs.inner.Parents.{lists_name, names_at, AreParents}
use Rattle.cfi_types.specs.inner.Hits.{has, is_hit, hits_one, GathersHits}
use Rattle.cfi_types.specs.inner.Division.{AreListed, AreClear, KeepTogether, TellEqual}
use Rattle.cfi_types.proofs.Steps.{names_below, named_equal}

-- each number of a list is one that the list has
has_own : (xs : List ℕ) (k d : ℕ) → k < length xs → has xs (get_or xs k d) ≡ true
has_own xs k d lt = list_any_at (λ x. eqb x (get_or xs k d)) xs k d lt (eq-eqb (get_or xs k d) (get_or xs k d) refl)

-- each name is one of a node that is there, at a place where it names the child
named_there : (nodes : List Node) (parents : List (List Name)) (k j : ℕ) (d : Name)
    → AreParents nodes (length nodes) parents
    → k < length parents → j < length (get_or parents k [])
    → (ltb (get_or (get_or parents k []) j d).node (length nodes)
    && names_at (node_of nodes (get_or (get_or parents k []) j d).node) (get_or (get_or parents k []) j d).place k)
    ≡ true
named_there nodes parents k j d are lt below =
    let row = get_or parents k [] in
    let x = get_or row j d in
    let there : lists_name parents k x.node x.place ≡ true =
    list_any_at (λ (y : Name). (eqb y.node x.node) && (eqb y.place x.place)) row j d below
    (and_from (eqb x.node x.node) (eqb x.place x.place) (eq-eqb x.node x.node refl) (eq-eqb x.place x.place refl)) in
    sym (are.each k x.node x.place (omega (arith, are.len, lt))) ∙ there

-- names are of nodes that are there
pub nodes_within : (nodes : List Node) (parents : List (List Name)) → AreParents nodes (length nodes) parents
    → All (All (λ x. x.node < length nodes)) parents
nodes_within nodes parents are = All-from_get_or (All (λ (x : Name). x.node < length nodes)) parents []
    (λ k lt j d below.
    let x = get_or (get_or parents k []) j d in
    let named = named_there nodes parents k j d are lt below in
    ltb-true x.node (length nodes) (and_parts (ltb x.node (length nodes))
    (names_at (node_of nodes x.node) x.place k) named).0)

-- names are at one of the first MAX_FIELDS places
pub places_within : (nodes : List Node) (parents : List (List Name)) → AreParents nodes (length nodes) parents
    → All (All (λ x. x.place < MAX_FIELDS)) parents
places_within nodes parents are = All-from_get_or (All (λ (x : Name). x.place < MAX_FIELDS)) parents []
    (λ k lt j d below.
    let x = get_or (get_or parents k []) j d in
    let named = named_there nodes parents k j d are lt below in
    let at = (and_parts (ltb x.node (length nodes)) (names_at (node_of nodes x.node) x.place k) named).1 in
    let xs = nodes_of (node_of nodes x.node) in
    let early = (and_parts (ltb x.place (min (length xs) MAX_FIELDS)) (eqb (get_or xs x.place 0) k) at).0 in
    omega (arith, ltb-true x.place (min (length xs) MAX_FIELDS) early))

module _ (nodes : List Node) (parents : List (List Name)) (parts : List ℕ) (members : List (List ℕ)) (part : ℕ)
    (closed : IsClosed nodes) (are : AreParents nodes (length nodes) parents) (keep : KeepTogether nodes parts)
    (listed : AreListed parts members) (lt : part < length nodes) where
  -- whether the node names a node of the part at this place
  leads : (place node : ℕ) → Bool
  leads place node =
      ltb node (length nodes) && (ltb place (min (length (nodes_of (node_of nodes node))) MAX_FIELDS)
      && eqb (get_or parts (get_or (nodes_of (node_of nodes node)) place 0) 0) part)

  ahead : (place node : ℕ) → hits_one parents (get_or members part []) parts part place node ≡ true
      → leads place node ≡ true
  unfolding leads
  ahead place node h =
      let row = get_or members part [] in
      let xs = nodes_of (node_of nodes node) in
      let found = Any-from_list_any (λ a. (eqb (get_or parts a 0) part) && lists_name parents a node place) row h in
      let x = found.1 in
      let tests = and_parts (eqb (get_or parts x 0) part) (lists_name parents x node place) found.4 in
      let below : x < length parts =
      subst (λ y. y < length parts) found.3 (listed.below part (omega (arith, keep.len, lt)) found.0 x found.2) in
      let named = sym (are.each x node place (omega (arith, keep.len, below))) ∙ tests.1 in
      let outer = and_parts (ltb node (length nodes)) (names_at (node_of nodes node) place x) named in
      let inner = and_parts (ltb place (min (length xs) MAX_FIELDS)) (eqb (get_or xs place 0) x) outer.1 in
      let is : get_or xs place 0 ≡ x = eqb-true (get_or xs place 0) x inner.1 in
      and_from _ _ outer.0 (and_from _ _ inner.0
      (ap (λ y. eqb (get_or parts y 0) part) is ∙ tests.0))

  back : (place node : ℕ) → leads place node ≡ true
      → hits_one parents (get_or members part []) parts part place node ≡ true
  unfolding leads
  back place node h =
      let row = get_or members part [] in
      let xs = nodes_of (node_of nodes node) in
      let a = get_or xs place 0 in
      let outer = and_parts (ltb node (length nodes)) (ltb place (min (length xs) MAX_FIELDS)
      && eqb (get_or parts a 0) part) h in
      let inner = and_parts (ltb place (min (length xs) MAX_FIELDS)) (eqb (get_or parts a 0) part) outer.1 in
      let ln : node < length nodes = ltb-true node (length nodes) outer.0 in
      let early : place < length xs = omega (arith, ltb-true place (min (length xs) MAX_FIELDS) inner.0) in
      let la : a < length nodes = All-get_or (λ k. k < length nodes) xs place 0 early
      (names_below nodes node closed ln) in
      let own : get_or parts a 0 ≡ part = eqb-true (get_or parts a 0) part inner.1 in
      let there : has row a ≡ true =
      ap (λ j. has (get_or members j []) a) (sym own) ∙ listed.listed a (omega (arith, keep.len, la)) in
      let found = Any-from_list_any (λ y. eqb y a) row there in
      let is : get_or row found.0 0 ≡ a =
      get_or_default row found.0 0 found.1 found.2 ∙ found.3 ∙ eqb-true found.1 a found.4 in
      let named : lists_name parents a node place ≡ true =
      are.each a node place la
      ∙ and_from _ _ outer.0 (and_from _ _ inner.0 (eq-eqb (get_or xs place 0) a refl)) in
      list_any_at (λ y. (eqb (get_or parts y 0) part) && lists_name parents y node place) row found.0 0 found.2
      (ap (λ y. (eqb (get_or parts y 0) part) && lists_name parents y node place) is
      ∙ and_from _ _ inner.1 named)

  leads_alike : (place a b : ℕ) → a < length nodes → b < length nodes → Equal nodes a nodes b
      → leads place a ≡ leads place b
  unfolding leads
  leads_alike place a b la lb h =
      let xs = nodes_of (node_of nodes a) in
      let ys = nodes_of (node_of nodes b) in
      let zip = named_equal nodes a b h in
      let len : length xs ≡ length ys = length_all_zip (λ c d. Equal nodes c nodes d) xs ys zip in
      let here : ltb a (length nodes) ≡ true = lt-ltb a (length nodes) la in
      let there : ltb b (length nodes) ≡ true = lt-ltb b (length nodes) lb in
      elim (cases_lt place (length xs)) [
        | inl early ↦
            let one : get_or parts (get_or xs place 0) 0 ≡ get_or parts (get_or ys place 0) 0 =
            keep.kept (get_or xs place 0) (get_or ys place 0)
            (All-get_or (λ k. k < length nodes) xs place 0 early (names_below nodes a closed la))
            (All-get_or (λ k. k < length nodes) ys place 0 (omega (arith, len, early)) (names_below nodes b closed lb))
            (AllZip-get_or (λ c d. Equal nodes c nodes d) xs ys place 0 0 zip early) in
            ap (λ t. t && (ltb place (min (length xs) MAX_FIELDS) && eqb (get_or parts (get_or xs place 0) 0) part))
            (here ∙ sym there)
            ∙ ap (λ n. ltb b (length nodes) && (ltb place (min n MAX_FIELDS)
            && eqb (get_or parts (get_or xs place 0) 0) part)) len
            ∙ ap (λ k. ltb b (length nodes) && (ltb place (min (length ys) MAX_FIELDS) && eqb k part)) one
        | inr past ↦
            let none : ltb place (min (length xs) MAX_FIELDS) ≡ false =
            le-ltb place (min (length xs) MAX_FIELDS) (omega (arith, past)) in
            let neither : ltb place (min (length ys) MAX_FIELDS) ≡ false =
            le-ltb place (min (length ys) MAX_FIELDS) (omega (arith, past, len)) in
            rw (here, there, none, neither) refl
      ]

  module _ (old new : List (List ℕ)) (clear : AreClear MAX_FIELDS old)
      (gathers : GathersHits old parents (get_or members part []) parts part new) where
    pub count : length new ≡ MAX_FIELDS
    count = gathers.len ∙ clear.len

    hit_is : (place node : ℕ) → place < length new → is_hit new place node ≡ leads place node
    hit_is place node within =
        gathers.each place node (omega (arith, gathers.len, within))
        ∙ ap (λ (l : List ℕ). has l node || hits_one parents (get_or members part []) parts part place node)
        (clear.none place (omega (arith, count, within)))
        ∙ same_from_decides (hits_one parents (get_or members part []) parts part place node) (leads place node)
        (ahead place node, back place node) (λ e. e, λ e. e)

    pub all_tell : All (TellEqual nodes) new
    all_tell = All-from_get_or (TellEqual nodes) new [] (λ place within a b la lb h.
        hit_is place a within ∙ leads_alike place a b la lb h ∙ sym (hit_is place b within))

    pub all_below : All (All (λ a. a < length parts)) new
    unfolding leads
    all_below = All-from_get_or (All (λ a. a < length parts)) new [] (λ place within k d below.
        let x = get_or (get_or new place []) k d in
        let led = sym (hit_is place x within) ∙ has_own (get_or new place []) k d below in
        let xs = nodes_of (node_of nodes x) in
        let first = (and_parts (ltb x (length nodes)) (ltb place (min (length xs) MAX_FIELDS)
        && eqb (get_or parts (get_or xs place 0) 0) part) led).0 in
        omega (arith, keep.len, ltb-true x (length nodes) first))

-- what is said of slices, said of the lists in them
pub gathers_of : (old new : List (List ℕ)) (parents : List (List Name)) (row members cs classes : List ℕ) (part : ℕ)
    → row ≡ members → cs ≡ classes → GathersHits old parents row cs part new
    → GathersHits old parents members classes part new
gathers_of old new parents row members cs classes part p q h =
    subst (λ (c : List ℕ). GathersHits old parents members c part new) q
    (subst (λ (m : List ℕ). GathersHits old parents m cs part new) p h)
