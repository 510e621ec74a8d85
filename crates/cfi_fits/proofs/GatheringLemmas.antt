-- The signatures of the function types that have come.
use Rattle.std.proofs.Common.{◌≡◌, ◌∙◌, ℕ, zero, suc, ◌+◌, ◌-◌, ◌<◌, ◌⊎◌, List, [], ◌∷◌, ◌++◌, length, map, get_or, refl, sym, ap, subst, inl, inr, arith}
use Rattle.std.specs.Prelude.{slice_index_or}
use Rattle.std.specs.List.{flat_map, Contains}
use Rattle.std.specs.List.Sorted.{IsPermutation}
use Rattle.std.proofs.lemmas.Bool.{cases_lt}
use Rattle.std.proofs.lemmas.List.{length-append, length-map, get_or-map, get_or_read}
use Rattle.std.proofs.lemmas.List.Concat.{flat_map-cons}
use Rattle.std.proofs.lemmas.List.Elements.{All-nil, All-push, Contains-push, Contains-append_left}
use Rattle.std.proofs.lemmas.List.Sorted.{All-permutation, Contains-permutation, length_permutation}
use Rattle.cfi_type_table.specs.Node.{Node, make_node, node_of}
use Rattle.cfi_type_table.specs.Spelling.{NamesBelow, AreTypes}
use Rattle.cfi_types.specs.Classes.{table_of, class_of, IsNodePlace, AreClasses}
use Rattle.cfi_types.specs.inner.Extending.{next_at}
use Rattle.cfi_types.proofs.NearLemmas.{rows_many}
use Rattle.cfi_types.proofs.OrderLemmas.{first_place, next_steps}
use Rattle.cfi_fits.specs.declared.signature.Signature.{Signature}
use Rattle.cfi_fits.specs.Fits.{IsCallable}
use Rattle.cfi_fits.specs.inner.Signatures.{IsMadeOf, IsSignature, IsEarlier, IsSomeones, count_before, AreGathered}
use Rattle.cfi_fits.proofs.TypeLemmas.{IsWholePlace, names_at, row_length, same_kind, same_key}

-- ---- counts

-- one more table's nodes
count_next : (ns : List ℕ) (t : ℕ) → t < length ns → count_before ns (t + 1) ≡ count_before ns t + get_or ns t 0
count_next [] t lt = absurd (omega (arith, lt))
count_next (n ∷ []) zero lt = omega arith
count_next (n ∷ m ∷ ns) zero lt = omega arith
count_next (n ∷ ns) (suc t) lt =
    let next : suc t + 1 ≡ suc (t + 1) = omega arith in
    let more : count_before (n ∷ ns) (suc t + 1) ≡ n + count_before ns (t + 1) =
    ap (λ k. count_before (n ∷ ns) k) next in
    omega (arith, more, count_next ns t (omega (arith, lt)))

-- the nodes of all tables
pub count_all : (tables : List (List Node))
    → count_before (map (λ xs. length xs) tables) (length tables) ≡ length (flat_map (λ xs. xs) tables)
count_all [] = refl
count_all (xs ∷ tables) =
    let whole = ap (λ l. length l) (flat_map-cons (λ (ys : List Node). ys) xs tables) in
    omega (arith, count_all tables, whole, length-append xs (flat_map (λ ys. ys) tables))

-- ---- one signature

-- a node of a table is a whole place
pub whole_at : (tables : List (List Node)) (t a : ℕ) (nodes : List Node) (x : Node) → t < length tables
    → a < length nodes → nodes ≡ table_of tables t → x ≡ get_or nodes a x → AreTypes nodes → IsWholePlace tables t a
whole_at tables t a nodes x lt la nodes_is x_is types =
    let len = ap (λ l. length l) nodes_is in
    let node : x ≡ node_of (table_of tables t) a =
    get_or_read nodes a x la x_is (make_node 0 []) ∙ ap (λ l. node_of l a) nodes_is in
    record {
      place = (lt, omega (arith, la, len));
      names = subst (λ y. NamesBelow (length (table_of tables t)) y) node
          (names_at nodes a (length (table_of tables t)) x la x_is types (sym len));
    }

-- what is made of a table's node is its signature
pub signature_at : (tables : List (List Node)) (classes : List (List ℕ)) (t a : ℕ) (row : List ℕ) (nodes : List Node)
    (x : Node) (s : Signature) → t < length tables → a < length nodes → row ≡ slice_index_or classes t []
    → nodes ≡ table_of tables t → x ≡ get_or nodes a x → AreTypes nodes → IsMadeOf row x (get_or row a 0) s
    → IsSignature tables classes t a s
signature_at tables classes t a row nodes x s lt la row_is nodes_is x_is types made =
    let node : x ≡ node_of (table_of tables t) a =
    get_or_read nodes a x la x_is (make_node 0 []) ∙ ap (λ l. node_of l a) nodes_is in
    let whole = whole_at tables t a nodes x lt la nodes_is x_is types in
    record {
      place = whole.place;
      names = whole.names;
      made = subst (λ l. IsMadeOf l (node_of (table_of tables t) a) (get_or l a 0) s) row_is
          (subst (λ y. IsMadeOf row y (get_or row a 0) s) node made);
    }

-- a class whose number is below the next one before a table has come with an earlier table
class_before : (tables : List (List Node)) (classes : List (List ℕ)) → AreClasses tables classes → (t a : ℕ)
    → IsNodePlace tables t a → class_of classes t a < next_at classes t
    → (u : ℕ) × (b : ℕ) × (u < t) × IsNodePlace tables u b × (class_of classes u b ≡ class_of classes t a)
class_before tables classes are t a place low =
    let many = rows_many tables classes are in
    let row = row_length tables classes are t place.0 in
    let inside : t < length tables = place.0 in
    let within : a < length (table_of tables t) = place.1 in
    let first = first_place classes (suc t) t a are.order (omega arith) (omega (arith, inside, many))
    (omega (arith, within, row)) in
    let u = first.0 in
    let b = first.1 in
    let at = first.2 in
    let early : u < t = elim (cases_lt u t) [
      | inl less ↦ less
      | inr past ↦
          let more : t + (u - t) ≡ u = omega (arith, past) in
          let grows = next_steps classes t (u - t) (omega (arith, past, at.within)) in
          absurd (omega (arith, grows, ap (next_at classes) more, at.first, at.same, low))
    ] in
    let there : u < length tables = omega (arith, early, inside) in
    let other = row_length tables classes are u there in
    (u, b, early, (there, omega (arith, at.inside, other)), at.same)

-- a signature is that of each node of its class
signature_on : (tables : List (List Node)) (classes : List (List ℕ)) → AreClasses tables classes → (u b t a : ℕ)
    (s : Signature) → IsSignature tables classes u b s → IsWholePlace tables t a
    → class_of classes u b ≡ class_of classes t a → IsSignature tables classes t a s
signature_on tables classes are u b t a s is at same =
    let there : IsWholePlace tables u b = record { place = is.place; names = is.names } in
    record {
      place = at.place;
      names = at.names;
      made = record {
        kind = sym (same_kind tables classes are u b t a is.place at.place same) ∙ is.made.kind;
        key = is.made.key ∙ same_key tables classes are u b t a there at same;
        class = is.made.class ∙ same;
      };
    }

-- ---- gathering

-- a node before the next one is before this one, or this one
earlier_cases : (u b t a : ℕ) → IsEarlier u b t (a + 1) → IsEarlier u b t a ⊎ ((u ≡ t) × (b ≡ a))
earlier_cases u b t a h =
    elim h [
      | inl less ↦ inl (inl less)
      | inr here ↦ elim (cases_lt b a) [
        | inl less ↦ inl (inr (here.0, less))
        | inr last ↦ inr (here.0, omega (arith, here.1, last))
      ]
    ]

module _ (tables : List (List Node)) (classes : List (List ℕ)) where
  -- before the first table there are none
  pub gather_none : AreGathered tables classes 0 0 []
  gather_none = record {
    sound = All-nil (λ s. IsSomeones tables classes s);
    whole = λ u b place early callable. elim early [
      | inl less ↦ absurd (omega (arith, less))
      | inr here ↦ absurd (omega (arith, here.1))
    ];
    few = omega arith;
  }

  -- the next node is no function's, or one of its class has come
  pub gather_skip : AreClasses tables classes → (t a : ℕ) → IsWholePlace tables t a → (signatures : List Signature)
      → AreGathered tables classes t a signatures
      → (IsCallable (node_of (table_of tables t) a).kind → class_of classes t a < next_at classes t)
      → AreGathered tables classes t (a + 1) signatures
  gather_skip are t a at signatures old come = record {
    sound = old.sound;
    whole = λ u b place early callable. elim (earlier_cases u b t a early) [
      | inl before ↦ old.whole u b place before callable
      | inr here ↦
          let is_callable = subst (λ k. IsCallable (node_of (table_of tables t) k).kind) here.1
          (subst (λ k. IsCallable (node_of (table_of tables k) b).kind) here.0 callable) in
          let had = come_before are t a at signatures old is_callable (come is_callable) in (
            had.0,
            had.1,
            subst (λ k. IsSignature tables classes k b had.0) (sym here.0)
                (subst (λ k. IsSignature tables classes t k had.0) (sym here.1) had.2),
          )
    ];
    few = omega (arith, old.few);
  }
    where
      come_before : AreClasses tables classes → (t a : ℕ) → IsWholePlace tables t a → (signatures : List Signature)
          → AreGathered tables classes t a signatures → IsCallable (node_of (table_of tables t) a).kind
          → class_of classes t a < next_at classes t
          → (s : Signature) × Contains signatures s × IsSignature tables classes t a s
      come_before are t a at signatures old callable low =
          let first = class_before tables classes are t a at.place low in
          let u = first.0 in
          let b = first.1 in
          let there = first.3 in
          let same = first.4 in
          let had = old.whole u b there (inl first.2)
          (subst IsCallable (sym (same_kind tables classes are u b t a there at.place same)) callable) in
          (had.0, had.1, signature_on tables classes are u b t a had.0 had.2 at same)

  -- the next node's signature is added
  pub gather_more : (t a : ℕ) (signatures : List Signature) (s : Signature)
      → AreGathered tables classes t a signatures → IsSignature tables classes t a s
      → AreGathered tables classes t (a + 1) (signatures ++ s ∷ [])
  gather_more t a signatures s old new = record {
    sound = All-push (λ s. IsSomeones tables classes s) signatures s old.sound (t, a, new);
    whole = λ u b place early callable. elim (earlier_cases u b t a early) [
      | inl before ↦
          let had = old.whole u b place before callable in
          (had.0, Contains-append_left signatures (s ∷ []) had.0 had.1, had.2)
      | inr here ↦ (
        s,
        Contains-push signatures s,
        subst (λ k. IsSignature tables classes k b s) (sym here.0)
            (subst (λ k. IsSignature tables classes t k s) (sym here.1) new),
      )
    ];
    few = omega (arith, old.few, length-append signatures (s ∷ []));
  }

  -- the next table
  pub gather_next : (t : ℕ) (signatures : List Signature) → t < length tables
      → AreGathered tables classes t (length (table_of tables t)) signatures
      → AreGathered tables classes (t + 1) 0 signatures
  gather_next t signatures lt old =
      let ns = map (λ (xs : List Node). length xs) tables in
      let len = length-map tables (λ (xs : List Node). length xs) in
      let next = count_next ns t (omega (arith, lt, len)) in
      let here : get_or ns t 0 ≡ length (table_of tables t) =
      get_or-map (λ (xs : List Node). length xs) tables t [] 0 lt in
      record {
        sound = old.sound;
        whole = λ u b place early callable. elim early [
          | inl less ↦ elim (cases_lt u t) [
            | inl before ↦ old.whole u b place (inl before) callable
            | inr last ↦
                let at : u ≡ t = omega (arith, less, last) in
                old.whole u b place (inr (at, subst (λ k. b < length (table_of tables k)) at place.1)) callable
          ]
          | inr none ↦ absurd (omega (arith, none.1))
        ];
        few = omega (arith, old.few, next, here);
      }

  -- the same in another order
  pub gather_moved : (t a : ℕ) (old new : List Signature) → AreGathered tables classes t a old
      → IsPermutation old new → AreGathered tables classes t a new
  gather_moved t a old new are moved = record {
    sound = All-permutation (λ s. IsSomeones tables classes s) old new moved are.sound;
    whole = λ u b place early callable.
        let had = are.whole u b place early callable in
        (had.0, Contains-permutation old new had.0 moved had.1, had.2);
    few = omega (arith, are.few, length_permutation old new moved);
  }
