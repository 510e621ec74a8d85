-- One step of the refinement keeps what holds of classes, and only finer classes are not settled yet.
use Rattle.std.proofs.Common.{◌≡◌, ◌≢◌, ℕ, zero, suc, ◌*◌, ◌<◌, ◌≤◌, List, [], length, map, get_or, All, sym, ap, subst, ◌∙◌, arith, inl, inr}
use Rattle.std.specs.List.{AllZip}
use Rattle.std.proofs.lemmas.Bool.{cases_order}
use Rattle.std.proofs.lemmas.List.Elements.{All-from_recursion, All-get_or}
use Rattle.cfi_type_table.specs.Node.{Node, make_node, node_of}
use Rattle.cfi_type_table.specs.Kind.{nodes_of}
use Rattle.cfi_type_table.specs.Spelling.{NamesBelow}
use Rattle.cfi_types.specs.Same.{Same, Equal}
use Rattle.cfi_types.specs.inner.Splitting.{signature, key_of, IsFirstOfKey, IsSplit, IsClosed, IsLow, IsStill}
use Rattle.cfi_types.specs.inner.Refining.{AreLeaders}
use Rattle.cfi_types.specs.inner.Keeping.{KeepEqual}
use Rattle.cfi_types.proofs.Pairs.{all_zip_at_each, map_from_all_zip, all_zip_from_map, total, total_lt_total, total_le_square}
use Rattle.cfi_types.proofs.Signatures.{alike_from_signature, signature_from_alike, class_from_key, signature_from_key, key_from_parts}

pub names_below : (nodes : List Node) (a : ℕ) → IsClosed nodes → a < length nodes
    → All (λ k. k < length nodes) (nodes_of (node_of nodes a))
names_below nodes a closed lt =
    All-get_or (NamesBelow (length nodes)) nodes a (make_node 0 []) lt
    (All-from_recursion (NamesBelow (length nodes)) nodes closed)

-- ---- equal nodes

-- the nodes that equal nodes name are equal, pair by pair
pub named_equal : (nodes : List Node) (a b : ℕ) → Equal nodes a nodes b
    → AllZip (λ c d. Equal nodes c nodes d) (nodes_of (node_of nodes a)) (nodes_of (node_of nodes b))
named_equal nodes a b h =
    all_zip_at_each (λ n c d. Same n nodes c nodes d) (nodes_of (node_of nodes a)) (nodes_of (node_of nodes b))
    (λ n. (h (suc n)).2)

-- classes that keep equal nodes together give them one signature
pub equal_signature : (nodes : List Node) (classes : List ℕ) (a b : ℕ) → IsClosed nodes
    → ((x y : ℕ) → x < length nodes → y < length nodes → Equal nodes x nodes y
    → get_or classes x 0 ≡ get_or classes y 0)
    → a < length nodes → b < length nodes → Equal nodes a nodes b
    → signature classes (node_of nodes a) ≡ signature classes (node_of nodes b)
equal_signature nodes classes a b closed together la lb h =
    let named : map (λ k. get_or classes k 0) (nodes_of (node_of nodes a)) ≡ map (λ k. get_or classes k 0)
    (nodes_of (node_of nodes b)) =
    map_from_all_zip (length nodes) (λ c d. Equal nodes c nodes d) (λ k. get_or classes k 0) together
    (nodes_of (node_of nodes a)) (nodes_of (node_of nodes b)) (names_below nodes a closed la)
    (names_below nodes b closed lb) (named_equal nodes a b h) in
    signature_from_alike classes (node_of nodes a) (node_of nodes b)
    (record { kind = (h 1).0; numbers = (h 1).1; named = named })

-- nodes are equal where one class means one signature
stable_same : (nodes : List Node) (classes : List ℕ) → IsClosed nodes
    → ((x y : ℕ) → x < length nodes → y < length nodes → get_or classes x 0 ≡ get_or classes y 0
    → signature classes (node_of nodes x) ≡ signature classes (node_of nodes y))
    → (n a b : ℕ) → a < length nodes → b < length nodes → get_or classes a 0 ≡ get_or classes b 0
    → Same n nodes a nodes b
stable_same nodes classes closed stable zero a b la lb e = tt
stable_same nodes classes closed stable (suc n) a b la lb e =
    let alike = alike_from_signature classes (node_of nodes a) (node_of nodes b) (stable a b la lb e) in (
      alike.kind,
      alike.numbers,
      all_zip_from_map (length nodes) (λ c d. Same n nodes c nodes d) (λ k. get_or classes k 0)
          (stable_same nodes classes closed stable n)
          (nodes_of (node_of nodes a)) (nodes_of (node_of nodes b)) (names_below nodes a closed la)
          (names_below nodes b closed lb) alike.named,
    )

-- ---- parts

-- nodes of one key have one least node
pub least_alike : (key : ℕ → List ℕ) (a b m n : ℕ) → IsFirstOfKey key a m → IsFirstOfKey key b n → key a ≡ key b → m ≡ n
least_alike key a b m n p q e =
    elim (cases_order m n) [
      | inl same ↦ same
      | inr order ↦ elim order [
        | inl less ↦ absurd (q.least m less (p.alike ∙ e))
        | inr more ↦ absurd (p.least n more (q.alike ∙ sym e))
      ]
    ]

least_key : (key : ℕ → List ℕ) (a b m n : ℕ) → IsFirstOfKey key a m → IsFirstOfKey key b n → m ≡ n → key a ≡ key b
least_key key a b m n p q e = sym p.alike ∙ ap key e ∙ q.alike

module _ (nodes : List Node) (classes next : List ℕ) (closed : IsClosed nodes) (before : KeepEqual nodes classes)
    (split : IsSplit nodes classes next) where
  one_key : (a b : ℕ) → a < length nodes → b < length nodes → get_or next a 0 ≡ get_or next b 0
      → key_of nodes classes a ≡ key_of nodes classes b
  one_key a b la lb e =
      least_key (key_of nodes classes) a b (get_or next a 0) (get_or next b 0) (split.least a la) (split.least b lb) e

  equal_parts : (a b : ℕ) → a < length nodes → b < length nodes → Equal nodes a nodes b
      → get_or next a 0 ≡ get_or next b 0
  equal_parts a b la lb h =
      let sign = equal_signature nodes classes a b closed before.kept la lb h in
      least_alike (key_of nodes classes) a b (get_or next a 0) (get_or next b 0) (split.least a la)
      (split.least b lb) (key_from_parts nodes classes a b (before.kept a b la lb h) sign)

  part_below : (a : ℕ) → a < length nodes → get_or next a 0 < length nodes
  part_below a la = omega (arith, (split.least a la).within)

  own_part : (a : ℕ) → a < length nodes → get_or next (get_or next a 0) 0 ≡ get_or next a 0
  own_part a la =
      let m = get_or next a 0 in
      let lm : m < length nodes = part_below a la in
      least_alike (key_of nodes classes) m a (get_or next m 0) m (split.least m lm) (split.least a la)
      (split.least a la).alike

  -- the part's least node is no less than the class's
  part_above : (a : ℕ) → a < length nodes → get_or classes a 0 ≤ get_or next a 0
  part_above a la =
      let m = get_or next a 0 in
      let lm : m < length nodes = part_below a la in
      let class : get_or classes m 0 ≡ get_or classes a 0 =
      class_from_key nodes classes m a (split.least a la).alike in
      let low : get_or classes m 0 ≤ m = before.low m (omega (arith, before.len)) in
      omega arith

  -- the parts rise until they stand still
  pub rises : next ≢ classes → total classes < total next
  rises differ =
      total_lt_total classes next (before.len ∙ sym split.len) (λ a lt. part_above a (omega (arith, before.len)))
      (λ e. differ (sym e))

  pub bounded : total next ≤ length nodes * length nodes
  bounded =
      let all : total next ≤ length next * length nodes =
      total_le_square (length nodes) next (λ a lt. let lb : a < length nodes = omega (arith, split.len) in
      omega (arith, part_below a lb)) in
      subst (λ n. total next ≤ n * length nodes) split.len all

  next_low : IsLow next
  next_low a lt = (split.least a (omega (arith, split.len))).within

  pub parts_keep : KeepEqual nodes next
  parts_keep = record { len = split.len; low = next_low; own = own_part; kept = equal_parts }

-- ---- standing still

module _ (nodes : List Node) (classes : List ℕ) (closed : IsClosed nodes) (keep : KeepEqual nodes classes) where
  -- classes that no step changes are those of equal nodes
  pub leaders : IsStill nodes classes → AreLeaders nodes classes
  leaders still = record {
    len = keep.len;
    low = keep.low;
    leader = keep.own;
    equal = λ a b la lb. (
      (λ e n. stable_same nodes classes closed stable n a b la lb e),
      (λ h. keep.kept a b la lb h),
    );
  }
    where
      stable : (x y : ℕ) → x < length nodes → y < length nodes → get_or classes x 0 ≡ get_or classes y 0
          → signature classes (node_of nodes x) ≡ signature classes (node_of nodes y)
      stable x y lx ly e = sym (still x lx) ∙ ap (λ k. signature classes (node_of nodes k)) e ∙ still y ly

  -- a step that changes nothing shows it
  pub still_by : (next : List ℕ) → IsSplit nodes classes next → next ≡ classes → IsStill nodes classes
  still_by next split same a la =
      signature_from_key nodes classes (get_or classes a 0) a
      (subst (λ (l : List ℕ). key_of nodes classes (get_or l a 0) ≡ key_of nodes classes a) same (split.least a la).alike)

-- what is said of slices, said of the lists in them
pub split_of : (nodes : List Node) (cs classes next : List ℕ) → cs ≡ classes → IsSplit nodes cs next
    → IsSplit nodes classes next
split_of nodes cs classes next p h = subst (λ (c : List ℕ). IsSplit nodes c next) p h
