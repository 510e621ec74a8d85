-- The place of each node in the list that joins the tables, and of its number among all numbers.
use Rattle.std.proofs.Common.{◌≡◌, ℕ, zero, suc, ◌+◌, ◌<◌, ◌≤◌, List, [], ◌∷◌, ◌++◌, length, map, take, drop, get_or, All, refl, sym, ap, subst, ◌∙◌, append_assoc, add-zero, arith, inl, inr}
use Rattle.std.specs.List.{flat_map, AllByRecursion}
use Rattle.std.proofs.lemmas.Bool.{cases_lt}
use Rattle.std.proofs.lemmas.List.{append-nil, length-append, length-map, length-take-le, take_at, drop_at, take_all, drop_all, get_or_append_left, get_or-append-add, get_or-map, take_more}
use Rattle.std.proofs.lemmas.List.Concat.{flat_map-cons}
use Rattle.std.proofs.lemmas.List.Elements.{All-map, All-weaker}
use Rattle.cfi_type_table.specs.Node.{Node, make_node, node_of}
use Rattle.cfi_type_table.specs.Kind.{number_count, numbers_of, nodes_of}
use Rattle.cfi_type_table.specs.Spelling.{NamesBelow, AreTypes}
use Rattle.cfi_types.specs.Classes.{table_of, class_of}
use Rattle.cfi_types.specs.inner.Joined.{shifted, joined_from}
use Rattle.cfi_types.specs.inner.Splitting.{IsClosed}

abbrev pub flat : {A : Type 0} → List (List A) → List A
flat xss = flat_map (λ xs. xs) xss

-- ---- a node in the list

-- taking off the front that was put on
parts_again : (n : ℕ) (fields : List ℕ) (f : ℕ → ℕ)
    → (take n (take n fields ++ map f (drop n fields)) ≡ take n fields)
    × (drop n (take n fields ++ map f (drop n fields)) ≡ map f (drop n fields))
parts_again n fields f =
    elim (cases_lt (length fields) n) [
      | inl less ↦
          let none : drop n fields ≡ [] = drop_all n fields (omega arith) in
          let all : take n fields ≡ fields = take_all n fields (omega arith) in
          let whole : take n fields ++ map f (drop n fields) ≡ fields =
          ap (λ (p : List ℕ). p ++ map f (drop n fields)) all ∙ ap (λ (q : List ℕ). fields ++ map f q) none
          ∙ append-nil fields in
          (ap (take n) whole, ap (drop n) whole ∙ none ∙ sym (ap (map f) none))
      | inr enough ↦
          let len : length (take n fields) ≡ n = length-take-le n fields enough in
          (take_at (take n fields) (map f (drop n fields)) n len, drop_at (take n fields) (map f (drop n fields)) n len)
    ]

pub shifted_numbers : (start : ℕ) (x : Node) → numbers_of (shifted start x) ≡ numbers_of x
shifted_numbers start x = (parts_again (number_count x.kind) x.fields (λ k. start + k)).0

pub shifted_nodes : (start : ℕ) (x : Node) → nodes_of (shifted start x) ≡ map (λ k. start + k) (nodes_of x)
shifted_nodes start x = (parts_again (number_count x.kind) x.fields (λ k. start + k)).1

-- ---- the list

pub length_joined : (start : ℕ) (tables : List (List Node)) → length (joined_from start tables) ≡ length (flat tables)
length_joined start [] = refl
length_joined start (xs ∷ tables) =
    let rest = length_joined (start + length xs) tables in
    let one : length (map (shifted start) xs ++ joined_from (start + length xs) tables) ≡ length xs + length
    (flat tables) =
    length-append (map (shifted start) xs) (joined_from (start + length xs) tables)
    ∙ ap (λ n. n + length (joined_from (start + length xs) tables)) (length-map xs (shifted start))
    ∙ ap (λ n. length xs + n) rest in
    one ∙ sym (length-append xs (flat tables))
    ∙ ap (length {A = Node}) (sym (flat_map-cons (λ (ys : List Node). ys) xs tables))

joined_push : (start : ℕ) (tables : List (List Node)) (xs : List Node)
    → joined_from start (tables ++ xs ∷ []) ≡ joined_from start tables ++ map
    (shifted (start + length (joined_from start tables))) xs
joined_push start [] xs = append-nil (map (shifted start) xs) ∙ ap (λ n. map (shifted n) xs) (sym (add-zero start))
joined_push start (ys ∷ tables) xs =
    let front = map (shifted start) ys in
    let rest = joined_from (start + length ys) tables in
    let place : (start + length ys) + length rest ≡ start + length (front ++ rest) =
    omega (arith, length-append front rest, length-map ys (shifted start)) in
    ap (λ (t : List Node). front ++ t) (joined_push (start + length ys) tables xs)
    ∙ sym (append_assoc front rest (map (shifted ((start + length ys) + length rest)) xs))
    ∙ ap (λ n. (front ++ rest) ++ map (shifted n) xs) place

-- one more table
pub joined_more : (tables : List (List Node)) (i : ℕ) (xs : List Node) → i < length tables → xs ≡ get_or tables i xs
    → joined_from 0 (take (i + 1) tables) ≡ joined_from 0 (take i tables) ++ map
    (shifted (length (joined_from 0 (take i tables)))) xs
joined_more tables i xs lt is =
    let n : 0 + length (joined_from 0 (take i tables)) ≡ length (joined_from 0 (take i tables)) = omega arith in
    ap (joined_from 0) (take_more tables i xs lt)
    ∙ ap (λ (ys : List Node). joined_from 0 (take i tables ++ ys ∷ [])) (sym is) ∙ joined_push 0 (take i tables) xs
    ∙ ap (λ k. joined_from 0 (take i tables) ++ map (shifted k) xs) n

-- the nodes of one more table are added
pub join_step : (tables : List (List Node)) (i : ℕ) (xs ys items : List Node) (n : ℕ) → i < length tables
    → xs ≡ get_or tables i xs → ys ≡ xs → items ≡ joined_from 0 (take i tables) → n ≡ length items
    → items ++ map (shifted n) ys ≡ joined_from 0 (take (i + 1) tables)
join_step tables i xs ys items n lt is same so_far count =
    ap (λ (zs : List Node). items ++ map (shifted n) zs) same
    ∙ ap (λ k. items ++ map (shifted k) xs) count
    ∙ ap (λ (front : List Node). front ++ map (shifted (length front)) xs) so_far
    ∙ sym (joined_more tables i xs lt is)

-- ---- places

-- how many nodes the tables before table t have, by the tables' lengths
abbrev pub before : List ℕ → (t : ℕ) → ℕ
before [] t = 0
before (n ∷ ns) zero = 0
before (n ∷ ns) (suc t) = n + before ns t

-- the parts before part t and part t itself are no more than all
pub before_fits : {A : Type 0} (xss : List (List A)) (t : ℕ) → t < length xss
    → before (map (length {A = A}) xss) t + length (get_or xss t []) ≤ length (flat xss)
before_fits [] t lt = absurd (omega arith)
before_fits {A = A} (xs ∷ xss) zero lt =
    omega (arith, length-append xs (flat xss), ap (length {A = A}) (flat_map-cons (λ (ys : List A). ys) xs xss))
before_fits {A = A} (xs ∷ xss) (suc t) lt =
    let rest : before (map (length {A = A}) xss) t + length (get_or xss t []) ≤ length (flat xss) =
    before_fits xss t (omega arith) in
    omega (arith, length-append xs (flat xss), ap (length {A = A}) (flat_map-cons (λ (ys : List A). ys) xs xss))

-- the lengths of the first parts
pub flat_take_fits : (tables : List (List Node)) (i : ℕ) (xs : List Node) → i < length tables
    → xs ≡ get_or tables i xs → length (flat (take i tables)) + length xs ≤ length (flat tables)
flat_take_fits [] i xs lt is = absurd (omega arith)
flat_take_fits (ys ∷ tables) zero xs lt is =
    let same : length xs ≡ length ys = ap (length {A = Node}) is in
    omega (
      arith,
      length-append ys (flat tables),
      ap (length {A = Node}) (flat_map-cons (λ (zs : List Node). zs) ys tables),
    )
flat_take_fits (ys ∷ tables) (suc i) xs lt is =
    let rest : length (flat (take i tables)) + length xs ≤ length (flat tables) =
    flat_take_fits tables i xs (omega arith) is in
    let front : length (flat (ys ∷ take i tables)) ≡ length ys + length (flat (take i tables)) =
    ap (length {A = Node}) (flat_map-cons (λ (zs : List Node). zs) ys (take i tables))
    ∙ length-append ys (flat (take i tables)) in
    let whole : length (flat (ys ∷ tables)) ≡ length ys + length (flat tables) =
    ap (length {A = Node}) (flat_map-cons (λ (zs : List Node). zs) ys tables) ∙ length-append ys (flat tables) in
    omega (arith, front, whole, rest)

pub joined_at : (start : ℕ) (tables : List (List Node)) (t a : ℕ) → t < length tables → a < length (table_of tables t)
    → node_of (joined_from start tables) (before (map (length {A = Node}) tables) t + a) ≡ shifted
    (start + before (map (length {A = Node}) tables) t) (node_of (table_of tables t) a)
joined_at start [] t a lt la = absurd (omega arith)
joined_at start (xs ∷ tables) zero a lt la =
    let here : a < length (map (shifted start) xs) = omega (arith, length-map xs (shifted start), la) in
    let place : 0 + a ≡ a = omega arith in
    ap (λ k. node_of (map (shifted start) xs ++ joined_from (start + length xs) tables) k) place
    ∙ get_or_append_left (map (shifted start) xs) (joined_from (start + length xs) tables) (make_node 0 []) a here
    ∙ get_or-map (shifted start) xs a (make_node 0 []) (make_node 0 []) la
    ∙ ap (λ n. shifted n (node_of xs a)) (sym (add-zero start))
joined_at start (xs ∷ tables) (suc t) a lt la =
    let ns = map (length {A = Node}) tables in
    let front = map (shifted start) xs in
    let rest = joined_from (start + length xs) tables in
    let place : (length xs + before ns t) + a ≡ length front + (before ns t + a) =
    omega (arith, length-map xs (shifted start)) in
    let shift : (start + length xs) + before ns t ≡ start + (length xs + before ns t) = omega arith in
    ap (λ k. node_of (front ++ rest) k) place
    ∙ get_or-append-add front rest (before ns t + a) (make_node 0 [])
    ∙ joined_at (start + length xs) tables t a (omega arith) la
    ∙ ap (λ n. shifted n (node_of (table_of tables t) a)) shift

pub number_at : (rows : List (List ℕ)) (t a : ℕ) → t < length rows → a < length (get_or rows t [])
    → get_or (flat rows) (before (map (length {A = ℕ}) rows) t + a) 0 ≡ class_of rows t a
number_at [] t a lt la = absurd (omega arith)
number_at (row ∷ rows) zero a lt la =
    let place : 0 + a ≡ a = omega arith in
    ap (λ (l : List ℕ). get_or l (0 + a) 0) (flat_map-cons (λ (r : List ℕ). r) row rows)
    ∙ ap (λ k. get_or (row ++ flat rows) k 0) place ∙ get_or_append_left row (flat rows) 0 a la
number_at (row ∷ rows) (suc t) a lt la =
    let ns = map (length {A = ℕ}) rows in
    let place : (length row + before ns t) + a ≡ length row + (before ns t + a) = omega arith in
    ap (λ (l : List ℕ). get_or l ((length row + before ns t) + a) 0) (flat_map-cons (λ (r : List ℕ). r) row rows)
    ∙ ap (λ k. get_or (row ++ flat rows) k 0) place ∙ get_or-append-add row (flat rows) (before ns t + a) 0
    ∙ number_at rows t a (omega arith) la

-- ---- closed

closed_shifted : (n start m : ℕ) (xs : List Node) → start + m ≤ n → AllByRecursion (NamesBelow m) xs
    → AllByRecursion (NamesBelow n) (map (shifted start) xs)
closed_shifted n start m [] fits h = tt
closed_shifted n start m (x ∷ xs) fits h =
    let named : All (λ k. start + k < n) (nodes_of x) =
    All-weaker (λ k. k < m) (λ k. start + k < n) (λ k lt. omega arith) (nodes_of x) h.0 in (
      subst (λ (ks : List ℕ). All (λ k. k < n) ks) (sym (shifted_nodes start x))
          (All-map (λ k. k < n) (λ k. start + k) (nodes_of x) named),
      closed_shifted n start m xs fits h.1,
    )

all_append : {A : Type 0} (P : A → Type 0) (xs ys : List A) → AllByRecursion P xs → AllByRecursion P ys
    → AllByRecursion P (xs ++ ys)
all_append P [] ys p q = q
all_append P (x ∷ xs) ys p q = (p.0, all_append P xs ys p.1 q)

closed_from : (n start : ℕ) (tables : List (List Node)) → start + length (flat tables) ≤ n
    → AllByRecursion AreTypes tables → AllByRecursion (NamesBelow n) (joined_from start tables)
closed_from n start [] fits types = tt
closed_from n start (xs ∷ tables) fits types =
    let whole : length (flat (xs ∷ tables)) ≡ length xs + length (flat tables) =
    ap (length {A = Node}) (flat_map-cons (λ (ys : List Node). ys) xs tables) ∙ length-append xs (flat tables) in
    all_append (NamesBelow n) (map (shifted start) xs) (joined_from (start + length xs) tables)
    (closed_shifted n start (length xs) xs (omega (arith, whole)) types.0.names)
    (closed_from n (start + length xs) tables (omega (arith, whole)) types.1)

pub closed_joined : (tables : List (List Node)) → AllByRecursion AreTypes tables → IsClosed (joined_from 0 tables)
closed_joined tables types =
    closed_from (length (joined_from 0 tables)) 0 tables (omega (arith, length_joined 0 tables)) types
