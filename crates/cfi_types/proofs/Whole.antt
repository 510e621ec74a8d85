-- The numbers of the joined list, laid out table by table, are the classes of the tables.
use Rattle.std.proofs.Common.{◌≡◌, ℕ, ◌+◌, ◌<◌, List, [], length, map, get_or, sym, ap, subst, ◌∙◌, arith, Result, Ok, Err}
use Rattle.std.specs.Prelude.{◌↔◌, IfOk}
use Rattle.std.specs.declared.alloc.AllocError.{AllocError}
use Rattle.std.specs.List.{AllByRecursion}
use Rattle.std.proofs.lemmas.List.{length-map, get_or-map}
use Rattle.std.proofs.lemmas.List.Elements.{All-from_recursion, All-get_or}
use Rattle.cfi_type_table.specs.Node.{Node, node_of}
use Rattle.cfi_type_table.specs.Spelling.{AreTypes}
use Rattle.cfi_types.specs.Same.{Equal}
use Rattle.cfi_types.specs.Classes.{table_of, class_of, IsNodePlace, InOrder, AreClasses}
use Rattle.cfi_types.specs.inner.Joined.{shifted, joined_from}
use Rattle.cfi_types.specs.inner.Refining.{AreLeaders}
use Rattle.cfi_types.specs.Numbering.{AreNumbers}
use Rattle.cfi_types.proofs.Places.{flat, length_joined, before, before_fits, joined_at, number_at}
use Rattle.cfi_types.proofs.Agreement.{StandsAt, equal_there}

both_ways : {A B C : Type 0} → A ↔ B → B ↔ C → A ↔ C
both_ways p q = ((λ a. q.0 (p.0 a)), (λ c. p.1 (q.1 c)))

module _ (tables : List (List Node)) (leaders numbers : List ℕ) (classes : List (List ℕ))
    (types : AllByRecursion AreTypes tables) (lead : AreLeaders (joined_from 0 tables) leaders)
    (number : AreNumbers leaders numbers)
    (whole : flat classes ≡ numbers) (shape : map (length {A = ℕ}) classes ≡ map (length {A = Node}) tables) where
  -- the place of node a of table t in the joined list
  place_of : (t a : ℕ) → ℕ
  place_of t a = before (map (length {A = Node}) tables) t + a

  place_within : (t a : ℕ) → IsNodePlace tables t a → place_of t a < length (joined_from 0 tables)
  unfolding place_of
  place_within t a here = omega (arith, before_fits tables t here.0, length_joined 0 tables, here.1)

  class_at : (t a : ℕ) → IsNodePlace tables t a → class_of classes t a ≡ get_or numbers (place_of t a) 0
  unfolding place_of
  class_at t a here =
      let rows : length classes ≡ length tables = sym (length-map classes (length {A = ℕ}))
      ∙ ap (length {A = ℕ}) shape ∙ length-map tables (length {A = Node}) in
      let lt : t < length classes = omega (arith, rows, here.0) in
      let row : length (get_or classes t []) ≡ length (table_of tables t) =
      sym (get_or-map (length {A = ℕ}) classes t [] 0 lt) ∙ ap (λ (l : List ℕ). get_or l t 0) shape
      ∙ get_or-map (length {A = Node}) tables t [] 0 here.0 in
      sym (number_at classes t a lt (omega (arith, row, here.1)))
      ∙ ap (λ (ns : List ℕ). get_or (flat classes) (before ns t + a) 0) shape
      ∙ ap (λ (l : List ℕ). get_or l (before (map (length {A = Node}) tables) t + a) 0) whole

  stands : (t : ℕ) → t < length tables
      → StandsAt (joined_from 0 tables) (table_of tables t) (before (map (length {A = Node}) tables) t)
  stands t lt = record {
    closed = (All-get_or AreTypes tables t [] lt (All-from_recursion AreTypes tables types)).names;
    each = λ a la.
        let none : 0 + before (map (length {A = Node}) tables) t ≡ before (map (length {A = Node}) tables) t =
        omega arith in
        joined_at 0 tables t a lt la ∙ ap (λ n. shifted n (node_of (table_of tables t) a)) none;
  }

  equal_classes : (t a u b : ℕ) → IsNodePlace tables t a → IsNodePlace tables u b
      → (class_of classes t a ≡ class_of classes u b) ↔ Equal (table_of tables t) a (table_of tables u) b
  unfolding place_of
  equal_classes t a u b here there =
      let i = place_of t a in
      let j = place_of u b in
      let la : i < length leaders = omega (arith, place_within t a here, lead.len) in
      let lb : j < length leaders = omega (arith, place_within u b there, lead.len) in
      let named : (class_of classes t a ≡ class_of classes u b) ↔ (get_or numbers i 0 ≡ get_or numbers j 0) = (
        (λ e. sym (class_at t a here) ∙ e ∙ class_at u b there),
        (λ e. class_at t a here ∙ e ∙ sym (class_at u b there)),
      ) in
      both_ways named
      (both_ways (number.same i j la lb) (both_ways (lead.equal i j (place_within t a here) (place_within u b there))
      (equal_there (joined_from 0 tables) (table_of tables t) (table_of tables u)
      (before (map (length {A = Node}) tables) t) (before (map (length {A = Node}) tables) u) (stands t here.0)
      (stands u there.0) a b here.1 there.1)))

  pub are_classes : AreClasses tables classes
  are_classes = record { shape = shape; equal = equal_classes; order = subst (InOrder 0) (sym whole) number.order }

-- the same of what laying out returned
pub classes_by_table : (tables : List (List Node)) (leaders numbers : List ℕ) (r : Result (List (List ℕ)) AllocError)
    → AllByRecursion AreTypes tables → AreLeaders (joined_from 0 tables) leaders → AreNumbers leaders numbers
    → IfOk r (λ classes. flat classes ≡ numbers)
    → IfOk r (λ classes. map (length {A = ℕ}) classes ≡ map (length {A = Node}) tables)
    → IfOk r (λ classes. AreClasses tables classes)
classes_by_table tables leaders numbers (Ok classes) types lead number whole shape =
    are_classes tables leaders numbers classes types lead number whole shape
classes_by_table tables leaders numbers (Err e) types lead number whole shape = tt
