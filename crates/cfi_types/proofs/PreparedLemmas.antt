-- A new table beside the near ones: what is prepared, and how places and numbers go.
use Rattle.std.proofs.Common.{◌≡◌, ℕ, ◌+◌, ◌<◌, List, [], ◌∷◌, ◌++◌, length, map, get_or, All, sym, ap, subst, ◌∙◌, arith}
use Rattle.std.specs.List.{AllByRecursion}
use Rattle.std.proofs.lemmas.List.{length-append, length-map, get_or_append_left, get_or_push, get_or-map}
use Rattle.std.proofs.lemmas.List.Elements.{All-from_recursion, All-get_or, All-head, All-tail}
use Rattle.cfi_type_table.specs.Node.{Node}
use Rattle.cfi_type_table.specs.Spelling.{AreTypes}
use Rattle.cfi_types.specs.Classes.{table_of, IsNodePlace, AreClasses}
use Rattle.cfi_types.specs.inner.Depth.{digests_to}
use Rattle.cfi_types.specs.inner.Extending.{AreNear}
use Rattle.cfi_types.specs.declared.near.TheConstants.{DEPTH}

-- the new table is compared with those that are near, where all have their classes
pub record IsPrepared (tables : List (List Node)) (kept : List (List ℕ)) (new : List Node) (numbers : List ℕ)
    (near : List (List Node)) (own : List (List ℕ)) : Type 0 where
  pub types : AllByRecursion AreTypes tables
  pub more : AreTypes new
  pub classes : AreClasses tables kept
  pub is_near : AreNear tables kept (digests_to DEPTH new) numbers near
  pub owns : AreClasses (near ++ new ∷ []) own

-- the numbers of the new table's nodes among those of the near ones
abbrev pub new_row : (own : List (List ℕ)) → (numbers : List ℕ) → List ℕ
new_row own numbers = get_or own (length numbers) []

tables_by : (P : List Node → Type 0) (tables : List (List Node)) (new : List Node) (numbers : List ℕ)
    → ((t : ℕ) → t < length tables → P (table_of tables t)) → P new → All (λ t. t < length tables) numbers
    → AllByRecursion P (map (table_of tables) numbers ++ new ∷ [])
tables_by P tables new [] each more within = (more, tt)
tables_by P tables new (t ∷ numbers) each more within = (
  each t (All-head (λ k. k < length tables) t numbers within),
  tables_by P tables new numbers each more (All-tail (λ k. k < length tables) t numbers within),
)

pub near_types : (tables : List (List Node)) (kept : List (List ℕ)) (told : List ℕ) (new : List Node) (numbers : List ℕ)
    (near list : List (List Node)) → AllByRecursion AreTypes tables → AreTypes new
    → AreNear tables kept told numbers near → list ≡ near ++ new ∷ [] → AllByRecursion AreTypes list
near_types tables kept told new numbers near list types more is_near is =
    subst (AllByRecursion AreTypes) (sym is)
    (subst (λ (xs : List (List Node)). AllByRecursion AreTypes (xs ++ new ∷ [])) (sym is_near.each)
    (tables_by AreTypes tables new numbers
    (λ t lt. All-get_or AreTypes tables t [] lt (All-from_recursion AreTypes tables types)) more is_near.within))

module _ {tables : List (List Node)} {kept : List (List ℕ)} {new : List Node} {numbers : List ℕ}
    {near : List (List Node)} {own : List (List ℕ)} (s : IsPrepared tables kept new numbers near own) where
  pub as_many : length kept ≡ length tables
  as_many = sym (length-map kept (length {A = ℕ})) ∙ ap (length {A = ℕ}) s.classes.shape ∙ length-map tables (length {A = Node})

  pub near_many : length near ≡ length numbers
  near_many = ap (length {A = List Node}) s.is_near.each ∙ length-map numbers (table_of tables)

  pub own_many : length own ≡ length numbers + 1
  own_many =
      omega (
        arith,
        length-map own (length {A = ℕ}),
        ap (length {A = ℕ}) s.owns.shape,
        length-map (near ++ new ∷ []) (length {A = Node}),
        length-append near (new ∷ []),
        near_many,
      )

  -- a table of the near ones and the new one, and its row
  pub near_at : (i : ℕ) → i < length numbers → table_of (near ++ new ∷ []) i ≡ table_of tables (get_or numbers i 0)
  near_at i lt =
      get_or_append_left near (new ∷ []) [] i (omega (arith, lt, near_many))
      ∙ ap (λ (xs : List (List Node)). get_or xs i []) s.is_near.each
      ∙ get_or-map (table_of tables) numbers i 0 [] lt

  pub new_at : table_of (near ++ new ∷ []) (length numbers) ≡ new
  new_at = get_or_push near new [] (length numbers) near_many

  pub own_row : (i : ℕ) → i < length numbers + 1 → length (get_or own i []) ≡ length (table_of (near ++ new ∷ []) i)
  own_row i lt =
      sym (get_or-map (length {A = ℕ}) own i [] 0 (omega (arith, lt, own_many)))
      ∙ ap (λ (ls : List ℕ). get_or ls i 0) s.owns.shape
      ∙ get_or-map (length {A = Node}) (near ++ new ∷ []) i [] 0
      (omega (arith, lt, length-append near (new ∷ []), near_many))

  pub kept_row : (t : ℕ) → t < length tables → length (get_or kept t []) ≡ length (table_of tables t)
  kept_row t lt =
      sym (get_or-map (length {A = ℕ}) kept t [] 0 (omega (arith, lt, as_many)))
      ∙ ap (λ (ls : List ℕ). get_or ls t 0) s.classes.shape
      ∙ get_or-map (length {A = Node}) tables t [] 0 lt

  pub new_many : length (new_row own numbers) ≡ length new
  new_many = own_row (length numbers) (omega arith) ∙ ap (length {A = Node}) new_at

  pub number_within : (i : ℕ) → i < length numbers → get_or numbers i 0 < length tables
  number_within i lt = All-get_or (λ t. t < length tables) numbers i 0 lt s.is_near.within

  -- a near table's row is as long as the kept one
  pub back_row : (i : ℕ) → i < length numbers
      → length (get_or own i []) ≡ length (get_or kept (get_or numbers i 0) [])
  back_row i lt =
      own_row i (omega (arith, lt)) ∙ ap (length {A = Node}) (near_at i lt)
      ∙ sym (kept_row (get_or numbers i 0) (number_within i lt))

  -- a node of a near table, and one of the new table, among their own
  pub near_place : (i a : ℕ) → i < length numbers → a < length (get_or own i []) → IsNodePlace (near ++ new ∷ []) i a
  near_place i a lt la =
      (omega (arith, lt, length-append near (new ∷ []), near_many), omega (arith, la, own_row i (omega (arith, lt))))

  pub new_place : (b : ℕ) → b < length new → IsNodePlace (near ++ new ∷ []) (length numbers) b
  new_place b lb =
      (omega (arith, length-append near (new ∷ []), near_many), omega (arith, lb, ap (length {A = Node}) new_at))
