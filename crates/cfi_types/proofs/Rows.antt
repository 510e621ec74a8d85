-- Numbers that are laid out table by table.
use Rattle.std.proofs.Common.{◌≡◌, ℕ, ◌+◌, ◌<◌, ◌≤◌, List, [], ◌∷◌, ◌++◌, length, map, take, drop, get_or, refl, sym, ap, subst, ◌∙◌, append_assoc, arith}
use Rattle.std.specs.Global.{Vec}
use Rattle.std.proofs.lemmas.List.{append-nil, length-append, take-append-drop, map_push, take_more, take_all, nil_from_length, length-take-le}
use Rattle.std.proofs.lemmas.List.Concat.{flat_map-cons}
use Rattle.cfi_type_table.specs.Node.{Node}
use Rattle.cfi_types.proofs.Places.{flat, flat_take_fits}

abbrev pub views : List (Vec ℕ) → List (List ℕ)
views rows = map (λ row. row.items) rows

-- the rows of the first i tables, and the numbers that are left
pub record RowsSoFar (tables : List (List Node)) (numbers : List ℕ) (i : ℕ) (rows : List (Vec ℕ))
    (rest : List ℕ) : Type 0 where
  pub parts : numbers ≡ flat (views rows) ++ rest
  pub shape : map (length {A = ℕ}) (views rows) ≡ map (length {A = Node}) (take i tables)
  pub front : length (flat (views rows)) ≡ length (flat (take i tables))

flat_push : {A : Type 0} (xss : List (List A)) (xs : List A) → flat (xss ++ xs ∷ []) ≡ flat xss ++ xs
flat_push {A = A} [] xs = flat_map-cons (λ (ys : List A). ys) xs [] ∙ append-nil xs
flat_push {A = A} (ys ∷ xss) xs = flat_map-cons (λ (zs : List A). zs) ys (xss ++ xs ∷ [])
    ∙ ap (λ (l : List A). ys ++ l) (flat_push xss xs) ∙ sym (append_assoc ys (flat xss) xs)
    ∙ ap (λ (l : List A). l ++ xs) (sym (flat_map-cons (λ (zs : List A). zs) ys xss))

pub no_rows : (tables : List (List Node)) (numbers : List ℕ) (rows : List (Vec ℕ)) → rows ≡ []
    → RowsSoFar tables numbers 0 rows numbers
no_rows tables numbers rows none =
    subst (λ (r : List (Vec ℕ)). RowsSoFar tables numbers 0 r numbers) (sym none)
    (record { parts = refl; shape = refl; front = refl })

-- one more row
module _ (tables : List (List Node)) (numbers : List ℕ) (i : ℕ) (rows : List (Vec ℕ)) (rest : List ℕ)
    (so_far : RowsSoFar tables numbers i rows rest) (all : length numbers ≡ length (flat tables))
    (xs : List Node) (lt : i < length tables) (is : xs ≡ get_or tables i xs) where
  pub enough : length xs ≤ length rest
  enough = omega (
    arith,
    flat_take_fits tables i xs lt is,
    so_far.front,
    ap (length {A = ℕ}) so_far.parts,
    length-append (flat (views rows)) rest,
    all,
  )

  pub one_row_more : (row : Vec ℕ) (rows' : List (Vec ℕ)) (n : ℕ) → n ≡ length xs → row.items ≡ take n rest
      → rows' ≡ rows ++ row ∷ [] → RowsSoFar tables numbers (i + 1) rows' (drop n rest)
  one_row_more row rows' n count is_row pushed =
      let pushed_views : views rows' ≡ views rows ++ row.items ∷ [] = ap views pushed
      ∙ map_push (λ (r : Vec ℕ). r.items) rows row in
      let whole : flat (views rows') ≡ flat (views rows) ++ row.items = ap (flat {A = ℕ}) pushed_views
      ∙ flat_push (views rows) row.items in
      let len : length row.items ≡ length xs = ap (length {A = ℕ}) is_row
      ∙ length-take-le n rest (omega (arith, enough)) ∙ count in
      let tables_more : take (i + 1) tables ≡ take i tables ++ xs ∷ [] = take_more tables i xs lt
      ∙ ap (λ (ys : List Node). take i tables ++ ys ∷ []) (sym is) in
      let flat_more : flat (take (i + 1) tables) ≡ flat (take i tables) ++ xs = ap (flat {A = Node}) tables_more
      ∙ flat_push (take i tables) xs in
      record {
        parts =
            so_far.parts
            ∙ ap (λ (r : List ℕ). flat (views rows) ++ r) (sym (take-append-drop n rest))
            ∙ ap (λ (r : List ℕ). flat (views rows) ++ (r ++ drop n rest)) (sym is_row)
            ∙ sym (append_assoc (flat (views rows)) row.items (drop n rest))
            ∙ ap (λ (r : List ℕ). r ++ drop n rest) (sym whole);
        shape =
            ap (map (length {A = ℕ})) pushed_views
            ∙ map_push (length {A = ℕ}) (views rows) row.items
            ∙ ap (λ (l : List ℕ). l ++ length row.items ∷ []) so_far.shape
            ∙ ap (λ n. map (length {A = Node}) (take i tables) ++ n ∷ []) len
            ∙ sym (map_push (length {A = Node}) (take i tables) xs)
            ∙ ap (map (length {A = Node})) (sym tables_more);
        front = omega (
          arith,
          ap (length {A = ℕ}) whole,
          length-append (flat (views rows)) row.items,
          ap (length {A = Node}) flat_more,
          length-append (flat (take i tables)) xs,
          so_far.front,
          len,
        );
      }

-- all rows
pub all_rows : (tables : List (List Node)) (numbers : List ℕ) (i : ℕ) (rows : List (Vec ℕ)) (rest : List ℕ)
    → RowsSoFar tables numbers i rows rest → length numbers ≡ length (flat tables) → length tables ≤ i
    → (flat (views rows) ≡ numbers) × (map (length {A = ℕ}) (views rows) ≡ map (length {A = Node}) tables)
all_rows tables numbers i rows rest so_far all past =
    let whole : take i tables ≡ tables = take_all i tables past in
    let front : length (flat (views rows)) ≡ length (flat tables) = so_far.front
    ∙ ap (λ (ts : List (List Node)). length (flat ts)) whole in
    let none : rest ≡ [] =
    nil_from_length rest
    (omega (arith, front, ap (length {A = ℕ}) so_far.parts, length-append (flat (views rows)) rest, all)) in (
      sym (so_far.parts ∙ ap (λ (r : List ℕ). flat (views rows) ++ r) none ∙ append-nil (flat (views rows))),
      so_far.shape ∙ ap (map (length {A = Node})) whole,
    )
