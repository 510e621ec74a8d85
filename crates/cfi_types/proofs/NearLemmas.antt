-- Which tables are near: the loop over them.
use Rattle.std.proofs.Common.{◌≡◌, ℕ, zero, suc, ◌+◌, ◌<◌, ◌≤◌, ◌^◌, List, [], ◌∷◌, ◌++◌, length, map, take, get_or, All, IsTrue, Bool, true, false, cond, refl, sym, ap, subst, ◌∙◌, arith, inl, inr}
use Rattle.std.specs.List.{Contains}
use Rattle.std.proofs.lemmas.Bool.{cases_lt}
use Rattle.std.proofs.lemmas.List.{length-append, length-map, map_push, take_all, take_more, get_or-map}
use Rattle.std.proofs.lemmas.List.Concat.{flat_map-cons}
use Rattle.std.proofs.lemmas.List.Elements.{All-append, All-contains, All-cons, All-nil, All-weaker, Contains-get_or, Contains-append_left, Contains-append_right}
use Rattle.cfi_type_table.specs.Node.{Node}
use Rattle.cfi_types.specs.Classes.{table_of, IsNodePlace, AreClasses}
use Rattle.cfi_types.specs.inner.Depth.{digests_to}
use Rattle.cfi_types.specs.inner.Extending.{next_after, next_at, IsNew, AreNear}
use Rattle.cfi_types.specs.declared.near.TheConstants.{DEPTH}
use Rattle.cfi_types.proofs.Places.{flat}
use Rattle.cfi_types.proofs.OrderLemmas.{flat_more, flat_push, next_more, next_up, next_after-most, class_below}

-- the near ones of the first i tables
pub record NearSoFar (tables : List (List Node)) (kept : List (List ℕ)) (told : List ℕ) (i : ℕ) (numbers : List ℕ)
    (near : List (List Node)) (next : ℕ) : Type 0 where
  pub each : near ≡ map (table_of tables) numbers
  pub within : All (λ t. t < length tables) numbers
  pub few : length (flat near) ≤ length (flat (take i tables))
  pub whole : (t a : ℕ) → t < i → IsNodePlace tables t a
      → IsNew (Contains told) (next_at kept t) (get_or kept t []) (digests_to DEPTH (table_of tables t)) a
      → Contains numbers t
  pub next_is : next ≡ next_at kept i

pub none_near : (tables : List (List Node)) (kept : List (List ℕ)) (told numbers : List ℕ) (near : List (List Node))
    → numbers ≡ [] → near ≡ [] → NearSoFar tables kept told 0 numbers near 0
none_near tables kept told numbers near no_numbers no_near =
    subst (λ (xs : List (List Node)). NearSoFar tables kept told 0 numbers xs 0) (sym no_near)
    (subst (λ (ns : List ℕ). NearSoFar tables kept told 0 ns [] 0) (sym no_numbers)
    (record {
      each = refl;
      within = All-nil (λ t. t < length tables);
      few = omega arith;
      whole = λ t a lt here new. absurd (omega (arith, lt));
      next_is = refl;
    }))

module _ (tables : List (List Node)) (kept : List (List ℕ)) (told : List ℕ) (i : ℕ) (numbers : List ℕ)
    (near : List (List Node)) (next next' : ℕ) (row : List ℕ) (so_far : NearSoFar tables kept told i numbers near next)
    (lt : i < length tables) (rows : i < length kept) (is_row : row ≡ get_or kept i [])
    (follows : next' ≡ next_after next row) where
  next_one : next' ≡ next_at kept (i + 1)
  next_one =
      follows ∙ ap (λ (n : ℕ). next_after n row) so_far.next_is ∙ ap (next_after (next_at kept i)) is_row
      ∙ sym (next_more kept i rows)

  longer : length (flat (take (i + 1) tables)) ≡ length (flat (take i tables)) + length (get_or tables i [])
  longer =
      ap (length {A = Node}) (flat_more tables i lt) ∙ length-append (flat (take i tables)) (get_or tables i [])

  -- the table is near
  pub one_near : (table : List Node) → table ≡ get_or tables i []
      → NearSoFar tables kept told (i + 1) (numbers ++ i ∷ []) (near ++ table ∷ []) next'
  one_near table is = record {
    each =
        ap (λ (xs : List (List Node)). xs ++ table ∷ []) so_far.each
        ∙ ap (λ (x : List Node). map (table_of tables) numbers ++ x ∷ []) is
        ∙ sym (map_push (table_of tables) numbers i);
    within =
        All-append (λ t. t < length tables) numbers (i ∷ []) so_far.within
        (All-cons (λ t. t < length tables) i [] lt (All-nil (λ t. t < length tables)));
    few = omega (
      arith,
      so_far.few,
      longer,
      ap (length {A = Node}) (flat_push near table),
      length-append (flat near) table,
      ap (length {A = Node}) is,
    );
    whole = λ t a less here new.
        elim (cases_lt t i) [
          | inl before ↦ Contains-append_left numbers (i ∷ []) t (so_far.whole t a before here new)
          | inr now ↦
              let same : t ≡ i = omega (arith, less, now) in
              subst (λ (k : ℕ). Contains (numbers ++ i ∷ []) k) (sym same)
              (Contains-append_right numbers (i ∷ []) i (Contains-get_or (i ∷ []) 0 0 (omega arith)))
        ];
    next_is = next_one;
  }

  -- it is not
  pub none_more : ((a : ℕ) → ¬ IsNew (Contains told) next row (digests_to DEPTH (table_of tables i)) a)
      → NearSoFar tables kept told (i + 1) numbers near next'
  none_more no_new = record {
    each = so_far.each;
    within = so_far.within;
    few = omega (arith, so_far.few, longer);
    whole = λ t a less here new.
        elim (cases_lt t i) [
          | inl before ↦ so_far.whole t a before here new
          | inr now ↦
              let same : t ≡ i = omega (arith, less, now) in
              absurd (no_new a (moved (subst (λ (k : ℕ).
              IsNew (Contains told) (next_at kept k) (get_or kept k []) (digests_to DEPTH (table_of tables k)) a) same
              new)))
        ];
    next_is = next_one;
  }
    where
      moved : {a : ℕ} → IsNew (Contains told) (next_at kept i) (get_or kept i [])
          (digests_to DEPTH (table_of tables i)) a
          → IsNew (Contains told) next row (digests_to DEPTH (table_of tables i)) a
      moved {a} n =
          subst (λ (r : List ℕ). IsNew (Contains told) next r (digests_to DEPTH (table_of tables i)) a) (sym is_row)
          (subst (λ (m : ℕ). IsNew (Contains told) m (get_or kept i []) (digests_to DEPTH (table_of tables i)) a)
          (sym so_far.next_is) n)

pub all_near : (tables : List (List Node)) (kept : List (List ℕ)) (told : List ℕ) (i : ℕ) (numbers : List ℕ)
    (near : List (List Node)) (next : ℕ) → NearSoFar tables kept told i numbers near next → length tables ≤ i
    → AreNear tables kept told numbers near
all_near tables kept told i numbers near next so_far past = record {
  each = so_far.each;
  within = so_far.within;
  few = omega (arith, so_far.few, ap (λ (xs : List (List Node)). length (flat xs)) (take_all i tables past));
  whole = λ t a here new. so_far.whole t a (omega (arith, here.0, past)) here new;
}

-- ---- sizes

abbrev total : List ℕ → ℕ
total [] = 0
total (n ∷ ns) = n + total ns

length-flat : {A : Type 0} (rows : List (List A)) → length (flat rows) ≡ total (map (length {A = A}) rows)
length-flat [] = refl
length-flat {A = A} (row ∷ rows) =
    omega (
      arith,
      ap (length {A = A}) (flat_map-cons (λ (r : List A). r) row rows),
      length-append row (flat rows),
      length-flat rows,
    )

-- as many numbers as nodes
pub flat_many : (tables : List (List Node)) (kept : List (List ℕ)) → AreClasses tables kept
    → length (flat kept) ≡ length (flat tables)
flat_many tables kept classes = length-flat kept ∙ ap total classes.shape ∙ sym (length-flat tables)

pub rows_many : (tables : List (List Node)) (kept : List (List ℕ)) → AreClasses tables kept
    → length kept ≡ length tables
rows_many tables kept classes =
    sym (length-map kept (length {A = ℕ})) ∙ ap (length {A = ℕ}) classes.shape ∙ length-map tables (length {A = Node})

pub row_many : (tables : List (List Node)) (kept : List (List ℕ)) (t : ℕ) → AreClasses tables kept → t < length tables
    → length (get_or kept t []) ≡ length (table_of tables t)
row_many tables kept t classes lt =
    sym (get_or-map (length {A = ℕ}) kept t [] 0 (omega (arith, lt, rows_many tables kept classes)))
    ∙ ap (λ (ls : List ℕ). get_or ls t 0) classes.shape
    ∙ get_or-map (length {A = Node}) tables t [] 0 lt

-- numbers are below the number of nodes
pub small_row : (tables : List (List Node)) (kept : List (List ℕ)) (t : ℕ) (row : List ℕ) → AreClasses tables kept
    → t < length tables → length (flat tables) < 2 ^ 32 → row ≡ get_or kept t [] → All (λ n. n + 1 < 2 ^ 32) row
small_row tables kept t row classes lt fits is k d inside =
    let here : t < length kept = omega (arith, lt, rows_many tables kept classes) in
    let la : k < length (get_or kept t []) = omega (arith, inside, ap (length {A = ℕ}) is) in
    let value : get_or row k d ≡ get_or (get_or kept t []) k 0 =
    get_or_irrelevant row k d inside ∙ ap (λ (r : List ℕ). get_or r k 0) is in
    omega (
      arith,
      value,
      fits,
      class_below kept t k here la,
      next_up kept t here,
      next_after-most 0 (flat kept) classes.order,
      flat_many tables kept classes,
    )
  where
    get_or_irrelevant : (xs : List ℕ) (j e : ℕ) → j < length xs → get_or xs j e ≡ get_or xs j 0
    get_or_irrelevant [] j e less = absurd (omega (arith, less))
    get_or_irrelevant (x ∷ xs) zero e less = refl
    get_or_irrelevant (x ∷ xs) (suc j) e less = get_or_irrelevant xs j e (omega (arith, less))

-- what is new and told among digests is so in a set that has them all
pub told_in_set : (told : ℕ → Type 0) (digests : List ℕ) (next : ℕ) (row others : List ℕ) (a : ℕ) → All told digests
    → IsNew (Contains digests) next row others a → IsNew told next row others a
told_in_set told digests next row others a all new = record {
  within = new.within;
  number = new.number;
  is_told = All-contains told digests (get_or others a 0) all new.is_told;
}

-- one digest more is told
pub told_more : (old new at : ℕ → Bool) (xs : List ℕ) (i : ℕ) (x : ℕ) → i < length xs → x ≡ get_or xs i 0
    → ((q : ℕ) → new q ≡ cond (at q) true (old q)) → new x ≡ true → All (λ d. IsTrue (old d)) (take i xs)
    → All (λ d. IsTrue (new d)) (take (i + 1) xs)
told_more old new at xs i x lt is more here so_far =
    subst (λ (ds : List ℕ). All (λ d. IsTrue (new d)) ds) (sym (take_more xs i 0 lt))
    (All-append (λ d. IsTrue (new d)) (take i xs) (get_or xs i 0 ∷ [])
    (All-weaker (λ d. IsTrue (old d)) (λ d. IsTrue (new d)) (λ d was. more d ∙ stays (at d) (old d) was) (take i xs) so_far)
    (All-cons (λ d. IsTrue (new d)) (get_or xs i 0) [] (subst (λ (d : ℕ). IsTrue (new d)) is here)
    (All-nil (λ d. IsTrue (new d)))))
  where
    stays : (b c : Bool) → c ≡ true → cond b true c ≡ true
    stays true c was = refl
    stays false c was = was
