-- Nodes agree in the list that joins the tables exactly where they agree in their tables.
use Rattle.std.proofs.Common.{◌≡◌, ℕ, zero, suc, ◌+◌, ◌<◌, List, [], ◌∷◌, length, map, All, sym, subst, ◌∙◌}
use Rattle.std.specs.Prelude.{◌↔◌}
use Rattle.std.specs.List.{AllZip}
use Rattle.std.proofs.lemmas.List.Elements.{All-head, All-tail}
use Rattle.cfi_type_table.specs.Node.{Node, node_of}
use Rattle.cfi_type_table.specs.Kind.{numbers_of, nodes_of}
use Rattle.cfi_types.specs.Same.{Same, Equal}
use Rattle.cfi_types.specs.inner.Joined.{shifted}
use Rattle.cfi_types.specs.inner.Splitting.{IsClosed}
use Rattle.cfi_types.proofs.Places.{shifted_numbers, shifted_nodes}
use Rattle.cfi_types.proofs.Steps.{names_below}

all_zip_from_maps : (R : ℕ → ℕ → Type 0) (f g : ℕ → ℕ) (xs ys : List ℕ) → AllZip R (map f xs) (map g ys)
    → AllZip (λ x y. R (f x) (g y)) xs ys
all_zip_from_maps R f g [] [] h = tt
all_zip_from_maps R f g [] (y ∷ ys) h = h
all_zip_from_maps R f g (x ∷ xs) [] h = h
all_zip_from_maps R f g (x ∷ xs) (y ∷ ys) h = (h.0, all_zip_from_maps R f g xs ys h.1)

all_zip_of_maps : (R : ℕ → ℕ → Type 0) (f g : ℕ → ℕ) (xs ys : List ℕ) → AllZip (λ x y. R (f x) (g y)) xs ys
    → AllZip R (map f xs) (map g ys)
all_zip_of_maps R f g [] [] h = tt
all_zip_of_maps R f g [] (y ∷ ys) h = h
all_zip_of_maps R f g (x ∷ xs) [] h = h
all_zip_of_maps R f g (x ∷ xs) (y ∷ ys) h = (h.0, all_zip_of_maps R f g xs ys h.1)

all_zip_within : (m n : ℕ) (R Q : ℕ → ℕ → Type 0) → ((x y : ℕ) → x < m → y < n → R x y → Q x y) → (xs ys : List ℕ)
    → All (λ x. x < m) xs → All (λ y. y < n) ys → AllZip R xs ys → AllZip Q xs ys
all_zip_within m n R Q h [] [] a b r = tt
all_zip_within m n R Q h [] (y ∷ ys) a b r = r
all_zip_within m n R Q h (x ∷ xs) [] a b r = r
all_zip_within m n R Q h (x ∷ xs) (y ∷ ys) a b r = (
  h x y (All-head (λ k. k < m) x xs a) (All-head (λ k. k < n) y ys b) r.0,
  all_zip_within m n R Q h xs ys (All-tail (λ k. k < m) x xs a) (All-tail (λ k. k < n) y ys b) r.1,
)

-- what two nodes of the list share to one depth more than d
Shares : (d : ℕ) → (nodes : List Node) → Node → Node → Type 0
Shares d nodes u v =
    (u.kind ≡ v.kind) × (numbers_of u ≡ numbers_of v) × AllZip (λ c e. Same d nodes c nodes e) (nodes_of u) (nodes_of v)

-- the nodes of the table stand in the list from this place on
pub record StandsAt (nodes xs : List Node) (start : ℕ) : Type 0 where
  pub closed : IsClosed xs
  pub each : (a : ℕ) → a < length xs → node_of nodes (start + a) ≡ shifted start (node_of xs a)

module _ (nodes xs ys : List Node) (s r : ℕ) (left : StandsAt nodes xs s) (right : StandsAt nodes ys r) where
  pub table_same : (d a b : ℕ) → a < length xs → b < length ys → Same d nodes (s + a) nodes (r + b) → Same d xs a ys b
  unfolding Shares
  table_same zero a b la lb h = tt
  table_same (suc d) a b la lb h =
      let x = node_of xs a in
      let y = node_of ys b in
      let there : Shares d nodes (node_of nodes (s + a)) (node_of nodes (r + b)) = h in
      let moved : Shares d nodes (shifted s x) (shifted r y) =
      subst (λ v. Shares d nodes (shifted s x) v) (right.each b lb)
      (subst (λ u. Shares d nodes u (node_of nodes (r + b))) (left.each a la) there) in
      let maps : AllZip (λ c e. Same d nodes c nodes e) (map (λ k. s + k) (nodes_of x))
      (map (λ k. r + k) (nodes_of y)) =
      subst (λ (q : List ℕ). AllZip (λ c e. Same d nodes c nodes e) (map (λ k. s + k) (nodes_of x)) q)
      (shifted_nodes r y)
      (subst (λ (p : List ℕ). AllZip (λ c e. Same d nodes c nodes e) p (nodes_of (shifted r y)))
      (shifted_nodes s x) moved.2) in (
        moved.0,
        sym (shifted_numbers s x) ∙ moved.1 ∙ shifted_numbers r y,
        all_zip_within (length xs) (length ys) (λ c e. Same d nodes (s + c) nodes (r + e)) (λ c e. Same d xs c ys e)
            (table_same d) (nodes_of x) (nodes_of y) (names_below xs a left.closed la)
            (names_below ys b right.closed lb)
            (all_zip_from_maps (λ c e. Same d nodes c nodes e) (λ k. s + k) (λ k. r + k) (nodes_of x)
            (nodes_of y) maps),
      )

  pub list_same : (d a b : ℕ) → a < length xs → b < length ys → Same d xs a ys b → Same d nodes (s + a) nodes (r + b)
  unfolding Shares
  list_same zero a b la lb h = tt
  list_same (suc d) a b la lb h =
      let x = node_of xs a in
      let y = node_of ys b in
      let pairs : AllZip (λ c e. Same d nodes (s + c) nodes (r + e)) (nodes_of x) (nodes_of y) =
      all_zip_within (length xs) (length ys) (λ c e. Same d xs c ys e) (λ c e. Same d nodes (s + c) nodes (r + e))
      (list_same d) (nodes_of x) (nodes_of y) (names_below xs a left.closed la) (names_below ys b right.closed lb)
      h.2 in
      let maps =
      all_zip_of_maps (λ c e. Same d nodes c nodes e) (λ k. s + k) (λ k. r + k) (nodes_of x) (nodes_of y) pairs in
      let named : AllZip (λ c e. Same d nodes c nodes e) (nodes_of (shifted s x)) (nodes_of (shifted r y)) =
      subst (λ (q : List ℕ). AllZip (λ c e. Same d nodes c nodes e) (nodes_of (shifted s x)) q)
      (sym (shifted_nodes r y))
      (subst (λ (p : List ℕ). AllZip (λ c e. Same d nodes c nodes e) p (map (λ k. r + k) (nodes_of y)))
      (sym (shifted_nodes s x)) maps) in
      let here : Shares d nodes (shifted s x) (shifted r y) =
      (h.0, shifted_numbers s x ∙ h.1 ∙ sym (shifted_numbers r y), named) in
      subst (λ u. Shares d nodes u (node_of nodes (r + b))) (sym (left.each a la))
      (subst (λ v. Shares d nodes (shifted s x) v) (sym (right.each b lb)) here)

  pub equal_there : (a b : ℕ) → a < length xs → b < length ys → Equal nodes (s + a) nodes (r + b) ↔ Equal xs a ys b
  equal_there a b la lb = ((λ h d. table_same d a b la lb (h d)), (λ h d. list_same d a b la lb (h d)))
