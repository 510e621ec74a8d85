-- Numbers in order of first occurrence, over lists one after the other.
use Rattle.std.proofs.Common.{◌≡◌, ℕ, zero, suc, ◌+◌, ◌-◌, ◌<◌, ◌≤◌, List, [], ◌∷◌, ◌++◌, length, take, drop, get_or, refl, sym, ap, subst, ◌∙◌, append_assoc, add-zero, arith, inl, inr}
use Rattle.std.specs.Prelude.{max}
use Rattle.std.proofs.lemmas.Bool.{cases_lt}
use Rattle.std.proofs.lemmas.List.{length-append, get_or_append_left, get_or-append-add, take_more, drop_more, take-append-drop, get_or-take, append-nil, length-take}
use Rattle.std.proofs.lemmas.List.Concat.{flat_map-cons}
use Rattle.std.proofs.lemmas.Grind.{flat_map-append}
use Rattle.cfi_types.specs.Classes.{InOrder, class_of}
use Rattle.cfi_types.specs.inner.Extending.{next_after, next_at}
use Rattle.cfi_types.proofs.Places.{flat}

pub next_after-least : (next : ℕ) (ns : List ℕ) → next ≤ next_after next ns
next_after-least next [] = omega arith
next_after-least next (n ∷ ns) = omega (arith, next_after-least (max next (n + 1)) ns)

pub next_after-append : (next : ℕ) (ms ns : List ℕ) → next_after next (ms ++ ns) ≡ next_after (next_after next ms) ns
next_after-append next [] ns = refl
next_after-append next (m ∷ ms) ns = next_after-append (max next (m + 1)) ms ns

-- each number is below the next one
pub below_next : (next : ℕ) (ns : List ℕ) (k : ℕ) → k < length ns → get_or ns k 0 < next_after next ns
below_next next [] k lt = absurd (omega (arith, lt))
below_next next (n ∷ ns) zero lt = omega (arith, next_after-least (max next (n + 1)) ns)
below_next next (n ∷ ns) (suc k) lt = below_next (max next (n + 1)) ns k (omega (arith, lt))

-- there are no more numbers than places
pub next_after-most : (next : ℕ) (ns : List ℕ) → InOrder next ns → next_after next ns ≤ next + length ns
next_after-most next [] order = omega arith
next_after-most next (n ∷ ns) order = omega (arith, next_after-most (max next (n + 1)) ns order.1, order.0)

pub order_first : (next : ℕ) (ms ns : List ℕ) → InOrder next (ms ++ ns) → InOrder next ms
order_first next [] ns order = tt
order_first next (m ∷ ms) ns order = (order.0, order_first (max next (m + 1)) ms ns order.1)

pub order_last : (next : ℕ) (ms ns : List ℕ) → InOrder next (ms ++ ns) → InOrder (next_after next ms) ns
order_last next [] ns order = order
order_last next (m ∷ ms) ns order = order_last (max next (m + 1)) ms ns order.1

pub order_both : (next : ℕ) (ms ns : List ℕ) → InOrder next ms → InOrder (next_after next ms) ns → InOrder next (ms ++ ns)
order_both next [] ns one other = other
order_both next (m ∷ ms) ns one other = (one.0, order_both (max next (m + 1)) ms ns one.1 other)

-- each number below the next one has come
pub has_come : (next : ℕ) (ns : List ℕ) (c : ℕ) → InOrder next ns → next ≤ c → c < next_after next ns
    → (k : ℕ) × (k < length ns) × (get_or ns k 0 ≡ c)
has_come next [] c order least most = absurd (omega (arith, least, most))
has_come next (n ∷ ns) c order least most =
    elim (cases_lt c (max next (n + 1))) [
      | inl less ↦ (0, omega arith, omega (arith, order.0, less, least))
      | inr more ↦
          let rest = has_come (max next (n + 1)) ns c order.1 more most in
          (suc rest.0, omega (arith, rest.1), rest.2)
    ]

-- ---- rows

-- the rows up to one, that one, and those after it
pub flat_parts : {A : Type 0} (rows : List (List A)) (t : ℕ) → t < length rows
    → flat rows ≡ flat (take t rows) ++ (get_or rows t [] ++ flat (drop (t + 1) rows))
flat_parts {A = A} rows t lt =
    ap (flat {A = A}) (sym (take-append-drop t rows))
    ∙ flat_map-append (λ (r : List A). r) (take t rows) (drop t rows)
    ∙ ap (λ (more : List (List A)). flat (take t rows) ++ flat more) (drop_more rows t [] lt)
    ∙ ap (λ (more : List A). flat (take t rows) ++ more)
    (flat_map-cons (λ (r : List A). r) (get_or rows t []) (drop (t + 1) rows))

pub flat_push : {A : Type 0} (rows : List (List A)) (row : List A) → flat (rows ++ row ∷ []) ≡ flat rows ++ row
flat_push {A = A} rows row =
    flat_map-append (λ (r : List A). r) rows (row ∷ [])
    ∙ ap (λ (more : List A). flat rows ++ more) (flat_map-cons (λ (r : List A). r) row [] ∙ append-nil row)

pub flat_more : {A : Type 0} (rows : List (List A)) (t : ℕ) → t < length rows
    → flat (take (t + 1) rows) ≡ flat (take t rows) ++ get_or rows t []
flat_more {A = A} rows t lt =
    ap (flat {A = A}) (take_more rows t [] lt) ∙ flat_push (take t rows) (get_or rows t [])

pub next_more : (rows : List (List ℕ)) (t : ℕ) → t < length rows
    → next_at rows (t + 1) ≡ next_after (next_at rows t) (get_or rows t [])
next_more rows t lt =
    ap (next_after 0) (flat_more rows t lt) ∙ next_after-append 0 (flat (take t rows)) (get_or rows t [])

-- a row is in order behind those before it
pub row_order : (rows : List (List ℕ)) (t : ℕ) → t < length rows → InOrder 0 (flat rows)
    → InOrder (next_at rows t) (get_or rows t [])
row_order rows t lt order =
    let rest = flat (drop (t + 1) rows) in
    order_first (next_at rows t) (get_or rows t []) rest
    (order_last 0 (flat (take t rows)) (get_or rows t [] ++ rest) (subst (InOrder 0) (flat_parts rows t lt) order))

-- a number of a row is below the next one after it, and after all
pub class_below : (rows : List (List ℕ)) (t a : ℕ) → t < length rows → a < length (get_or rows t [])
    → class_of rows t a < next_at rows (t + 1)
class_below rows t a lt la =
    subst (λ (n : ℕ). class_of rows t a < n) (sym (next_more rows t lt))
    (below_next (next_at rows t) (get_or rows t []) a la)

pub next_up : (rows : List (List ℕ)) (t : ℕ) → t < length rows → next_at rows (t + 1) ≤ next_after 0 (flat rows)
next_up rows t lt =
    let rest = flat (drop (t + 1) rows) in
    let whole : flat rows ≡ flat (take (t + 1) rows) ++ rest =
    flat_parts rows t lt ∙ sym (append_assoc (flat (take t rows)) (get_or rows t []) rest)
    ∙ ap (λ (front : List ℕ). front ++ rest) (sym (flat_more rows t lt)) in
    omega (
      arith,
      ap (next_after 0) whole,
      next_after-append 0 (flat (take (t + 1) rows)) rest,
      next_after-least (next_at rows (t + 1)) rest,
    )

pub next_steps : (rows : List (List ℕ)) (t more : ℕ) → t + more ≤ length rows → next_at rows t ≤ next_at rows (t + more)
next_steps rows t zero fits = subst (λ (n : ℕ). next_at rows t ≤ next_at rows n) (sym (add-zero t)) (omega arith)
next_steps rows t (suc more) fits =
    let before : next_at rows t ≤ next_at rows (t + more) = next_steps rows t more (omega (arith, fits)) in
    let one : next_at rows (t + more + 1) ≡ next_after (next_at rows (t + more)) (get_or rows (t + more) []) =
    next_more rows (t + more) (omega (arith, fits)) in
    let place : t + more + 1 ≡ t + suc more = omega arith in
    omega (
      arith,
      before,
      one,
      next_after-least (next_at rows (t + more)) (get_or rows (t + more) []),
      ap (next_at rows) place,
    )

-- the place of a number among the rows
flat_place : (rows : List (List ℕ)) (k : ℕ) → k < length (flat rows)
    → (u : ℕ) × (r : ℕ) × (u < length rows) × (r < length (get_or rows u [])) × (class_of rows u r ≡ get_or (flat rows) k 0)
flat_place [] k lt = absurd (omega (arith, lt))
flat_place (row ∷ rows) k lt =
    let whole = flat_map-cons (λ (x : List ℕ). x) row rows in
    elim (cases_lt k (length row)) [
      | inl less ↦ (
        0,
        k,
        omega arith,
        less,
        sym (ap (λ (ns : List ℕ). get_or ns k 0) whole ∙ get_or_append_left row (flat rows) 0 k less),
      )
      | inr more ↦
          let j : ℕ = k - length row in
          let is : k ≡ length row + j = omega (arith, more) in
          let inside : j < length (flat rows) = omega (arith, lt, ap (length {A = ℕ}) whole, length-append row (flat rows)) in
          let rest = flat_place rows j inside in (
            suc rest.0,
            rest.1,
            omega (arith, rest.2),
            rest.3,
            rest.4 ∙ sym (ap (λ (ns : List ℕ). get_or ns k 0) whole ∙ ap (λ (n : ℕ). get_or (row ++ flat rows) n 0) is
                ∙ get_or-append-add row (flat rows) j 0),
          )
    ]

-- the first place of a number: it comes with the row
pub record IsFirstPlace (rows : List (List ℕ)) (t a u r : ℕ) : Type 0 where
  pub within : u < length rows
  pub inside : r < length (get_or rows u [])
  pub same : class_of rows u r ≡ class_of rows t a
  pub first : next_at rows u ≤ class_of rows u r

pub first_place : (rows : List (List ℕ)) (fuel t a : ℕ) → InOrder 0 (flat rows) → t < fuel → t < length rows
    → a < length (get_or rows t []) → (u : ℕ) × (r : ℕ) × IsFirstPlace rows t a u r
first_place rows zero t a order less lt la = absurd (omega (arith, less))
first_place rows (suc fuel) t a order less lt la =
    elim (cases_lt (class_of rows t a) (next_at rows t)) [
      | inl earlier ↦
          let front = take t rows in
          let split : flat rows ≡ flat front ++ (get_or rows t [] ++ flat (drop (t + 1) rows)) = flat_parts rows t lt in
          let ordered : InOrder 0 (flat front) =
          order_first 0 (flat front) (get_or rows t [] ++ flat (drop (t + 1) rows)) (subst (InOrder 0) split order) in
          let come = has_come 0 (flat front) (class_of rows t a) ordered (omega arith) earlier in
          let at = flat_place front come.0 come.1 in
          let shorter : at.0 < t = omega (arith, at.2, length-take t rows) in
          let same_row : get_or front at.0 [] ≡ get_or rows at.0 [] = get_or-take t rows at.0 [] shorter in
          let inside : at.1 < length (get_or rows at.0 []) = omega (arith, at.3, ap (length {A = ℕ}) same_row) in
          let number : class_of rows at.0 at.1 ≡ class_of rows t a =
          ap (λ (row : List ℕ). get_or row at.1 0) (sym same_row) ∙ at.4 ∙ come.2 in
          let found = first_place rows fuel at.0 at.1 order (omega (arith, shorter, less)) (omega (arith, shorter, lt)) inside in (
            found.0,
            found.1,
            record {
              within = found.2.within;
              inside = found.2.inside;
              same = found.2.same ∙ number;
              first = found.2.first;
            },
          )
      | inr here ↦ (t, a, record { within = lt; inside = la; same = refl; first = here })
    ]
