-- Rows by the lists that they are kept in: what a row holds, and one number more in it.
use Rattle.std.proofs.Common.{◌≡◌, ◌∙◌, ℕ, zero, suc, ◌-◌, ◌<◌, ◌≤◌, List, [], ◌∷◌, ◌++◌, length, map, set, get_or, replicate, refl, sym, ap, subst, inl, inr, arith}
use Rattle.std.proofs.lemmas.Bool.{cases_eq}
use Rattle.std.proofs.lemmas.List.{ext_get_or, length-set, length-map, map-set, map_push, get_or-map, get_or-set_same, get_or-set_other, get_or_append_left, get_or_default, get_or_push}
use Rattle.cfi_flow.specs.inner.Lists.{row_in, HaveOwnLists}

-- the list of a place that is not 0
listed : (lists : List (List ℕ)) (place : ℕ) → 0 < place → row_in lists place ≡ get_or lists (place - 1) []
listed lists zero some = absurd (omega (arith, some))
listed lists (suc k) some = let before : suc k - 1 ≡ k = omega arith in ap (λ j. get_or lists j []) (sym before)

-- another list that is set leaves a row
set_elsewhere : (lists : List (List ℕ)) (place k : ℕ) (row : List ℕ) → (place ≡ suc k → ⊥)
    → row_in (set lists k row) place ≡ row_in lists place
set_elsewhere lists zero k row apart = refl
set_elsewhere lists (suc j) k row apart = get_or-set_other lists k j row [] (λ e. apart (ap suc e))

-- a list that is added leaves a row
added_elsewhere : (lists : List (List ℕ)) (place : ℕ) (row : List ℕ) → place ≤ length lists
    → row_in (lists ++ row ∷ []) place ≡ row_in lists place
added_elsewhere lists zero row within = refl
added_elsewhere lists (suc j) row within = get_or_append_left lists (row ∷ []) [] j (omega (arith, within))

-- a row by its place
row_by : (lists : List (List ℕ)) (ps : List ℕ) (i : ℕ) → i < length ps
    → get_or (map (row_in lists) ps) i [] ≡ row_in lists (get_or ps i 0)
row_by lists ps i within = get_or-map (row_in lists) ps i 0 [] within

no_lists : (lists : List (List ℕ)) (count : ℕ) → map (row_in lists) (replicate count 0) ≡ replicate count []
no_lists lists zero = refl
no_lists lists (suc count) = ap (λ rows. [] ∷ rows) (no_lists lists count)

-- no row has a list
pub empty_rows : (lists : List (List ℕ)) (ps : List ℕ) (count : ℕ) → ps ≡ replicate count 0
    → map (row_in lists) ps ≡ replicate count []
empty_rows lists ps count none = ap (map (row_in lists)) none ∙ no_lists lists count

-- the place of a row, as a read that is inside gives it
pub place_of_row : (lists : List (List ℕ)) (ps : List ℕ) (rows : List (List ℕ)) (k place : ℕ) → map (row_in lists) ps ≡ rows
    → k < length rows → place ≡ get_or ps k place → place ≡ get_or ps k 0
place_of_row lists ps rows k place shown h at =
    let len : length ps ≡ length rows = sym (length-map ps (row_in lists)) ∙ ap length shown in
    at ∙ get_or_default ps k place 0 (omega (arith, h, len))

-- what a row holds
pub kept_row : {V : Type 0} (f : V → List ℕ) (ps : List ℕ) (vs : List V) (rows : List (List ℕ)) (k place : ℕ) (v : V)
    → map (row_in (map f vs)) ps ≡ rows → k < length rows → place ≡ get_or ps k 0 → 0 < place → place ≤ length vs
    → v ≡ get_or vs (place - 1) v → f v ≡ get_or rows k []
kept_row f ps vs rows k place v shown h at some within is =
    let len : length ps ≡ length rows = sym (length-map ps (row_in (map f vs))) ∙ ap length shown in
    ap f is
    ∙ sym (get_or-map f vs (place - 1) v [] (omega (arith, some, within)))
    ∙ sym (listed (map f vs) place some)
    ∙ ap (row_in (map f vs)) at
    ∙ sym (row_by (map f vs) ps k (omega (arith, h, len)))
    ∙ ap (λ r. get_or r k []) shown

-- one number more in a list: rows but for that one stay
pub row_longer : {V : Type 0} (f : V → List ℕ) (ps : List ℕ) (vs : List V) (rows : List (List ℕ)) (k n place : ℕ) (old new : V)
    → map (row_in (map f vs)) ps ≡ rows → HaveOwnLists ps (length vs) → k < length rows → place ≡ get_or ps k 0 → 0 < place
    → old ≡ get_or vs (place - 1) old → f new ≡ f old ++ n ∷ []
    → map (row_in (map f (set vs (place - 1) new))) ps ≡ set rows k (get_or rows k [] ++ n ∷ [])
row_longer f ps vs rows k n place old new shown kept h at some is pushed =
    let lists = map f vs in
    let row = get_or rows k [] ++ n ∷ [] in
    let len : length ps ≡ length rows = sym (length-map ps (row_in lists)) ∙ ap length shown in
    let most : place ≤ length vs = subst (λ p. p ≤ length vs) (sym at) (kept.within k) in
    let long : length lists ≡ length vs = length-map vs f in
    let after : map f (set vs (place - 1) new) ≡ set lists (place - 1) row =
    map-set f vs (place - 1) new
    ∙ ap (set lists (place - 1)) (pushed ∙ ap (λ ys. ys ++ n ∷ []) (kept_row f ps vs rows k place old shown h at some most is)) in
    ap (λ ls. map (row_in ls) ps) after
    ∙ ext_get_or [] _ _ (length-map ps (row_in (set lists (place - 1) row)) ∙ len ∙ sym (length-set rows k row))
    (λ i below.
    let lt : i < length ps = omega (arith, below, length-map ps (row_in (set lists (place - 1) row))) in
    row_by (set lists (place - 1) row) ps i lt
    ∙ elim (cases_eq i k) [
      | inl e ↦
          subst (λ j. row_in (set lists (place - 1) row) (get_or ps j 0) ≡ get_or (set rows k row) j []) (sym e)
          (ap (row_in (set lists (place - 1) row)) (sym at)
          ∙ listed (set lists (place - 1) row) place some
          ∙ get_or-set_same lists (place - 1) row [] (omega (arith, some, most, long))
          ∙ sym (get_or-set_same rows k row [] h))
      | inr apart ↦
          set_elsewhere lists (get_or ps i 0) (place - 1) row
          (λ e.
          let same : get_or ps k 0 ≡ get_or ps i 0 = omega (arith, e, at, some) in
          apart (sym (kept.own k i (omega (arith, some, at)) same)))
          ∙ sym (row_by lists ps i lt)
          ∙ ap (λ r. get_or r i []) shown
          ∙ sym (get_or-set_other rows k i row [] apart)
    ])

-- the first number in a row, in a list of its own
pub row_begun : {V : Type 0} (f : V → List ℕ) (ps : List ℕ) (vs later : List V) (rows : List (List ℕ)) (k n place : ℕ) (new : V)
    → map (row_in (map f vs)) ps ≡ rows → HaveOwnLists ps (length vs) → k < length rows → get_or ps k 0 ≡ 0
    → f new ≡ n ∷ [] → later ≡ vs ++ new ∷ [] → place ≡ suc (length vs)
    → map (row_in (map f later)) (set ps k place) ≡ set rows k (get_or rows k [] ++ n ∷ [])
row_begun f ps vs later rows k n place new shown kept h none is grown at =
    let lists = map f vs in
    let row = get_or rows k [] ++ n ∷ [] in
    let len : length ps ≡ length rows = sym (length-map ps (row_in lists)) ∙ ap length shown in
    let long : length lists ≡ length vs = length-map vs f in
    let empty : get_or rows k [] ≡ [] =
    ap (λ r. get_or r k []) (sym shown) ∙ row_by lists ps k (omega (arith, h, len)) ∙ ap (row_in lists) none in
    let whole : f new ≡ row = is ∙ ap (λ ys. ys ++ n ∷ []) (sym empty) in
    let after : map f later ≡ lists ++ row ∷ [] =
    ap (map f) grown ∙ map_push f vs new ∙ ap (λ r. lists ++ r ∷ []) whole in
    let placed = set ps k place in
    ap (λ ls. map (row_in ls) placed) after
    ∙ ext_get_or [] _ _ (length-map placed (row_in (lists ++ row ∷ [])) ∙ length-set ps k place ∙ len ∙ sym (length-set rows k row))
    (λ i below.
    let lt : i < length placed = omega (arith, below, length-map placed (row_in (lists ++ row ∷ []))) in
    let inside : i < length ps = omega (arith, lt, length-set ps k place) in
    row_by (lists ++ row ∷ []) placed i lt
    ∙ elim (cases_eq i k) [
      | inl e ↦
          subst (λ j. row_in (lists ++ row ∷ []) (get_or (set ps k place) j 0) ≡ get_or (set rows k row) j []) (sym e)
          (ap (row_in (lists ++ row ∷ [])) (get_or-set_same ps k place 0 (omega (arith, h, len)) ∙ at)
          ∙ get_or_push lists row [] (length vs) long
          ∙ sym (get_or-set_same rows k row [] h))
      | inr apart ↦
          ap (row_in (lists ++ row ∷ [])) (get_or-set_other ps k i place 0 apart)
          ∙ added_elsewhere lists (get_or ps i 0) row (subst (λ m. get_or ps i 0 ≤ m) (sym long) (kept.within i))
          ∙ sym (row_by lists ps i inside)
          ∙ ap (λ r. get_or r i []) shown
          ∙ sym (get_or-set_other rows k i row [] apart)
    ])
