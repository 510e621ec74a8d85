-- One list of several, with an item more or with none.
use Rattle.std.proofs.Common.{◌≡◌, ◌∙◌, ℕ, ◌<◌, List, [], ◌∷◌, ◌++◌, length, map, set, get_or, Vec, Global, sym, ap, arith}
use Rattle.std.proofs.lemmas.List.{length-map, map-set, get_or-map}

abbrev items_of : {X : Type 0} → List (Vec X Global) → List (List X)
items_of vs = map (λ v. v.items) vs

pub row_added : {X : Type 0} (vs : List (Vec X Global)) (rows : List (List X)) (k : ℕ) (x : X) (old new : Vec X Global)
    → items_of vs ≡ rows → k < length rows → old ≡ get_or vs k old → new.items ≡ old.items ++ x ∷ []
    → items_of (set vs k new) ≡ set rows k (get_or rows k [] ++ x ∷ [])
row_added {X} vs rows k x old new shown h is pushed =
    let f : Vec X Global → List X = λ v. v.items in
    let len : length vs ≡ length rows = sym (length-map vs f) ∙ ap (length {A = List X}) shown in
    let lt : k < length vs = omega (arith, h, len) in
    let was : get_or rows k [] ≡ old.items =
    ap (λ (r : List (List X)). get_or r k []) (sym shown) ∙ get_or-map f vs k old [] lt ∙ ap f (sym is) in
    map-set f vs k new ∙ ap (λ (r : List (List X)). set r k new.items) shown
    ∙ ap (λ (ys : List X). set rows k ys) (pushed ∙ ap (λ (ys : List X). ys ++ x ∷ []) (sym was))

pub row_cleared : {X : Type 0} (vs : List (Vec X Global)) (rows : List (List X)) (k : ℕ) (new : Vec X Global)
    → items_of vs ≡ rows → new.items ≡ [] → items_of (set vs k new) ≡ set rows k []
row_cleared {X} vs rows k new shown none =
    let f : Vec X Global → List X = λ v. v.items in
    map-set f vs k new ∙ ap (λ (r : List (List X)). set r k new.items) shown ∙ ap (λ (ys : List X). set rows k ys) none
