-- Names, each once, and a table with an entry for each: what one more occurrence changes.
use Rattle.std.proofs.Common.{◌≡◌, ℕ, Bool, true, false, not, cond, ◌||◌, List, [], ◌∷◌, ◌++◌, filter, if◌then◌else◌, refl, sym, ap, ◌∙◌, subst, ⊎_elim, append-nil}
use Rattle.std.specs.List.{list_any}
use Rattle.std.specs.Str.{bytes_eq}
use Rattle.std.proofs.lemmas.Bool.{cases_Bool, or_parts}
use Rattle.std.proofs.lemmas.List.Elements.{filter-append}
use Rattle.std.proofs.lemmas.Slice.Eq.{bytes_eq-Decides}
use Rattle.rv_asm.specs.Symbols.{distinct}

-- a name is among names
abbrev pub has : (name : List ℕ) → (names : List (List ℕ)) → Bool
has name names = list_any (λ other. bytes_eq other name) names

abbrev differs : (name other : List ℕ) → Bool
differs name other = not (bytes_eq other name)

bytes_eq-refl : (a : List ℕ) → bytes_eq a a ≡ true
bytes_eq-refl a = (bytes_eq-Decides a a).1 refl

pub bytes_eq-sym : (a b : List ℕ) (v : Bool) → bytes_eq a b ≡ v → bytes_eq b a ≡ v
bytes_eq-sym a b true is = (bytes_eq-Decides b a).1 (sym ((bytes_eq-Decides a b).0 is))
bytes_eq-sym a b false is =
    ⊎_elim (λ (same : bytes_eq b a ≡ true).
    (let other : bytes_eq a b ≡ true = (bytes_eq-Decides a b).1 (sym ((bytes_eq-Decides b a).0 same)) in
    absurd (cc)))
    (λ (apart : bytes_eq b a ≡ false). apart)
    (cases_Bool (bytes_eq b a))

-- each once
abbrev pub apart : List (List ℕ) → Type 0
apart [] = Unit {0}
apart (name ∷ names) = (has name names ≡ false) × apart names

kept_out : (v : Bool) (d x : List ℕ) (rest : List (List ℕ)) → bytes_eq x d ≡ v → has d rest ≡ false →
    has d (cond (not v) (x ∷ rest) rest) ≡ false
kept_out true d x rest is none = none
kept_out false d x rest is none = rw is none

has-without : (d : List ℕ) (xs : List (List ℕ)) → has d (filter (differs d) xs) ≡ false
has-without d [] = refl
has-without d (x ∷ xs) =
    kept_out (bytes_eq x d) d x (filter (differs d) xs) refl (has-without d xs)

stays_out : (v : Bool) (n x : List ℕ) (rest : List (List ℕ)) → bytes_eq x n ≡ false → has n rest ≡ false →
    has n (cond v (x ∷ rest) rest) ≡ false
stays_out true n x rest is none = rw is none
stays_out false n x rest is none = none

has-filter : (p : List ℕ → Bool) (n : List ℕ) (xs : List (List ℕ)) → has n xs ≡ false → has n (filter p xs) ≡ false
has-filter p n [] none = refl
has-filter p n (x ∷ xs) none =
    let parts = or_parts (bytes_eq x n) (has n xs) none in
    stays_out (p x) n x (filter p xs) parts.0 (has-filter p n xs parts.1)

apart_on : (p : List ℕ → Bool) (v : Bool) (x : List ℕ) (xs : List (List ℕ)) → has x xs ≡ false → apart (filter p xs) →
    apart (cond v (x ∷ filter p xs) (filter p xs))
apart_on p true x xs none are = (has-filter p x xs none, are)
apart_on p false x xs none are = are

apart-filter : (p : List ℕ → Bool) (xs : List (List ℕ)) → apart xs → apart (filter p xs)
apart-filter p [] are = tt
apart-filter p (x ∷ xs) are = apart_on p (p x) x xs are.0 (apart-filter p xs are.1)

pub apart-distinct : (names : List (List ℕ)) → apart (distinct names)
apart-distinct [] = tt
apart-distinct (name ∷ names) =
    (has-without name (distinct names), apart-filter (differs name) (distinct names) (apart-distinct names))

-- another name is there as before
kept_on : (v : Bool) (d n x : List ℕ) (rest : List (List ℕ)) (more : Bool) → bytes_eq d n ≡ false → bytes_eq x d ≡ v →
    has n rest ≡ more → has n (cond (not v) (x ∷ rest) rest) ≡ (bytes_eq x n || more)
kept_on true d n x rest more apart same is =
    let at : bytes_eq x n ≡ false =
    subst (λ (y : List ℕ). bytes_eq y n ≡ false) (sym ((bytes_eq-Decides x d).0 same)) apart in
    rw (at, is) refl
kept_on false d n x rest more apart same is = rw is refl

has-other : (d n : List ℕ) (xs : List (List ℕ)) → bytes_eq d n ≡ false → has n (filter (differs d) xs) ≡ has n xs
has-other d n [] apart = refl
has-other d n (x ∷ xs) apart =
    kept_on (bytes_eq x d) d n x (filter (differs d) xs) (has n xs) apart refl (has-other d n xs apart)

has_on : (v : Bool) (name n : List ℕ) (names : List (List ℕ)) → bytes_eq name n ≡ v →
    has n (distinct names) ≡ has n names → (v || has n (filter (differs name) (distinct names))) ≡ (v || has n names)
has_on true name n names is same = refl
has_on false name n names is same = has-other name n (distinct names) is ∙ same

pub has-distinct : (n : List ℕ) (names : List (List ℕ)) → has n (distinct names) ≡ has n names
has-distinct n [] = refl
has-distinct n (name ∷ names) = has_on (bytes_eq name n) name n names refl (has-distinct n names)

-- one more name
last_kept : (v : Bool) (name x : List ℕ) → bytes_eq name x ≡ v →
    filter (differs name) (x ∷ []) ≡ (if v then [] else x ∷ [])
last_kept true name x is = rw (bytes_eq-sym name x true is) refl
last_kept false name x is = rw (bytes_eq-sym name x false is) refl

push_on : (name x : List ℕ) (names ds : List (List ℕ)) (w v : Bool) → bytes_eq name x ≡ v →
    ds ≡ (if w then distinct names else distinct names ++ x ∷ []) →
    name ∷ filter (differs name) ds
    ≡ (if v || w then name ∷ filter (differs name) (distinct names) else name ∷ filter (differs name)
    (distinct names) ++ x ∷ [])
push_on name x names ds true true is same = rw same refl
push_on name x names ds true false is same = rw same refl
push_on name x names ds false true is same =
    rw (same, filter-append (differs name) (distinct names) (x ∷ []), last_kept true name x is)
    (ap (λ (l : List (List ℕ)). name ∷ l) (append-nil (filter (differs name) (distinct names))))
push_on name x names ds false false is same =
    rw (same, filter-append (differs name) (distinct names) (x ∷ []), last_kept false name x is) refl

pub distinct-push : (names : List (List ℕ)) (x : List ℕ) →
    distinct (names ++ x ∷ []) ≡ (if has x names then distinct names else distinct names ++ x ∷ [])
distinct-push [] x = refl
distinct-push (name ∷ names) x =
    push_on name x names (distinct (names ++ x ∷ [])) (has x names) (bytes_eq name x) refl (distinct-push names x)
