-- Look-ups in lists of names with numbers.
use Rattle.std.proofs.Common.{◌≡◌, ℕ, not, Bool, true, false, cond, List, [], ◌∷◌, ◌++◌, Option, Some, None, is_some, refl, sym, ap, ◌∙◌, inl, inr}
use Rattle.std.specs.Option.{option_or}
use Rattle.std.specs.Map.{lookup}
use Rattle.std.specs.Str.{bytes_eq}
use Rattle.std.proofs.lemmas.Bool.{cases_Bool}
use Rattle.std.proofs.lemmas.Slice.Eq.{bytes_eq-Decides}
use Rattle.cfi_place.specs.Names.{Names, first_in, with_name}

-- with one entry more at the end
pub lookup-push : {K X : Type 0} (test : K → Bool) (es : List (K × X)) (e : K × X)
    → lookup test (es ++ e ∷ []) ≡ option_or (lookup test es) (cond (test e.0) (Some e.1) None)
lookup-push test [] e = refl
lookup-push test (x ∷ xs) e = elim (cases_Bool (test x.0)) [
  | inl here ↦ rw here refl
  | inr there ↦ rw there (lookup-push test xs e)
]

pub bytes_eq-sym : (xs ys : List ℕ) → bytes_eq xs ys ≡ bytes_eq ys xs
bytes_eq-sym xs ys = elim (cases_Bool (bytes_eq xs ys)) [
  | inl same ↦ same ∙ sym ((bytes_eq-Decides ys xs).1 (sym ((bytes_eq-Decides xs ys).0 same)))
  | inr other ↦ elim (cases_Bool (bytes_eq ys xs)) [
    | inl same ↦ (bytes_eq-Decides xs ys).1 (sym ((bytes_eq-Decides ys xs).0 same)) ∙ sym same
    | inr both ↦ other ∙ sym both
  ]
]

kept : (found : Option ℕ) (n : ℕ) → option_or found (Some n) ≡ cond (not (is_some found)) (Some n) found
kept None n = refl
kept (Some m) n = refl

none_more : (found : Option ℕ) → option_or found None ≡ found
none_more None = refl
none_more (Some m) = refl

-- a list with one name more
pub first_in-push : (pairs : List (List ℕ × ℕ)) (x : List ℕ) (n : ℕ) (name : List ℕ)
    → first_in (pairs ++ (x, n) ∷ []) name ≡ with_name x n (first_in pairs) name
first_in-push pairs x n name =
    let step = lookup-push (λ other. bytes_eq name other) pairs (x, n) in
    elim (cases_Bool (bytes_eq x name)) [
      | inl same ↦
          let is : x ≡ name = (bytes_eq-Decides x name).0 same in
          let turned : bytes_eq name x ≡ true = bytes_eq-sym name x ∙ same in
          let known : is_some (first_in pairs x) ≡ is_some (first_in pairs name) =
          ap (λ (y : List ℕ). is_some (first_in pairs y)) is in
          step ∙ rw (turned, same, known) (kept (first_in pairs name) n)
      | inr other ↦
          let turned : bytes_eq name x ≡ false = bytes_eq-sym name x ∙ other in
          step ∙ rw (turned, other) (none_more (first_in pairs name))
    ]

-- one name more, in names that answer alike
pub with_name-same : (x : List ℕ) (n : ℕ) (f g : Names) → ((name : List ℕ) → f name ≡ g name) → (name : List ℕ)
    → with_name x n f name ≡ with_name x n g name
with_name-same x n f g same name =
    let here = same name in
    let there = same x in
    rw (here, there) refl

-- a list with one name more, and names that answer as it does
pub names-push : (before after : List (List ℕ × ℕ)) (x : List ℕ) (n : ℕ) (old new : Names)
    → after ≡ before ++ (x, n) ∷ [] → ((q : List ℕ) → old q ≡ first_in before q)
    → ((q : List ℕ) → new q ≡ with_name x n old q) → (q : List ℕ) → new q ≡ first_in after q
names-push before after x n old new more was added q =
    added q ∙ with_name-same x n old (first_in before) was q ∙ sym (first_in-push before x n q)
    ∙ ap (λ (pairs : List (List ℕ × ℕ)). first_in pairs q) (sym more)
