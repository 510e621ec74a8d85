-- The first item of a list that gives a number.
use Rattle.std.proofs.Common.{◌≡◌, ◌⊎◌, ◌∙◌, ℕ, zero, suc, ◌+◌, ◌<◌, List, [], ◌∷◌, ◌++◌, length, take, get_or, Option, Some, None, inl, inr, refl, sym, ap, arith}
use Rattle.std.specs.Prelude.{slice_get}
use Rattle.std.specs.Option.{option_or}
use Rattle.std.proofs.lemmas.Option.{none-some, same_Some}
use Rattle.cfi_graph.specs.Named.{first_given}

-- the item of this place gives the number, and none before it gives one
pub record IsFirstGiven {X : Type 0} (gives : X → Option ℕ) (xs : List X) (n : ℕ) : Type 0 where
  pub place : ℕ
  pub item : X
  pub is : slice_get xs place ≡ Some item
  pub given : gives item ≡ Some n
  pub none : (k : ℕ) (x : X) → k < place → slice_get xs k ≡ Some x → gives x ≡ None

pub none_or_some : (o : Option ℕ) → (o ≡ None) ⊎ ((n : ℕ) × (o ≡ Some n))
none_or_some None = inl refl
none_or_some (Some n) = inr (n, refl)

-- ---- one or the other

pub or_none : (o : Option ℕ) → option_or o None ≡ o
or_none None = refl
or_none (Some n) = refl

pub or_or : (a b c : Option ℕ) → option_or (option_or a b) c ≡ option_or a (option_or b c)
or_or None b c = refl
or_or (Some n) b c = refl

none_first : (a b : Option ℕ) → option_or a b ≡ None → a ≡ None
none_first None b none = refl
none_first (Some n) b none = none

none_then : (a b : Option ℕ) → option_or a b ≡ None → b ≡ None
none_then None b none = none
none_then (Some n) b none = absurd (none-some n (sym none))

-- ---- lists

module _ {X : Type 0} (gives : X → Option ℕ) where
  later : (x : X) (xs : List X) (n : ℕ) → gives x ≡ None → IsFirstGiven gives xs n → IsFirstGiven gives (x ∷ xs) n
  later x xs n none f = record {
    place = suc f.place;
    item = f.item;
    is = f.is;
    given = f.given;
    none = earlier;
  }
    where
      earlier : (k : ℕ) (y : X) → k < suc f.place → slice_get (x ∷ xs) k ≡ Some y → gives y ≡ None
      earlier zero y less is = ap gives (sym (same_Some x y is)) ∙ none
      earlier (suc k) y less is = f.none k y (omega (arith, less)) is

  here : (x : X) (xs : List X) (n : ℕ) → gives x ≡ Some n → IsFirstGiven gives (x ∷ xs) n
  here x xs n given = record {
    place = 0;
    item = x;
    is = refl;
    given = given;
    none = λ k y less is. absurd (omega (arith, less));
  }

  pub first_found : (xs : List X) (n : ℕ) → first_given gives xs ≡ Some n → IsFirstGiven gives xs n
  first_found [] n is = absurd (none-some n is)
  first_found (x ∷ xs) n is =
      elim (none_or_some (gives x)) [
        | inl none ↦
            later x xs n none (first_found xs n (sym (ap (λ o. option_or o (first_given gives xs)) none) ∙ is))
        | inr some ↦
            let same : some.0 ≡ n =
            same_Some some.0 n (sym (ap (λ o. option_or o (first_given gives xs)) some.1) ∙ is) in
            here x xs n (some.1 ∙ ap (λ k. Some k) same)
      ]

  first_at : (xs : List X) (place n : ℕ) (item : X) → slice_get xs place ≡ Some item → gives item ≡ Some n
      → ((k : ℕ) (x : X) → k < place → slice_get xs k ≡ Some x → gives x ≡ None) → first_given gives xs ≡ Some n
  first_at [] place n item is given none = absurd (none-some item is)
  first_at (x ∷ xs) zero n item is given none =
      ap (λ o. option_or o (first_given gives xs)) (ap gives (same_Some x item is) ∙ given)
  first_at (x ∷ xs) (suc place) n item is given none =
      ap (λ o. option_or o (first_given gives xs)) (none 0 x (omega arith) refl)
      ∙ first_at xs place n item is given (λ k y less there. none (suc k) y (omega (arith, less)) there)

  pub first_is : (xs : List X) (n : ℕ) → IsFirstGiven gives xs n → first_given gives xs ≡ Some n
  first_is xs n f = first_at xs f.place n f.item f.is f.given f.none

  -- where none is found, none is given
  pub none_given : (xs : List X) → first_given gives xs ≡ None → (k : ℕ) (x : X) → slice_get xs k ≡ Some x
      → gives x ≡ None
  none_given [] none k x is = absurd (none-some x is)
  none_given (y ∷ ys) none zero x is =
      ap gives (sym (same_Some y x is)) ∙ none_first (gives y) (first_given gives ys) none
  none_given (y ∷ ys) none (suc k) x is = none_given ys (none_then (gives y) (first_given gives ys) none) k x is

  first_next : (xs : List X) (k : ℕ) (d : X) → k < length xs
      → first_given gives (take (suc k) xs) ≡ option_or (first_given gives (take k xs)) (gives (get_or xs k d))
  first_next [] k d within = absurd (omega (arith, within))
  first_next (x ∷ xs) zero d within = or_none (gives x)
  first_next (x ∷ xs) (suc k) d within =
      ap (option_or (gives x)) (first_next xs k d (omega (arith, within)))
      ∙ sym (or_or (gives x) (first_given gives (take k xs)) (gives (get_or xs k d)))

  -- one item more
  pub first_more : (xs : List X) (k : ℕ) (d : X) → k < length xs
      → first_given gives (take (k + 1) xs) ≡ option_or (first_given gives (take k xs)) (gives (get_or xs k d))
  first_more xs k d within =
      let next : k + 1 ≡ suc k = omega arith in
      ap (λ n. first_given gives (take n xs)) next ∙ first_next xs k d within

  -- one item behind all
  pub first_push : (xs : List X) (x : X) → first_given gives (xs ++ x ∷ []) ≡ option_or (first_given gives xs) (gives x)
  first_push [] x = or_none (gives x)
  first_push (y ∷ ys) x =
      ap (option_or (gives y)) (first_push ys x) ∙ sym (or_or (gives y) (first_given gives ys) (gives x))
