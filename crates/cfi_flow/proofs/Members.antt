-- Members of lists that are made from lists.
use Rattle.std.proofs.Common.{◌≡◌, ◌∙◌, slice_index_or, ◌<◌, ◌⊎◌, Bool, true, false, cond, List, [], ◌∷◌, map, filter, refl, sym, ap, subst, inl, inr, arith}
use Rattle.std.specs.List.{Contains, flat_map}
use Rattle.std.proofs.lemmas.List.Elements.{Contains-append_left, Contains-append_right, Contains-append_cases}

pub member_first : {X : Type 0} (x : X) (xs : List X) → Contains (x ∷ xs) x
member_first x xs = (0, omega arith, refl)

pub member_later : {X : Type 0} (x : X) (xs : List X) (y : X) → Contains xs y → Contains (x ∷ xs) y
member_later x xs y h = Contains-append_right (x ∷ []) xs y h

pub no_member : {X : Type 0} (x : X) → Contains [] x → ⊥
no_member x h = let below : h.0 < 0 = h.1 in omega (arith, below)

pub member_of_one : {X : Type 0} (x y : X) → Contains (x ∷ []) y → x ≡ y
member_of_one x y h =
    let at : h.0 ≡ 0 = omega (arith, h.1) in
    let is : slice_index_or (x ∷ []) 0 y ≡ y = subst (λ k. slice_index_or (x ∷ []) k y ≡ y) at h.2 in
    is

pub member_cases : {X : Type 0} (x : X) (xs : List X) (y : X) → Contains (x ∷ xs) y → (x ≡ y) ⊎ Contains xs y
member_cases x xs y h =
    elim (Contains-append_cases (x ∷ []) xs y h) [ inl a ↦ inl (member_of_one x y a) | inr b ↦ inr b ]

-- ---- map

pub member_map : {X Y : Type 0} (f : X → Y) (xs : List X) (x : X) → Contains xs x → Contains (map f xs) (f x)
member_map f [] x h = absurd (no_member x h)
member_map f (y ∷ ys) x h =
    elim (member_cases y ys x h) [
      | inl e ↦ subst (λ z. Contains (map f (y ∷ ys)) (f z)) e (member_first (f y) (map f ys))
      | inr t ↦ member_later (f y) (map f ys) (f x) (member_map f ys x t)
    ]

pub from_map : {X Y : Type 0} (f : X → Y) (xs : List X) (y : Y) → Contains (map f xs) y
    → (x : X) × Contains xs x × (f x ≡ y)
from_map f [] y h = absurd (no_member y h)
from_map f (x ∷ xs) y h =
    elim (member_cases (f x) (map f xs) y h) [
      | inl e ↦ (x, member_first x xs, e)
      | inr t ↦ let r = from_map f xs y t in (r.0, member_later x xs r.0 r.1, r.2)
    ]

-- ---- filter

kept_later : {X : Type 0} (p : X → Bool) (y : X) (ys : List X) (x : X) → Contains (filter p ys) x
    → Contains (filter p (y ∷ ys)) x
kept_later p y ys x h =
    elim (p y) as (λ b. Contains (cond b (y ∷ filter p ys) (filter p ys)) x) [
      | true ↦ member_later y (filter p ys) x h
      | false ↦ h
    ]

kept_first : {X : Type 0} (p : X → Bool) (y : X) (ys : List X) → p y ≡ true → Contains (filter p (y ∷ ys)) y
kept_first p y ys h =
    let P : Bool → Type 0 = λ b. Contains (cond b (y ∷ filter p ys) (filter p ys)) y in
    subst P (sym h) (member_first y (filter p ys))

pub member_filter : {X : Type 0} (p : X → Bool) (xs : List X) (x : X) → Contains xs x → p x ≡ true
    → Contains (filter p xs) x
member_filter p [] x h t = absurd (no_member x h)
member_filter p (y ∷ ys) x h t =
    elim (member_cases y ys x h) [
      | inl e ↦
          subst (λ z. Contains (filter p (y ∷ ys)) z) e (kept_first p y ys (ap p e ∙ t))
      | inr r ↦ kept_later p y ys x (member_filter p ys x r t)
    ]

from_kept : {X : Type 0} (p : X → Bool) (y : X) (ys : List X) (x : X) (b : Bool) → p y ≡ b
    → Contains (cond b (y ∷ filter p ys) (filter p ys)) x → ((y ≡ x) × (p x ≡ true)) ⊎ Contains (filter p ys) x
from_kept p y ys x true e h =
    elim (member_cases y (filter p ys) x h) [ inl s ↦ inl (s, ap p (sym s) ∙ e) | inr t ↦ inr t ]
from_kept p y ys x false e h = inr h

pub from_filter : {X : Type 0} (p : X → Bool) (xs : List X) (x : X) → Contains (filter p xs) x
    → Contains xs x × (p x ≡ true)
from_filter p [] x h = absurd (no_member x h)
from_filter p (y ∷ ys) x h =
    elim (from_kept p y ys x (p y) refl h) [
      | inl s ↦ (subst (λ z. Contains (y ∷ ys) z) s.0 (member_first y ys), s.1)
      | inr t ↦ let r = from_filter p ys x t in (member_later y ys x r.0, r.1)
    ]

-- ---- flat_map

pub member_flat : {X Y : Type 0} (f : X → List Y) (xs : List X) (x : X) (y : Y) → Contains xs x → Contains (f x) y
    → Contains (flat_map f xs) y
member_flat f [] x y h t = absurd (no_member x h)
member_flat f (z ∷ zs) x y h t =
    elim (member_cases z zs x h) [
      | inl e ↦ Contains-append_left (f z) (flat_map f zs) y (subst (λ w. Contains (f w) y) (sym e) t)
      | inr r ↦ Contains-append_right (f z) (flat_map f zs) y (member_flat f zs x y r t)
    ]

pub from_flat : {X Y : Type 0} (f : X → List Y) (xs : List X) (y : Y) → Contains (flat_map f xs) y
    → (x : X) × Contains xs x × Contains (f x) y
from_flat f [] y h = absurd (no_member y h)
from_flat f (z ∷ zs) y h =
    elim (Contains-append_cases (f z) (flat_map f zs) y h) [
      | inl a ↦ (z, member_first z zs, a)
      | inr b ↦ let r = from_flat f zs y b in (r.0, member_later z zs r.0 r.1, r.2)
    ]
