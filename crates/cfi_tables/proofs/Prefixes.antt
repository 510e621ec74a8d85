-- Beginnings of lists.
use Rattle.std.proofs.Common.{◌≡◌, ℕ, zero, suc, ◌+◌, ◌<◌, ◌≤◌, List, [], ◌∷◌, ◌++◌, length, slice_index_or, take, drop, refl, sym, ap, ◌∙◌, subst, arith, append_assoc, append-nil, length-append, take-append-drop}
use mathlib.Core.List.{IsPrefix}
use Rattle.std.proofs.lemmas.List.{get_or_append_left}

module _ {A : Type 0} where
  pub prefix_same : (xs : List A) → IsPrefix xs xs
  prefix_same xs = ([], append-nil xs)

  pub prefix_trans : (xs ys zs : List A) → IsPrefix xs ys → IsPrefix ys zs → IsPrefix xs zs
  prefix_trans xs ys zs a b =
      (a.0 ++ b.0, sym (append_assoc xs a.0 b.0) ∙ (ap (λ l. l ++ b.0) a.1 ∙ b.1))

  pub prefix_more : (xs ys : List A) → IsPrefix xs (xs ++ ys)
  prefix_more xs ys = (ys, refl)

  pub prefix_item : (xs ys : List A) (i : ℕ) (d : A) → IsPrefix xs ys → i < length xs
      → slice_index_or ys i d ≡ slice_index_or xs i d
  prefix_item xs ys i d p inside =
      subst (λ l. slice_index_or l i d ≡ slice_index_or xs i d) p.1 (get_or_append_left xs p.0 d i inside)

  pub prefix_length : (xs ys : List A) → IsPrefix xs ys → length xs ≤ length ys
  prefix_length xs ys p =
      let e : length xs + length p.0 ≡ length ys = sym (length-append xs p.0) ∙ ap length p.1 in omega arith

  take_front : (xs ys : List A) (n : ℕ) → length xs ≤ n → IsPrefix xs (take n (xs ++ ys))
  take_front [] ys n h = (take n ys, refl)
  take_front (x ∷ xs) ys zero h = absurd (omega arith)
  take_front (x ∷ xs) ys (suc n) h =
      let r = take_front xs ys n (omega arith) in (r.0, ap (λ l. x ∷ l) r.1)

  -- a beginning of a list is one of its first items, if these are as many
  pub prefix_take : (xs ys : List A) (n : ℕ) → IsPrefix xs ys → length xs ≤ n → IsPrefix xs (take n ys)
  prefix_take xs ys n p h = subst (λ l. IsPrefix xs (take n l)) p.1 (take_front xs p.0 n h)

  pub take_prefix : (ys : List A) (n : ℕ) → IsPrefix (take n ys) ys
  take_prefix ys n = (drop n ys, take-append-drop n ys)
