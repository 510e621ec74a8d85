-- The kept numbers of classes of near tables.
use Rattle.std.proofs.Common.{◌≡◌, ℕ, suc, ◌+◌, ◌<◌, ◌≤◌, true, false, eqb, List, [], ◌∷◌, ◌++◌, length, drop, get_or, refl, sym, ap, subst, ◌∙◌, arith, inl, inr}
use Rattle.std.specs.Prelude.{max}
use Rattle.std.proofs.lemmas.Bool.{cases_lt, cases_Bool, eqb-true}
use Rattle.std.proofs.lemmas.Bool.Decides.{nat_tests}
use Rattle.std.proofs.lemmas.List.{length_push, get_or_push, get_or_append_left, drop_more, drop_all}
use Rattle.cfi_types.specs.Classes.{InOrder}
use Rattle.cfi_types.specs.inner.Extending.{next_after, next_at, put_one, back_from, AreBack}
use Rattle.cfi_types.proofs.Places.{flat}
use Rattle.cfi_types.proofs.OrderLemmas.{next_more, row_order}

-- ---- the code

pub back_step : (back own kept : List ℕ) (a : ℕ) → a < length own → length kept ≡ length own
    → back_from back (drop a own) (drop a kept)
    ≡ back_from (put_one back (get_or own a 0) (get_or kept a 0)) (drop (a + 1) own) (drop (a + 1) kept)
unfolding back_from
back_step back own kept a lt same =
    ap (λ (os : List ℕ). back_from back os (drop a kept)) (drop_more own a 0 lt)
    ∙ ap (λ (ns : List ℕ). back_from back (get_or own a 0 ∷ drop (a + 1) own) ns)
    (drop_more kept a 0 (omega (arith, lt, same)))

pub back_end : (back own kept : List ℕ) (a : ℕ) → length own ≤ a → back_from back (drop a own) (drop a kept) ≡ back
unfolding back_from
back_end back own kept a past = ap (λ (os : List ℕ). back_from back os (drop a kept)) (drop_all a own past)

-- ---- one table

put-true : (back : List ℕ) (o n : ℕ) → eqb o (length back) ≡ true → put_one back o n ≡ back ++ n ∷ []
put-true back o n is = rw is refl

put-false : (back : List ℕ) (o n : ℕ) → eqb o (length back) ≡ false → put_one back o n ≡ back
put-false back o n is = rw is refl

-- what the code has made
pub put_is : (back next : List ℕ) (o n len : ℕ) → o ≡ len → len ≡ length back → next ≡ back ++ n ∷ []
    → put_one back o n ≡ next
put_is back next o n len is count made =
    put-true back o n (equal-true o (length back) (is ∙ count)) ∙ sym made
  where
    equal-true : (a b : ℕ) → a ≡ b → eqb a b ≡ true
    equal-true a b e = grind (arith, nat_tests)

pub put_not : (back next : List ℕ) (o n len : ℕ) → ¬ (o ≡ len) → len ≡ length back → next ≡ back → put_one back o n ≡ next
put_not back next o n len not count made =
    put-false back o n (unequal-false o (length back) (λ e. not (e ∙ sym count))) ∙ sym made
  where
    unequal-false : (a b : ℕ) → ¬ (a ≡ b) → eqb a b ≡ false
    unequal-false a b e = grind (arith, nat_tests)

module _ (back : List ℕ) (o n : ℕ) (most : o ≤ length back) where
  put-length : length (put_one back o n) ≡ max (length back) (o + 1)
  put-length =
      elim (cases_Bool (eqb o (length back))) [
        | inl is ↦
            omega (
              arith,
              ap (length {A = ℕ}) (put-true back o n is),
              length_push back n,
              eqb-true o (length back) is,
            )
        | inr is ↦
            let other : o < length back = omega (arith, most, unequal is) in
            omega (arith, ap (length {A = ℕ}) (put-false back o n is), other)
      ]
    where
      unequal : eqb o (length back) ≡ false → ¬ (o ≡ length back)
      unequal is = grind (arith, nat_tests)

  put-old : (k : ℕ) → k < length back → get_or (put_one back o n) k 0 ≡ get_or back k 0
  put-old k lt =
      elim (cases_Bool (eqb o (length back))) [
        | inl is ↦ ap (λ (xs : List ℕ). get_or xs k 0) (put-true back o n is)
            ∙ get_or_append_left back (n ∷ []) 0 k lt
        | inr is ↦ ap (λ (xs : List ℕ). get_or xs k 0) (put-false back o n is)
      ]

  put-new : (k : ℕ) → length back ≤ k → k < length (put_one back o n) → (o ≡ k) × (get_or (put_one back o n) k 0 ≡ n)
  put-new k least lt =
      elim (cases_Bool (eqb o (length back))) [
        | inl is ↦
            let long = put-length in
            let here : k ≡ length back = omega (arith, least, lt, long, eqb-true o (length back) is) in (
              omega (arith, here, eqb-true o (length back) is),
              ap (λ (xs : List ℕ). get_or xs k 0) (put-true back o n is) ∙ get_or_push back n 0 k (sym here),
            )
        | inr is ↦ absurd (omega (arith, least, lt, ap (length {A = ℕ}) (put-false back o n is)))
      ]

-- as many as the next number
back-length : (back own kept : List ℕ) → length kept ≡ length own → InOrder (length back) own
    → length (back_from back own kept) ≡ next_after (length back) own
unfolding back_from
back-length back [] kept same order = refl
back-length back (o ∷ own) [] same order = absurd (omega (arith, same))
back-length back (o ∷ own) (n ∷ kept) same order =
    let long = put-length back o n order.0 in
    back-length (put_one back o n) own kept (omega (arith, same))
    (subst (λ (next : ℕ). InOrder next own) (sym long) order.1)
    ∙ ap (λ (next : ℕ). next_after next own) long

back-old : (back own kept : List ℕ) → length kept ≡ length own → InOrder (length back) own → (k : ℕ) → k < length back
    → get_or (back_from back own kept) k 0 ≡ get_or back k 0
unfolding back_from
back-old back [] kept same order k lt = refl
back-old back (o ∷ own) [] same order k lt = refl
back-old back (o ∷ own) (n ∷ kept) same order k lt =
    let long = put-length back o n order.0 in
    back-old (put_one back o n) own kept (omega (arith, same))
    (subst (λ (next : ℕ). InOrder next own) (sym long) order.1) k (omega (arith, lt, long))
    ∙ put-old back o n order.0 k lt

-- a class that comes with the table has the kept number of a node of it
back-new : (back own kept : List ℕ) → length kept ≡ length own → InOrder (length back) own → (k : ℕ)
    → length back ≤ k → k < length (back_from back own kept)
    → (a : ℕ) × (a < length own) × (get_or own a 0 ≡ k) × (get_or (back_from back own kept) k 0 ≡ get_or kept a 0)
unfolding back_from
back-new back [] kept same order k least lt = absurd (omega (arith, least, lt))
back-new back (o ∷ own) [] same order k least lt = absurd (omega (arith, same))
back-new back (o ∷ own) (n ∷ kept) same order k least lt =
    let long = put-length back o n order.0 in
    let more = subst (λ (next : ℕ). InOrder next own) (sym long) order.1 in
    let fewer : length kept ≡ length own = omega (arith, same) in
    elim (cases_lt k (length (put_one back o n))) [
      | inl less ↦
          let here = put-new back o n order.0 k least less in
          (0, omega arith, here.0, back-old (put_one back o n) own kept fewer more k less ∙ here.1)
      | inr past ↦
          let rest = back-new (put_one back o n) own kept fewer more k past lt in
          (suc rest.0, omega (arith, rest.1), rest.2, rest.3)
    ]

-- ---- table by table

pub no_back : (own kept : List (List ℕ)) (numbers back : List ℕ) → back ≡ [] → AreBack own kept numbers 0 back
no_back own kept numbers back none =
    subst (λ (xs : List ℕ). AreBack own kept numbers 0 xs) (sym none)
    (record { count = refl; each = λ o lt. absurd (omega (arith, lt)) })

pub back_more : (own kept : List (List ℕ)) (numbers : List ℕ) (i : ℕ) (back next row rest : List ℕ) → i < length own
    → row ≡ get_or own i [] → rest ≡ get_or kept (get_or numbers i 0) [] → length rest ≡ length row
    → InOrder 0 (flat own) → AreBack own kept numbers i back → next ≡ back_from back row rest
    → AreBack own kept numbers (i + 1) next
back_more own kept numbers i back next row rest lt is_row is_rest same order so_far made =
    let ordered : InOrder (length back) row =
    subst (InOrder (length back)) (sym is_row)
    (subst (λ (n : ℕ). InOrder n (get_or own i [])) (sym so_far.count) (row_order own i lt order)) in
    let long : length (back_from back row rest) ≡ next_after (length back) row = back-length back row rest same ordered in
    subst (AreBack own kept numbers (i + 1)) (sym made)
    (record {
      count =
          long
          ∙ ap (λ (n : ℕ). next_after n row) so_far.count
          ∙ ap (next_after (next_at own i)) is_row
          ∙ sym (next_more own i lt);
      each = λ o within.
          elim (cases_lt o (length back)) [
            | inl less ↦
                let old = so_far.each o less in
                (old.0, old.1, omega (arith, old.2), old.3, old.4, back-old back row rest same ordered o less ∙ old.5)
            | inr more ↦
                let new = back-new back row rest same ordered o more within in (
                  i,
                  new.0,
                  omega arith,
                  omega (arith, new.1, ap (length {A = ℕ}) is_row),
                  ap (λ (xs : List ℕ). get_or xs new.0 0) (sym is_row) ∙ new.2,
                  new.3 ∙ ap (λ (xs : List ℕ). get_or xs new.0 0) is_rest,
                )
          ];
    })
