-- The first guest that has nowhere to begin.
use Rattle.std.proofs.Common.{◌≡◌, ℕ, ◌+◌, ◌<◌, ◌≤◌, List, length, get_or, Some, None, sym, ap, subst, ◌∙◌, ⊎_elim, arith}
use Rattle.std.specs.List.{slice_get}
use Rattle.std.proofs.lemmas.Bool.{cases_lt}
use Rattle.std.proofs.lemmas.Option.{slice_get-get_or, slice_get_within}
use Rattle.cfi_aux.specs.declared.placed.Placed.{Placed}
use Rattle.cfi_plan.specs.declared.plan.Plan.{Plan}
use Rattle.cfi_valid.specs.Guests.{EntersIn}
use Rattle.cfi_ledger.specs.Entries.{EnterBelow, AllEnter, IsFirstOut}

module _ (plan : Plan) (starts : List Placed) (guests : List (List ℕ)) (same : guests ≡ plan.guests) (number : ℕ)
    (entry : List ℕ) (within : number < length guests) (is : entry ≡ get_or guests number entry)
    (before : EnterBelow plan starts number) where
  there : slice_get plan.guests number ≡ Some entry
  there =
      ap (λ (gs : List (List ℕ)). slice_get gs number) (sym same)
      ∙ slice_get-get_or guests number entry within
      ∙ ap (λ (e : List ℕ). Some e) (sym is)

  -- this one has none
  pub first_out : (name : List ℕ) → name ≡ entry
      → ((address : ℕ) → EntersIn plan starts name address → None ≡ Some address) → IsFirstOut plan starts number
  first_out name name_is only = record {
    entry = entry;
    is = there;
    lost = λ found.
        let enters : EntersIn plan starts name found.0 =
        subst (λ (e : List ℕ). EntersIn plan starts e found.0) (sym name_is) found.1 in
        none (only found.0 enters);
    before = before;
  }
    where
      none : {a : ℕ} → None ≡ Some a → ⊥
      none same = cc

  -- or it has one
  pub enter_next : (name : List ℕ) → name ≡ entry → (address : ℕ) → EntersIn plan starts name address
      → EnterBelow plan starts (number + 1)
  enter_next name name_is address enters = λ k other less other_is. ⊎_elim
      (λ (early : k < number). before k other early other_is)
      (λ (late : number ≤ k).
      let here : k ≡ number = omega (arith, less, late) in
      let both : Some other ≡ Some entry =
      sym other_is ∙ ap (slice_get plan.guests) here ∙ there in
      let one : other ≡ entry = cc in
      (address, subst (λ (e : List ℕ). EntersIn plan starts e address) (name_is ∙ sym one) enters))
      (cases_lt k number)

-- all have
pub all_enter : (plan : Plan) (starts : List Placed) (number : ℕ) → length plan.guests ≤ number
    → EnterBelow plan starts number → AllEnter plan starts
all_enter plan starts number all before = λ guest entry is.
    before guest entry (omega (arith, all, slice_get_within plan.guests guest entry is)) is
