-- What is made for the policies so far.
use Rattle.std.proofs.Common.{◌≡◌, ℕ, ◌+◌, ◌<◌, ◌≤◌, ◌++◌, List, [], ◌∷◌, length, Some, sym, subst, ⊎_elim, arith, length-append}
use Rattle.std.specs.List.{slice_get}
use Rattle.std.proofs.lemmas.Bool.{cases_lt}
use Rattle.std.proofs.lemmas.Option.{slice_get_within}
use Rattle.cfi_modules.proofs.OrderLemmas.{left, last as last_one}

-- each policy below this one has what is its own
pub record AreSets {X : Type 0} (IsOwn : (policy : ℕ) → X → Type 0) (at : ℕ) (sets : List X) : Type 0 where
  pub count : length sets ≡ at
  pub each : (policy : ℕ) (one : X) → slice_get sets policy ≡ Some one → IsOwn policy one

module _ {X : Type 0} (IsOwn : (policy : ℕ) → X → Type 0) where
  -- before the first policy there is none
  pub sets_none : (sets : List X) → sets ≡ [] → AreSets IsOwn 0 sets
  sets_none sets none =
      subst (AreSets IsOwn 0) (sym none) (record { count = omega arith; each = λ k one there. absurd (cc) })

  -- that of one policy more
  pub sets_more : (sets new : List X) (at : ℕ) (one : X) → AreSets IsOwn at sets → IsOwn at one
      → new ≡ sets ++ one ∷ [] → AreSets IsOwn (at + 1) new
  sets_more sets new at one has own is =
      let longer = length-append sets (one ∷ []) in
      subst (AreSets IsOwn (at + 1)) (sym is) (record {
        count = omega (arith, longer, has.count);
        each = λ k other there. ⊎_elim
            (λ (less : k < length sets). has.each k other (left sets (one ∷ []) k other less there))
            (λ (more : length sets ≤ k).
            let end : k ≡ length sets =
            omega (arith, more, longer, slice_get_within (sets ++ one ∷ []) k other there) in
            let here : at ≡ k = omega (arith, end, has.count) in
            subst (λ (n : ℕ). IsOwn n other) here
            (subst (IsOwn at) (last_one sets one k other end there) own))
            (cases_lt k (length sets));
      })
