-- One runner more, and all runners after their threads.
use Rattle.std.proofs.Common.{◌≡◌, ℕ, ◌+◌, ◌<◌, List, [], ◌∷◌, ◌++◌, length, get_or, take, drop, sym, subst, ◌∙◌, ⊎_elim, arith}
use Rattle.std.proofs.lemmas.Grind.{common_steps}
use Rattle.std.proofs.lemmas.Bool.{cases_lt}
use Rattle.std.proofs.lemmas.List.{get_or_append_left, get_or_push, length-append}
use Rattle.cfi_guest_run.specs.Runner.{Ran}
use Rattle.cfi_engine.specs.Guests.{AreWaiting, IsWaiting}

pub waiting_push : (rans : List Ran) (ran : Ran) → AreWaiting rans → IsWaiting (length rans) ran
    → AreWaiting (rans ++ ran ∷ [])
waiting_push rans ran all one number d less = ⊎_elim
    (λ (before : number < length rans). subst (IsWaiting number) (sym (get_or_append_left rans (ran ∷ []) d number before))
    (all number d before))
    (λ after.
    let is : length rans ≡ number = omega (arith, less, after, length-append rans (ran ∷ [])) in
    subst (IsWaiting number) (sym (get_or_push rans ran d number is)) (subst (λ n. IsWaiting n ran) is one))
    (cases_lt number (length rans))

-- a list that is written over another one of its length
pub written_back : (new old : List Ran) (len : ℕ) → length new ≡ length old → len ≡ length old
    → take len (new ++ drop (length new) old) ≡ new
written_back new old len long is = grind (arith, common_steps)
