-- A module has at most one first fault.
use Rattle.std.proofs.Common.{◌≡◌, ℕ, ◌<◌, ◌≤◌, List, [], ◌∷◌, get_or, refl, ap, sym, ◌∙◌, ⊎_elim, inl, inr, arith}
use Rattle.std.proofs.lemmas.Bool.{cases_lt}
use Rattle.cfi_aux.specs.declared.placed.Placed.{Placed}
use Rattle.cfi_verify.specs.declared.fault.VerifyFault.{VerifyFault}
use Rattle.cfi_verify.specs.declared.fault.VerifyFault.TheVariants.{Empty, Illegal, NotUnit, Slot, Functions, FallsThrough, Target, Kinds, Switch, Memory}
use Rattle.cfi_verify.specs.Fault.{fault_number, fault_place, IsFirstFault}

-- the fault of a number at a place
abbrev fault_of : (number place : ℕ) → VerifyFault
fault_of number o =
    get_or (
    Memory ∷ Empty ∷ Illegal o ∷ NotUnit o ∷ Slot o ∷ Functions o ∷ FallsThrough o ∷ Target o ∷ Kinds o ∷ Switch o
    ∷ []
    ) number Memory

fault_of-parts : (fault : VerifyFault) → fault_of (fault_number fault) (fault_place fault) ≡ fault
fault_of-parts Empty = refl
fault_of-parts (Illegal o) = refl
fault_of-parts (NotUnit o) = refl
fault_of-parts (Slot o) = refl
fault_of-parts (Functions k) = refl
fault_of-parts (FallsThrough k) = refl
fault_of-parts (Target o) = refl
fault_of-parts (Kinds o) = refl
fault_of-parts (Switch k) = refl
fault_of-parts Memory = refl

-- of two first faults neither is earlier
number_le : (m : Placed) (loaded : List Placed) (a b : VerifyFault) → IsFirstFault m loaded a →
    IsFirstFault m loaded b → fault_number a ≤ fault_number b
number_le m loaded a b p q =
    ⊎_elim (λ (less : fault_number b < fault_number a). absurd (p.first b q.stands (inl less)))
    (λ (more : fault_number a ≤ fault_number b). more)
    (cases_lt (fault_number b) (fault_number a))

place_le : (m : Placed) (loaded : List Placed) (a b : VerifyFault) → IsFirstFault m loaded a →
    IsFirstFault m loaded b → fault_number b ≡ fault_number a → fault_place a ≤ fault_place b
place_le m loaded a b p q same =
    ⊎_elim (λ (less : fault_place b < fault_place a). absurd (p.first b q.stands (inr (same, less))))
    (λ (more : fault_place a ≤ fault_place b). more)
    (cases_lt (fault_place b) (fault_place a))

pub one_fault : (m : Placed) (loaded : List Placed) (a b : VerifyFault) → IsFirstFault m loaded a →
    IsFirstFault m loaded b → a ≡ b
one_fault m loaded a b p q =
    let number : fault_number a ≡ fault_number b =
    omega (arith, number_le m loaded a b p q, number_le m loaded b a q p) in
    let place : fault_place a ≡ fault_place b =
    omega (arith, place_le m loaded a b p q (sym number), place_le m loaded b a q p number) in
    sym (fault_of-parts a) ∙ ap (λ (n : ℕ). fault_of n (fault_place a)) number
    ∙ ap (λ (k : ℕ). fault_of (fault_number b) k) place ∙ fault_of-parts b
