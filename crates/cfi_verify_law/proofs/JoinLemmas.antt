-- A module joins those before it, or it has a fault.
use Rattle.std.proofs.Common.{◌≡◌, ◌≢◌, ◌⊎◌, ℕ, List, Err, ⊎_elim, inl, inr}
use Rattle.cfi_aux.specs.declared.modules.Module.{Module}
use Rattle.cfi_aux.specs.declared.placed.Placed.{Placed}
use Rattle.cfi_place.specs.declared.fault.PlaceFault.{PlaceFault}
use Rattle.cfi_place.specs.declared.fault.PlaceFault.TheVariants as place_faults
use Rattle.cfi_place.specs.Placed.{placed_in}
use Rattle.cfi_verify.specs.declared.fault.VerifyFault.{VerifyFault}
use Rattle.cfi_verify.specs.Fault.{IsFirstFault, IsVerified}
use Rattle.cfi_modules.specs.declared.fault.JoinFault.{JoinFault}
use Rattle.cfi_modules.specs.declared.fault.JoinFault.TheVariants.{Place, Verify, Memory}
use Rattle.cfi_modules.specs.Room.{room_after}
use Rattle.cfi_modules.specs.Order.{names_of, IsPlacedBehind, Joins, IsJoinFault}
use Rattle.cfi_verify_law.proofs.VerifiedLemmas.{verified_or_first}
use Rattle.cfi_verify_law.proofs.PlaceLemmas.{placed_or_not}

module _ (code_words : ℕ) (before live : List Placed) (m : Module) where
  abbrev JoinsOrFaults : Type 0
  JoinsOrFaults = ((p : Placed) × Joins code_words before live m p)
      ⊎ ((fault : JoinFault) × (fault ≢ Memory) × IsJoinFault code_words before live m fault)

  by_verifying : (p : Placed) → IsPlacedBehind code_words before live m p → JoinsOrFaults
  by_verifying p behind =
      ⊎_elim
      (λ (verified : IsVerified p live). inl (p, record { behind = behind; verified = verified }))
      (λ (first : (fault : VerifyFault) × IsFirstFault p live fault).
      inr (Verify first.0, λ same. absurd (cc), (p, behind, first.1)))
      (verified_or_first p live)

  pub joins_or_faults : JoinsOrFaults
  joins_or_faults =
      ⊎_elim
      (λ (placed : (p : Placed) × IsPlacedBehind code_words before live m p). by_verifying placed.0 placed.1)
      (λ (refused : (fault : PlaceFault)
      × (placed_in m.object (room_after code_words before) (names_of live) ≡ Err fault)
      × (fault ≢ place_faults.Memory)).
      inr (Place refused.0, λ same. absurd (cc), (refused.1, refused.2)))
      (placed_or_not m (room_after code_words before) (names_of live))
