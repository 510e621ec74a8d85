-- The guests of a run that is over.
use Rattle.std.specs.Prelude.{◌≡◌, ◌≢◌, ◌⊎◌, ℕ, ◌<◌, List, length, slice_index_or, None, Some}
use Rattle.cfi_guest_run.specs.Runner.{Ran}
use Rattle.cfi_model.specs.declared.act.Wait.TheVariants as waits
use Rattle.cfi_word.specs.declared.services.TheConstants.{OPEN}

-- the guest of this number has stopped, or waits in an open
pub record IsOver (number : ℕ) (ran : Ran) : Type 0 where
  pub number_is : ran.pass.guest ≡ number
  pub ends : (ran.guest.base.stop ≢ None) ⊎ (ran.guest.waits ≡ Some (waits.Service OPEN))

-- those of all runners, in order
abbrev pub AreOver : List Ran → Type 0
AreOver rans = (number : ℕ) (d : Ran) → number < length rans → IsOver number (slice_index_or rans number d)
