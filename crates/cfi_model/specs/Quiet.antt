-- QUIET words, quiescent points, and which updates are admitted (MCFI, Niu and Tan, PLDI 2014: a version is used again
-- only when no check can still hold a word of the epoch that had it).
use Rattle.std.specs.Prelude.{ℕ, zero, suc, ◌+◌, ◌-◌, ◌==◌, nat_le, if◌then◌else◌, Bool, true}
use Rattle.cfi_model.specs.declared.quiet.Quiet.{Quiet}
use Rattle.cfi_model.specs.declared.quiet.Quiet.TheVariants.{Unregistered, Parked, Published}
use Rattle.cfi_model.specs.declared.quiet.TheConstants.{PARKED}

-- the word that tells it
abbrev pub quiet_word_of : Quiet → ℕ
quiet_word_of Unregistered = 0
quiet_word_of Parked = PARKED
quiet_word_of (Published epoch) = epoch + 1

-- what a QUIET word tells
abbrev pub quiet_in : (word : ℕ) → Quiet
quiet_in zero = Unregistered
quiet_in (suc epoch) = if suc epoch == PARKED then Parked else Published epoch

-- An update to this epoch may go on where it finds this in a QUIET word. After the guest's quiescent point its Bary word
-- has an epoch of at least one less than was published, so all that its next try can meet have different versions. A
-- guest that is parked makes no try, and once it has left, what it finds is of the epoch before this update's at least.
abbrev pub admits : (versions epoch : ℕ) → Quiet → Bool
admits versions epoch Unregistered = true
admits versions epoch Parked = true
admits versions epoch (Published quiet) = nat_le epoch (quiet + versions - 2)
