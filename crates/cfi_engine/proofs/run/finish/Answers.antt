use Rattle.std.proofs.Common.{ℕ, List, refl, sym, subst}
use Rattle.std.specs.List.{slice_get}
use Rattle.cfi_guest_run.specs.Concluded.{IsEndedRun}
use Rattle.cfi_guest_run.specs.Runner.{Ran}
use Rattle.cfi_engine.specs.inner.Guests.{AreOver}
use Rattle.cfi_engine.proofs.run.finish.Goals as goal

-- all runners are over, as the threads have left them
pub have_stopped-requires : goal.have_stopped-requires
have_stopped-requires g c = record { over = subst AreOver (sym c.as_slice.ensures.value) c.requires.over }

-- their guests have stopped
pub conclude-requires-clause-ended : goal.conclude-requires-clause-ended
conclude-requires-clause-ended g c =
    subst (λ (rans : List Ran). (number : ℕ) → IsEndedRun number (slice_get rans number)) c.as_slice.ensures.value
    (c.if-not-have_stopped.ensures refl)
