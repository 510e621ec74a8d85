use Rattle.std.proofs.Common.{ℕ, ◌<◌}
use Rattle.std.specs.List.{slice_get}
use Rattle.cfi_guest_run.specs.Concluded.{IsEndedRun}
use Rattle.cfi_engine.proofs.guests.have_stopped.Given as goal

-- those before this one have stopped
abbrev pub invariant-loop-runner : goal.invariant-loop-runner
invariant-loop-runner g l = (k : ℕ) → k < l.runner-index → IsEndedRun k (slice_get l.runners k)
