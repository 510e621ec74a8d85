use Rattle.std.proofs.Common.{◌≡◌, take}
use Rattle.cfi_model.specs.Log.{last_policy}
use Rattle.cfi_guest_run.proofs.causes.last_policy.Given as goal

-- the last policy so far
abbrev pub invariant-loop-entry : goal.invariant-loop-entry
invariant-loop-entry l = l.last ≡ last_policy (take l.entry-index l.log)
