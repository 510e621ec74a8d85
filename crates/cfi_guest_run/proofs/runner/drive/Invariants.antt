use Rattle.std.proofs.Common.{◌≡◌, None}
use Rattle.cfi_guest_run.specs.Serving.{KeepsPass}
use Rattle.cfi_guest_run.proofs.runner.drive.Given as goal

-- between two turns the guest waits for nothing, and its pass has gone on
abbrev pub invariant-loop : goal.invariant-loop
invariant-loop g l = record {
  idle : l.runner.guest.waits ≡ None;
  keeps : KeepsPass l.fn.runner.pass l.runner.pass;
}
