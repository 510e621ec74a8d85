use Rattle.cfi_guest_run.specs.inner.Ending.{AreTaken}
use Rattle.cfi_guest_run.proofs.concluded.take_all.Given as goal

-- the passes of the runners so far were taken back
abbrev pub invariant-loop-runner : goal.invariant-loop-runner
invariant-loop-runner g l =
    AreTaken g.N.TableName.key g.N.LoaderName.plan l.fn.loader l.loader l.yielded l.parts.items
