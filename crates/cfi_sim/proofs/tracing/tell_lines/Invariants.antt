use Rattle.cfi_sim.specs.inner.Tracing.{TracesTo}
use Rattle.cfi_sim.proofs.tracing.tell_lines.Given as goal

-- the lines so far are told
abbrev pub invariant-loop-number : goal.invariant-loop-number
invariant-loop-number l =
    TracesTo l.schedule l.number-iterator l.fn.standing l.fn.out.items l.standing l.out.items
