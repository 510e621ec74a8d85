use Rattle.cfi_policy.specs.inner.Idle.{AddsIdle}
use Rattle.cfi_policy.proofs.idle.add_idle.Given as goal

abbrev pub invariant-loop-number : goal.invariant-loop-number
invariant-loop-number l = AddsIdle l.placed.slot_base l.number l.bary l.fn.idle.items l.idle.items
