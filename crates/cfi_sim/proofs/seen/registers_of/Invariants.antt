use Rattle.std.proofs.Common.{◌≡◌}
use Rattle.cfi_sim.specs.Step.{first_registers}
use Rattle.cfi_sim.proofs.seen.registers_of.Given as goal

-- the registers so far
abbrev pub invariant-loop-k : goal.invariant-loop-k
invariant-loop-k l = l.registers.items ≡ first_registers l.guest l.k
