use Rattle.std.proofs.Common.{◌≡◌, ◌++◌}
use Rattle.cfi_sim.specs.Step.{changes_text}
use Rattle.cfi_sim.proofs.did.put_changes.Given as goal

-- the registers so far
abbrev pub invariant-loop-k : goal.invariant-loop-k
invariant-loop-k l = l.out.items ≡ l.initial.out.items ++ changes_text l.old l.new l.k
