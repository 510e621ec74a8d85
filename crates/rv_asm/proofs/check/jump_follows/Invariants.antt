use Rattle.std.proofs.Common.{◌≡◌, length}
use Rattle.rv_asm.specs.inner.Fault.{jump_follows}
use Rattle.rv_asm.proofs.check.jump_follows.Given as goal

-- the lines that are left say what all say
abbrev pub invariant-loop-rows : goal.invariant-loop-rows
invariant-loop-rows l = jump_follows l.rows ≡ jump_follows l.fn.rows

abbrev pub decreases-loop-rows : goal.decreases-loop-rows
decreases-loop-rows l = length l.rows
