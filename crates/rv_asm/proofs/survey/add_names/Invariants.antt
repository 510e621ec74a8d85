use Rattle.std.proofs.Common.{◌≡◌, ◌+◌, ◌<◌, ◌^◌, length}
use Rattle.rv_names.specs.Names.{with_names}
use Rattle.rv_asm.proofs.survey.add_names.Given as goal

-- the names that are left lead to what all lead to, and there is room for them
abbrev pub invariant-loop-added : goal.invariant-loop-added
invariant-loop-added l =
    (with_names l.names l.added ≡ with_names l.fn.names l.fn.added) × (length l.names + length l.added < 2 ^ 32)

abbrev pub decreases-loop-added : goal.decreases-loop-added
decreases-loop-added l = length l.added
