use Rattle.std.proofs.Common.{◌≡◌, ◌+◌, ◌-◌, length, drop}
use Rattle.cfi_world.specs.Updates.{agreeing}
use Rattle.cfi_world.proofs.stores.parting.Given as goal

abbrev pub invariant-loop-at : goal.invariant-loop-at
invariant-loop-at l =
    l.at + agreeing (drop l.at l.old) (drop l.at l.new) ≡ l.from + agreeing (drop l.from l.old) (drop l.from l.new)

abbrev pub decreases-loop-at : goal.decreases-loop-at
decreases-loop-at l = length l.old - l.at
