use Rattle.std.proofs.Common.{◌≡◌, map, take}
use Rattle.cfi_link.specs.Chosen.{settled, reach_of}
use Rattle.cfi_link.specs.inner.Kept.{chosen_by}
use Rattle.cfi_link.proofs.reach.reaches_of.Given as goal

abbrev pub invariant-loop-k : goal.invariant-loop-k
invariant-loop-k l =
    l.reaches.items
    ≡ map (reach_of l.symbols (chosen_by l.definitions)) (settled (chosen_by l.definitions) (take l.k l.symbols))
