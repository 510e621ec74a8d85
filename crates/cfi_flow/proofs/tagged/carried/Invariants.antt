use Rattle.std.proofs.Common.{◌≡◌, take}
use Rattle.std.specs.List.{flat_map}
use Rattle.cfi_flow.specs.inner.Tagged.{carried_by}
use Rattle.cfi_flow.proofs.tagged.carried.Given as goal

abbrev pub invariant-loop-link : goal.invariant-loop-link
invariant-loop-link l = l.seeds.items ≡ flat_map (carried_by l.tags) (take l.link-index l.arrows)
