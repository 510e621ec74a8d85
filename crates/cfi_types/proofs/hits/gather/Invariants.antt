use Rattle.std.proofs.Common.{take}
use Rattle.cfi_types.specs.inner.Hits.{GathersHits}
use Rattle.cfi_types.proofs.hits.gather.Given as goal

abbrev pub invariant-loop-member : goal.invariant-loop-member
invariant-loop-member l =
    GathersHits l.fn.hits l.parents (take l.member-index l.members) l.classes l.class l.hits
