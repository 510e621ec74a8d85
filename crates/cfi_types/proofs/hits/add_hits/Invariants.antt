use Rattle.std.proofs.Common.{take}
use Rattle.cfi_types.specs.inner.Hits.{AddsHits}
use Rattle.cfi_types.proofs.hits.add_hits.Given as goal

abbrev pub invariant-loop-name : goal.invariant-loop-name
invariant-loop-name l = AddsHits l.fn.hits (take l.name-index l.names) l.hits
