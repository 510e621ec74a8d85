use Rattle.cfi_types.specs.inner.Parents.{AddsNames}
use Rattle.cfi_types.proofs.parents.add_names.Given as goal

abbrev pub invariant-loop-place : goal.invariant-loop-place
invariant-loop-place l = AddsNames l.fn.parents l.named l.number l.place l.parents
