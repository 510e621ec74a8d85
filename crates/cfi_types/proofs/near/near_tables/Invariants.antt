use Rattle.cfi_types.specs.inner.Depth.{digests_to}
use Rattle.cfi_types.specs.declared.near.TheConstants.{DEPTH}
use Rattle.cfi_types.proofs.NearLemmas.{NearSoFar}
use Rattle.cfi_types.proofs.near.near_tables.Given as goal

abbrev pub invariant-loop-number : goal.invariant-loop-number
invariant-loop-number l =
    NearSoFar l.tables l.kept (digests_to DEPTH l.table) l.number l.near.numbers.items l.near.tables.items l.near.next
