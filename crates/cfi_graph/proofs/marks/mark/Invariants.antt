use Rattle.std.proofs.Common.{◌≡◌, ◌<◌, drop}
use Rattle.cfi_graph.specs.declared.marks.TheConstants.{MARKS}
use Rattle.cfi_graph.specs.inner.Marks.{mark_of, mark_after}
use Rattle.cfi_graph.proofs.marks.mark.Given as goal

abbrev pub invariant-loop-byte : goal.invariant-loop-byte
invariant-loop-byte l = (mark_of l.name ≡ mark_after l.mark (drop l.byte-index l.byte-items)) × (l.mark < MARKS)
