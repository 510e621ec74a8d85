use Rattle.std.proofs.Common.{take}
use Rattle.cfi_flow.specs.Rows.{AreRows}
use Rattle.cfi_flow.proofs.rows.rows_of.Given as goal

abbrev pub invariant-loop-link : goal.invariant-loop-link
invariant-loop-link l = AreRows l.count (take l.link-index l.links) l.rows
