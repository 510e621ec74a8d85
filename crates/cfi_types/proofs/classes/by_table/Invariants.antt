use Rattle.cfi_types.proofs.Rows.{RowsSoFar}
use Rattle.cfi_types.proofs.classes.by_table.Given as goal

abbrev pub invariant-loop-table : goal.invariant-loop-table
invariant-loop-table l = RowsSoFar l.tables l.numbers l.table-index l.rows.items l.rest
