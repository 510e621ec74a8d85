use Rattle.std.proofs.Common.{◌∙◌, sym, ap, arith}
use Rattle.cfi_types.specs.inner.Extending.{next_after}
use Rattle.cfi_types.proofs.NearLemmas.{rows_many}
use Rattle.cfi_types.proofs.OrderLemmas.{next_more}
use Rattle.cfi_fits.proofs.gathering.gathered.Goals as goal

-- this turn's table is looked at too
pub loop-table-preserved : goal.loop-table-preserved
loop-table-preserved c =
    let classes = c.args.classes.now in
    let table = c.loop-table.table in
    let many = rows_many c.args.book.now classes c.requires in
    let count = c.count-table-end.ensures in (
      c.in_ok-add_table.ensures,
      c.next_after-next.ensures ∙ ap (λ n. next_after n c.row.result.now) c.loop-table.invariant.1
          ∙ ap (next_after _) c.row.ensures
          ∙ sym (next_more classes table (omega (arith, many, count, c.loop-table-test.true))),
    )
