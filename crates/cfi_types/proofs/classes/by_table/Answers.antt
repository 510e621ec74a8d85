use Rattle.std.proofs.Common.{◌≡◌, ◌+◌, ◌≤◌, length, ap, sym, ◌∙◌, subst, arith}
use Rattle.cfi_types.proofs.Rows.{RowsSoFar, no_rows, enough, one_row_more, all_rows}
use Rattle.cfi_types.proofs.classes.by_table.Goals as goal

pub loop-table-init : goal.loop-table-init
loop-table-init c = no_rows c.args.tables.now c.args.numbers.now c.in_ok-rows.rows.items c.in_ok-rows.ensures.items

pub split_at-requires : goal.split_at-requires
split_at-requires c =
    let fits : length c.table-item.result ≤ length c.loop-table.rest.now =
    enough c.args.tables.now c.args.numbers.now c.loop-table.table-index c.loop-table.rows.items c.loop-table.rest.now
    c.loop-table.invariant c.requires c.table-item.result c.loop-table-test.true c.table-item.is in
    omega (arith, fits, ap length c.nodes.ensures)

pub loop-table-preserved : goal.loop-table-preserved
loop-table-preserved c =
    let n = length c.nodes.result.now in
    let count : n ≡ length c.table-item.result = ap length c.nodes.ensures in
    subst (RowsSoFar c.args.tables.now c.args.numbers.now (c.loop-table.table-index + 1) c.push.new.self.items)
    (sym c.split_at.ensures.back)
    (one_row_more c.args.tables.now c.args.numbers.now c.loop-table.table-index c.loop-table.rows.items
    c.loop-table.rest.now c.loop-table.invariant c.requires c.table-item.result c.loop-table-test.true c.table-item.is
    c.in_ok-from_slice.field-0 c.push.new.self.items n count (c.in_ok-from_slice.ensures.items
    ∙ c.split_at.ensures.front) c.in_ok-push.ensures.items)

pub returns-clause-numbers : goal.returns-clause-numbers
returns-clause-numbers c =
    (all_rows c.args.tables.now c.args.numbers.now c.loop-table.table-index c.loop-table.rows.items
    c.loop-table.rest.now c.loop-table.invariant c.requires c.loop-table-test.false).0

pub returns-clause-shape : goal.returns-clause-shape
returns-clause-shape c =
    (all_rows c.args.tables.now c.args.numbers.now c.loop-table.table-index c.loop-table.rows.items
    c.loop-table.rest.now c.loop-table.invariant c.requires c.loop-table-test.false).1
