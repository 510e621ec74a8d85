use Rattle.std.proofs.Common.{◌≡◌, ◌+◌, ◌≤◌, length, take, ap, ◌∙◌, arith, rules, vec_len}
use Rattle.cfi_types.proofs.Places.{flat, length_joined, join_step, flat_take_fits}
use Rattle.cfi_types.proofs.graph.join.Goals as goal

pub add_table-requires-clause-fits : goal.add_table-requires-clause-fits
add_table-requires-clause-fits c =
    let xs = c.table-item.result in
    let i = c.loop-table.table-index in
    let whole : length (flat (take i c.args.tables.now)) + length xs ≤ length (flat c.args.tables.now) =
    flat_take_fits c.args.tables.now i xs c.loop-table-test.true c.table-item.is in
    let so_far : length c.loop-table.nodes.items ≡ length (flat (take i c.args.tables.now)) =
    ap length c.loop-table.invariant ∙ length_joined 0 (take i c.args.tables.now) in
    let here : length c.nodes.result.now ≡ length xs = ap length c.nodes.ensures in
    let len : vec_len c.loop-table.nodes ≡ length c.loop-table.nodes.items = search rules in
    omega (arith, whole, so_far, here, len, c.requires.fits)

pub loop-table-preserved : goal.loop-table-preserved
loop-table-preserved c =
    let len : vec_len c.loop-table.nodes ≡ length c.loop-table.nodes.items = search rules in
    c.in_ok-add_table.ensures
    ∙ join_step c.args.tables.now c.loop-table.table-index c.table-item.result c.nodes.result.now
    c.loop-table.nodes.items (vec_len c.loop-table.nodes) c.loop-table-test.true c.table-item.is c.nodes.ensures
    c.loop-table.invariant len
