use Rattle.std.proofs.Common.{arith}
use Rattle.std.proofs.lemmas.Result.{err_from_is_err_and}
use Rattle.std.proofs.lemmas.List.{length_push}
use Rattle.cfi_type_table.specs.Reading.{nodes_at}
use Rattle.cfi_type_table.proofs.Nodes.{nodes_go_on, nodes_end, nodes_done}
use Rattle.cfi_type_table.proofs.reading.table_nodes.Goals as goal

pub returns-in_err-node-clause-read : goal.returns-in_err-node-clause-read
returns-in_err-node-clause-read c =
    let p = err_from_is_err_and c.from_residual-in_err-node.result c.from_residual-in_err-node.ensures.1 in
    rw (p.1, p.2)
    (nodes_end c.in_err-node.field-0.0 c.args.count c.loop-number.number c.loop-number.nodes.items
    c.loop-number.rest.now (nodes_at 0 c.args.count c.args.bytes.now) c.loop-number-test.true c.in_err-node.ensures
    c.loop-number.invariant.read)

pub loop-number-preserved : goal.loop-number-preserved
loop-number-preserved c = record {
  len = rw c.in_ok-push.ensures.items
      (omega (arith, length_push c.loop-number.nodes.items c.in_ok-node.node, c.loop-number.invariant.len));
  read = rw c.in_ok-push.ensures.items
      (nodes_go_on c.args.count c.loop-number.number c.loop-number.nodes.items c.loop-number.rest.now c.in_ok-node.node
      c.in_ok-node.after.now (nodes_at 0 c.args.count c.args.bytes.now) c.loop-number-test.true c.in_ok-node.ensures
      c.loop-number.invariant.read);
}

pub returns-clause-read : goal.returns-clause-read
returns-clause-read c =
    nodes_done c.args.count c.loop-number.number c.loop-number.nodes.items c.loop-number.rest.now
    (nodes_at 0 c.args.count c.args.bytes.now) c.loop-number-test.false c.loop-number.invariant.read
