use Rattle.std.proofs.Common.{length, ap, arith}
use Rattle.cfi_graph.proofs.OneMoreLemmas.{count_more}
use Rattle.cfi_graph.proofs.new_edges.node_count_with.Goals as goal

pub node_count-requires : goal.node_count-requires
node_count-requires c =
    let more = count_more c.args.old.now c.args.new.now in
    omega (arith, more, c.requires)

pub overflow_cast-result : goal.overflow_cast-result
overflow_cast-result c =
    let more = count_more c.args.old.now c.args.new.now in
    omega (arith, more, c.requires, ap (λ ns. length ns) c.nodes.ensures)

pub overflow_add-result : goal.overflow_add-result
overflow_add-result c =
    let more = count_more c.args.old.now c.args.new.now in
    omega (arith, more, c.requires, ap (λ ns. length ns) c.nodes.ensures, c.node_count.ensures)

pub returns : goal.returns
returns c =
    let more = count_more c.args.old.now c.args.new.now in
    omega (arith, more, ap (λ ns. length ns) c.nodes.ensures, c.node_count.ensures)
