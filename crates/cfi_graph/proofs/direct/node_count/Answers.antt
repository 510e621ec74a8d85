use Rattle.std.proofs.Common.{length, ap, arith}
use Rattle.cfi_graph.proofs.ClassLemmas.{count_least}
use Rattle.cfi_graph.proofs.direct.node_count.Goals as goal

pub overflow_cast-count : goal.overflow_cast-count
overflow_cast-count c =
    let item = c.placed-item.result in
    let least = count_least c.args.modules.now c.loop-placed.placed-index item c.loop-placed-test.true in
    omega (arith, least, ap (λ m. length m.types) c.placed-item.is, ap (λ ns. length ns) c.nodes.ensures, c.requires)

pub overflow_add-count : goal.overflow_add-count
overflow_add-count c =
    let item = c.placed-item.result in
    let least = count_least c.args.modules.now c.loop-placed.placed-index item c.loop-placed-test.true in
    omega (arith, least, ap (λ m. length m.types) c.placed-item.is, ap (λ ns. length ns) c.nodes.ensures, c.requires)
