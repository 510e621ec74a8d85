use Rattle.std.proofs.Common.{arith}
use Rattle.cfi_flow.proofs.RowLemmas.{make_link}
use Rattle.cfi_graph.proofs.direct.type_links.Goals as goal

pub overflow_add-from : goal.overflow_add-from
overflow_add-from c =
    let below = c.requires c.loop-link.link-index (make_link 0 0) c.loop-link-test.true in
    omega (arith, below.0)

pub overflow_add-to : goal.overflow_add-to
overflow_add-to c =
    let below = c.requires c.loop-link.link-index (make_link 0 0) c.loop-link-test.true in
    omega (arith, below.1)
