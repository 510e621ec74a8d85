use Rattle.std.proofs.Common.{◌≡◌, length, subst, arith}
use Rattle.cfi_class.specs.inner.Linked.{IsForestOf}
use Rattle.cfi_class.proofs.EdgeLemmas.{HasFirst, edge_at-within}
use Rattle.cfi_class.proofs.SweepLemmas.{no_edges, one_more_edge}
use Rattle.cfi_class.proofs.sweep.forest_of.Goals as goal

pub loop-edge-init : goal.loop-edge-init
loop-edge-init c =
    no_edges c.args.edges.now c.args.slots c.args.code_words _ c.in_ok-forest.ensures.forest
    c.in_ok-forest.ensures.len c.in_ok-forest.ensures.roots

pub loop-edge-preserved : goal.loop-edge-preserved
loop-edge-preserved c =
    one_more_edge c.args.edges.now c.args.slots c.args.code_words c.requires.within c.loop-edge.edge-index
    c.loop-edge-test.true _ _ c.loop-edge.invariant c.join.ensures.forest c.join.ensures.len c.join.ensures.roots

pub join-requires-clause-one : goal.join-requires-clause-one
join-requires-clause-one c =
    let within = edge_at-within c.args.edges.now c.args.slots c.args.code_words c.requires.within
    c.loop-edge.edge-index c.loop-edge-test.true in
    omega (arith, within.branch, c.loop-edge.invariant.len)

pub join-requires-clause-other : goal.join-requires-clause-other
join-requires-clause-other c =
    let within = edge_at-within c.args.edges.now c.args.slots c.args.code_words c.requires.within
    c.loop-edge.edge-index c.loop-edge-test.true in
    omega (arith, within.target, c.loop-edge.invariant.len)

pub returns : goal.returns
returns c =
    let last = c.loop-edge-test.false in
    let all : c.loop-edge.edge-index ≡ length c.args.edges.now = omega arith in
    subst (λ count. IsForestOf (HasFirst c.args.edges.now count) c.args.slots c.args.code_words c.loop-edge.forest) all
    c.loop-edge.invariant
