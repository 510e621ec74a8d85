use Rattle.std.proofs.Common.{◌≡◌, length, subst, arith}
use Rattle.cfi_class.specs.inner.Numbering.{MarksUsed}
use Rattle.cfi_class.proofs.EdgeLemmas.{HasFirst}
use Rattle.cfi_class.proofs.SweepLemmas.{one_more_mark}
use Rattle.cfi_class.proofs.sweep.used_slots.Goals as goal

pub loop-edge-preserved : goal.loop-edge-preserved
loop-edge-preserved c =
    one_more_mark c.args.edges.now c.args.slots c.args.code_words c.requires c.loop-edge.edge-index
    c.loop-edge-test.true _ c.loop-edge.invariant

pub returns : goal.returns
returns c =
    let last = c.loop-edge-test.false in
    let all : c.loop-edge.edge-index ≡ length c.args.edges.now = omega arith in
    subst (λ count. MarksUsed (HasFirst c.args.edges.now count) c.args.slots c.loop-edge.used.items) all
    c.loop-edge.invariant
