use Rattle.std.proofs.Common.{◌≡◌, ℕ, List, ◌∙◌, ap, length, map, arith, rules}
use Rattle.std.specs.Prelude.{replicate}
use Rattle.cfi_types.specs.inner.Depth.{digests_to}
use Rattle.cfi_types.specs.inner.Digest.{digest_of}
use Rattle.cfi_types.specs.inner.Splitting.{signature}
use Rattle.cfi_types.specs.declared.near.TheConstants.{DEPTH}
use Rattle.cfi_types.proofs.DepthLemmas.{length-digests, no-digests, deeper-digests}
use Rattle.cfi_types.proofs.near.digests.Goals as goal

pub loop-init : goal.loop-init
loop-init c =
    c.in_ok-digests.ensures.items_if_clones_equal (search rules)
    ∙ ap (λ (n : ℕ). replicate n 0) (ap length c.nodes.ensures)
    ∙ no-digests c.args.table.now

pub deeper-requires-clause-len : goal.deeper-requires-clause-len
deeper-requires-clause-len c =
    ap length c.as_slice.ensures.value ∙ ap length c.loop.invariant ∙ length-digests c.loop.counter c.args.table.now

pub loop-preserved : goal.loop-preserved
loop-preserved c =
    c.in_ok-digests-2.ensures
    ∙ ap (λ (ds : List ℕ). map (λ x. digest_of (signature ds x)) c.args.table.now)
    (c.as_slice.ensures.value ∙ c.loop.invariant)
    ∙ deeper-digests c.loop.counter c.args.table.now

pub returns : goal.returns
returns c =
    let all : c.loop.counter ≡ DEPTH = omega (arith, c.loop-test.false, c.loop.auto.counter-end) in
    c.loop.invariant ∙ ap (λ (n : ℕ). digests_to n c.args.table.now) all
