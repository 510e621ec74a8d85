use Rattle.std.proofs.Common.{◌≡◌, ◌-◌, ◌++◌, replicate, ap, subst, ◌∙◌, slice_set, arith}
use Rattle.cfi_model.specs.declared.quiet.Quiet.TheVariants.{Published, Unregistered}
use Rattle.cfi_world.proofs.OpenLemmas.{next_registered}
use Rattle.cfi_world.proofs.world.registered.Goals as goal

-- one more is registered
pub loop-k-preserved : goal.loop-k-preserved
loop-k-preserved c =
    ap (λ qs. slice_set qs c.loop-k.k (Published c.args.epoch)) c.loop-k.invariant
    ∙ next_registered c.args.epoch c.loop-k.k (omega (arith, c.loop-k-test.true, c.requires))

pub returns : goal.returns
returns c =
    let k : c.loop-k.k ≡ c.args.count = omega (arith, c.loop-k-test.false, c.loop-k.auto.k-end) in
    subst (λ n. c.loop-k.quiets ≡ replicate n (Published c.args.epoch) ++ replicate (16 - n) Unregistered) k
    c.loop-k.invariant
