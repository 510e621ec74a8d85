use Rattle.std.proofs.Common.{◌≡◌, ◌∙◌, ◌+◌, ap, sym, take}
use Rattle.cfi_link.specs.declared.limits.Sizes.{Sizes}
use Rattle.cfi_link.specs.Joined.{Joined, joined_of, with_module}
use Rattle.cfi_link.specs.Fault.{sizes_of}
use Rattle.cfi_link.specs.inner.Capped.{capped_sizes, with_sizes}
use Rattle.cfi_link.proofs.JoinedLemmas.{joined-more}
use Rattle.cfi_link.proofs.LimitLemmas.{sizes-more}
use Rattle.cfi_link.proofs.limits.sizes_of.Goals as goal

pub loop-added-preserved : goal.loop-added-preserved
loop-added-preserved c =
    let modules = c.args.modules.now in
    let i = c.loop-added.added-index in
    let item = c.added-item.result in
    let before = joined_of (take i modules) in
    let more : joined_of (take (i + 1) modules) ≡ with_module before item =
    joined-more modules i item c.loop-added-test.true ∙ ap (with_module before) (sym c.added-item.is) in
    c.with_sizes-sizes.ensures
    ∙ ap (λ (s : Sizes). with_sizes s item) c.loop-added.invariant
    ∙ sizes-more before item
    ∙ ap (λ (j : Joined). capped_sizes (sizes_of j)) (sym more)
