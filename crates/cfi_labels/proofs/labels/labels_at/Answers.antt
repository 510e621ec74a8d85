use Rattle.std.proofs.Common.{◌∙◌, sym, subst}
use Rattle.cfi_policy.specs.Image.{HaveImage}
use Rattle.cfi_labels.proofs.ClassLemmas.{live_allow}
use Rattle.cfi_labels.proofs.labels.labels_at.Goals as goal

-- the labels of the live modules are those of the policy
pub returns : goal.returns
returns c =
    let live = c.deref.result.now in
    let items = c.deref.ensures.value in
    live_allow c.args.roster.now c.args.policy c.args.layout.now live (items ∙ c.in_ok-live.ensures.is)
    (subst (HaveImage live) (sym c.requires)
    (subst (λ ms. HaveImage ms c.args.roster.now.code_words) (sym items) c.in_ok-live.ensures.image))
    c.in_ok-tary.field-0 c.in_ok-tary.ensures.image
