use Rattle.std.proofs.Common.{◌≡◌, ◌∙◌, length, get_or, ap, subst, inl, inr, arith}
use Rattle.std.proofs.lemmas.Bool.{cases_lt}
use Rattle.std.proofs.lemmas.List.{get_or_default}
use Rattle.cfi_graph.specs.inner.Imports.{imports_in}
use Rattle.cfi_graph.proofs.MetLemmas.{IsUnmet, none_met}
use Rattle.cfi_graph.proofs.more.some_meets_own.Goals as goal

pub loop-kind-init : goal.loop-kind-init
loop-kind-init c = λ k d low. absurd (omega (arith, low))

-- this turn's branch imports no such name
pub loop-kind-preserved : goal.loop-kind-preserved
loop-kind-preserved c = λ k d low.
    let items = c.as_slice-kind-items.result.now in
    let i = c.loop-kind.kind-index in
    let before = imports_in c.args.before.now in
    let own = imports_in c.args.own.now in
    elim (cases_lt k i) [
      | inl less ↦ c.loop-kind.invariant k d less
      | inr last ↦
          let at : i ≡ k = omega (arith, low, last) in
          let is : c.kind-item.result ≡ get_or items k d =
          c.kind-item.is ∙ get_or_default items i _ d c.loop-kind-test.true ∙ ap (λ n. get_or items n d) at in
          subst (IsUnmet before own) is (c.meets_own.ensures c.if-meets_own.false)
    ]

pub returns : goal.returns
returns c = λ is.
    let items = c.as_slice-kind-items.result.now in
    let same = c.as_slice-kind-items.ensures in
    let all : c.loop-kind.kind-index ≡ length items = omega arith in
    none_met (imports_in c.args.before.now) (imports_in c.args.own.now) c.args.placed.now
    (λ k d within.
    subst (λ bs. IsUnmet (imports_in c.args.before.now) (imports_in c.args.own.now) (get_or bs k d)) same
    (c.loop-kind.invariant k d (omega (arith, within, all, ap (λ bs. length bs) same))))
