use Rattle.std.proofs.Common.{◌≡◌, ◌∙◌, map, ap, subst}
use Rattle.cfi_flow.specs.Flow.{flipped}
use Rattle.cfi_flow.specs.inner.KeptWays.{AreTouched}
use Rattle.cfi_flow.proofs.SideLemmas.{both_touched}
use Rattle.cfi_flow.proofs.kept_ways.touched_arrows.Goals as goal

pub returns : goal.returns
returns c =
    let forth = c.args.forth.now in
    let back = c.args.back.now in
    let arrows = c.args.arrows.now in
    let changes = c.args.changes.now in
    let begins = c.in_ok-list.list.items in
    let ends = c.in_ok-ends.ends.items in
    let turned : c.as_slice-2.result.now ≡ map flipped ends =
    c.as_slice-2.ensures.value ∙ c.in_ok-turned.ensures ∙ ap (λ ls. map flipped ls) c.as_slice.ensures.value in
    both_touched forth back arrows changes begins ends c.as_slice-2.result.now c.extend_from_slice.new.self.items
    (subst (λ ls. AreTouched forth ls changes begins) c.in_ok-from_slice.ensures.items c.in_ok-list.ensures)
    (subst (λ ls. AreTouched back ls changes ends) c.new.ensures.items c.in_ok-ends.ensures) turned
    c.in_ok-extend_from_slice.ensures.items
