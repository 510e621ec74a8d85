use Rattle.std.proofs.Common.{◌∙◌, ◌++◌, sym, ap, subst}
use Rattle.cfi_flow.specs.Fans.{pairs_of}
use Rattle.cfi_flow.specs.inner.Others.{AddsOthers}
use Rattle.cfi_flow.proofs.OtherLemmas.{others_are, pairs_is, adds_others}
use Rattle.cfi_flow.proofs.fresh.add_others.Goals as goal

pub returns : goal.returns
returns c =
    let old = c.args.edges.now.items in
    let fan = c.args.fan.now in
    let known = c.args.known.now in
    let slots = c.in_ok-slots.slots.items in
    let targets = c.in_ok-targets.targets.items in
    let all_slots = c.as_slice-all_slots.ensures.value in
    let all_targets = c.as_slice-all_targets.ensures.value in
    let one = c.in_ok-add_pairs.ensures
    ∙ ap (λ ps. old ++ ps) (pairs_is _ slots _ fan.targets.items c.as_slice-3.ensures.value all_targets) in
    let two = c.in_ok-add_pairs-2.ensures
    ∙ ap (λ ps. c.add_pairs.new.edges.items ++ ps) (pairs_is _ fan.slots.items _ targets all_slots c.as_slice-4.ensures.value)
    ∙ ap (λ es. es ++ pairs_of fan.slots.items targets) one in
    subst (λ es. AddsOthers old fan known es) (sym two)
    (adds_others old fan known slots targets
    (others_are _ fan.slots.items _ known.slots.items slots all_slots c.as_slice.ensures.value c.in_ok-slots.ensures)
    (others_are _ fan.targets.items _ known.targets.items targets all_targets c.as_slice-2.ensures.value
    c.in_ok-targets.ensures))
