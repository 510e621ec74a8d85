use Rattle.std.proofs.Common.{◌≡◌, ◌∙◌, length, ap, sym, subst}
use Rattle.cfi_flow.specs.Flow.{AreBelow, BeginBelow}
use Rattle.cfi_flow.specs.inner.KeptWays.{AreTouched, AreTouchedArrows}
use Rattle.cfi_flow.proofs.SideLemmas.{touched_begin, arrows_below}
use Rattle.cfi_flow.proofs.kept_ways.add_touched.Goals as goal

pub add_tied-requires-clause-returns : goal.add_tied-requires-clause-returns
add_tied-requires-clause-returns c =
    let forth = c.args.forth.now in
    let back = c.args.back.now in
    let list = c.in_ok-returns.returns.items in
    let by : AreTouched back.seeds c.args.returns.now c.args.changes.now list =
    subst (λ ls. AreTouched back.seeds ls c.args.changes.now list) c.in_ok-from_slice-2.ensures.items
    (subst (λ s. AreTouched s.seeds c.in_ok-from_slice-2.field-0.items c.args.changes.now list) c.back.view_is
    c.in_ok-returns.ensures) in
    let len : length back.tags ≡ length c.as_slice-4.result.now =
    c.requires.kept.same ∙ sym (ap length c.as_slice-4.ensures.value ∙ ap (λ s. length s.tags) c.forth.view_is) in
    subst (λ ls. BeginBelow (length c.as_slice-4.result.now) ls) (sym c.as_slice-3.ensures.value)
    (subst (λ n. BeginBelow n list) len
    (touched_begin (length back.tags) back.seeds c.args.returns.now c.args.changes.now list by c.requires.returns
    c.requires.kept.back.seeds))

pub add_tied-requires-clause-sites : goal.add_tied-requires-clause-sites
add_tied-requires-clause-sites c =
    let forth = c.args.forth.now in
    let list = c.in_ok-sites.sites.items in
    let by : AreTouched forth.seeds c.args.sites.now c.args.changes.now list =
    subst (λ ls. AreTouched forth.seeds ls c.args.changes.now list) c.in_ok-from_slice.ensures.items
    (subst (λ s. AreTouched s.seeds c.in_ok-from_slice.field-0.items c.args.changes.now list) c.forth.view_is
    c.in_ok-sites.ensures) in
    let len : length forth.tags ≡ length c.as_slice-4.result.now =
    sym (ap length c.as_slice-4.ensures.value ∙ ap (λ s. length s.tags) c.forth.view_is) in
    subst (λ ls. BeginBelow (length c.as_slice-4.result.now) ls) (sym c.as_slice-2.ensures.value)
    (subst (λ n. BeginBelow n list) len
    (touched_begin (length forth.tags) forth.seeds c.args.sites.now c.args.changes.now list by c.requires.sites
    c.requires.kept.forth.seeds))

pub add_tied-requires-clause-site_slots : goal.add_tied-requires-clause-site_slots
add_tied-requires-clause-site_slots c =
    let forth = c.args.forth.now in
    let list = c.in_ok-sites.sites.items in
    let by : AreTouched forth.seeds c.args.sites.now c.args.changes.now list =
    subst (λ ls. AreTouched forth.seeds ls c.args.changes.now list) c.in_ok-from_slice.ensures.items
    (subst (λ s. AreTouched s.seeds c.in_ok-from_slice.field-0.items c.args.changes.now list) c.forth.view_is
    c.in_ok-sites.ensures) in
    let len : length forth.tags ≡ length c.as_slice-5.result.now =
    sym (ap length c.as_slice-5.ensures.value ∙ ap (λ s. length s.tags) c.back.view_is ∙ c.requires.kept.same) in
    subst (λ ls. BeginBelow (length c.as_slice-5.result.now) ls) (sym c.as_slice-2.ensures.value)
    (subst (λ n. BeginBelow n list) len
    (touched_begin (length forth.tags) forth.seeds c.args.sites.now c.args.changes.now list by c.requires.sites
    c.requires.kept.forth.seeds))

pub add_tied-requires-clause-arrows : goal.add_tied-requires-clause-arrows
add_tied-requires-clause-arrows c =
    let forth = c.args.forth.now in
    let back = c.args.back.now in
    let list = c.in_ok-arrows.arrows.items in
    let by : AreTouchedArrows forth.arrows back.arrows c.args.arrows.now c.args.changes.now list =
    subst (λ s. AreTouchedArrows forth.arrows s.arrows c.args.arrows.now c.args.changes.now list) c.back.view_is
    (subst (λ s. AreTouchedArrows s.arrows c.back.inside.arrows c.args.arrows.now c.args.changes.now list)
    c.forth.view_is c.in_ok-arrows.ensures) in
    let len : length forth.tags ≡ length c.as_slice-4.result.now =
    sym (ap length c.as_slice-4.ensures.value ∙ ap (λ s. length s.tags) c.forth.view_is) in
    subst (λ ls. AreBelow (length c.as_slice-4.result.now) ls) (sym c.as_slice.ensures.value)
    (subst (λ n. AreBelow n list) len
    (arrows_below (length forth.tags) forth.arrows back.arrows c.args.arrows.now c.args.changes.now list by
    c.requires.arrows c.requires.kept.flipped c.requires.kept.forth.arrows))

pub add_tied-requires-clause-arrow_slots : goal.add_tied-requires-clause-arrow_slots
add_tied-requires-clause-arrow_slots c =
    let forth = c.args.forth.now in
    let back = c.args.back.now in
    let list = c.in_ok-arrows.arrows.items in
    let by : AreTouchedArrows forth.arrows back.arrows c.args.arrows.now c.args.changes.now list =
    subst (λ s. AreTouchedArrows forth.arrows s.arrows c.args.arrows.now c.args.changes.now list) c.back.view_is
    (subst (λ s. AreTouchedArrows s.arrows c.back.inside.arrows c.args.arrows.now c.args.changes.now list)
    c.forth.view_is c.in_ok-arrows.ensures) in
    let len : length forth.tags ≡ length c.as_slice-5.result.now =
    sym (ap length c.as_slice-5.ensures.value ∙ ap (λ s. length s.tags) c.back.view_is ∙ c.requires.kept.same) in
    subst (λ ls. AreBelow (length c.as_slice-5.result.now) ls) (sym c.as_slice.ensures.value)
    (subst (λ n. AreBelow n list) len
    (arrows_below (length forth.tags) forth.arrows back.arrows c.args.arrows.now c.args.changes.now list by
    c.requires.arrows c.requires.kept.flipped c.requires.kept.forth.arrows))
