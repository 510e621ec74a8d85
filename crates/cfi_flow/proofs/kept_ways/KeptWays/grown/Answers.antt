use Rattle.std.proofs.Common.{◌≡◌, ◌∙◌, ◌++◌, map, ap, sym, subst}
use Rattle.cfi_flow.specs.Flow.{flipped, AreBelow}
use Rattle.cfi_flow.specs.inner.KeptWays.{Ways, AddsLongerWays}
use Rattle.cfi_flow.proofs.RowWayLemmas.{flipped_below}
use Rattle.cfi_flow.proofs.SideLemmas.{behind_among, kept_longer, longer_ways}
use Rattle.cfi_flow.proofs.kept_ways.KeptWays.grown.Goals as goal

pub grown-requires-2-clause-arrows : goal.grown-requires-2-clause-arrows
grown-requires-2-clause-arrows c =
    let is : c.as_slice.result.now ≡ map flipped c.args.arrows.now =
    c.as_slice.ensures.value ∙ c.in_ok-turned.ensures in
    subst (λ ls. AreBelow c.args.nodes ls) (sym is) (flipped_below c.args.nodes c.args.arrows.now c.requires.arrows)

pub add_touched-requires-clause-arrows : goal.add_touched-requires-clause-arrows
add_touched-requires-clause-arrows c =
    behind_among c.self.inside.forth.arrows c.args.arrows.now c.in_ok-forth.forth.arrows c.in_ok-forth.ensures.arrows_are

pub add_touched-requires-clause-sites : goal.add_touched-requires-clause-sites
add_touched-requires-clause-sites c =
    behind_among c.self.inside.forth.seeds c.args.sites.now c.in_ok-forth.forth.seeds c.in_ok-forth.ensures.seeds_are

pub add_touched-requires-clause-returns : goal.add_touched-requires-clause-returns
add_touched-requires-clause-returns c =
    behind_among c.self.inside.back.seeds c.args.returns.now c.in_ok-back.back.seeds c.in_ok-back.ensures.seeds_are

pub returns-clause-ways : goal.returns-clause-ways
returns-clause-ways c =
    let inside = c.self.inside in
    let old : Ways = record { forth = inside.forth; back = inside.back } in
    let new : Ways = record { forth = c.in_ok-forth.forth; back = c.in_ok-back.back } in
    let arrows = c.args.arrows.now in
    let sites = c.args.sites.now in
    let returns = c.args.returns.now in
    let turned = c.as_slice.result.now in
    let is : turned ≡ map flipped arrows = c.as_slice.ensures.value ∙ c.in_ok-turned.ensures in
    let forth_changes = c.in_ok-forth.changes.items in
    let back_changes = c.in_ok-back.others.items in
    let changes = c.as_slice-3.result.now in
    let all : changes ≡ forth_changes ++ back_changes =
    c.as_slice-3.ensures.value ∙ c.in_ok-extend_from_slice.ensures.items
    ∙ ap (λ ls. forth_changes ++ ls) c.as_slice-2.ensures.value in
    let kept = kept_longer old new c.args.nodes arrows sites returns turned forth_changes back_changes c.self.invariant
    c.in_ok-forth.ensures c.in_ok-back.ensures is in
    subst (λ w. AddsLongerWays w arrows sites returns new c.args.edges.now.items c.add_touched.new.edges.items)
    c.self.view_is
    (longer_ways old new c.args.nodes arrows sites returns turned forth_changes back_changes changes
    c.args.edges.now.items c.add_touched.new.edges.items c.self.invariant kept c.in_ok-forth.ensures c.in_ok-back.ensures all
    c.in_ok-add_touched.ensures)
