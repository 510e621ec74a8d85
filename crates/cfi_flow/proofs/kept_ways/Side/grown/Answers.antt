use Rattle.std.proofs.Common.{◌≡◌, ◌∙◌, ◌≤◌, ◌++◌, length, sym, subst, vec_len, rules}
use Rattle.cfi_flow.specs.Flow.{AreBelow}
use Rattle.cfi_flow.specs.inner.KeptWays.{Side, IsLongerSide}
use Rattle.cfi_flow.specs.inner.Tagged.{AreSpreadOn}
use Rattle.cfi_flow.proofs.SideLemmas.{below_longer, longer_side}
use Rattle.cfi_flow.proofs.kept_ways.Side.grown.Goals as goal

pub spread_on-requires-clause-all : goal.spread_on-requires-clause-all
spread_on-requires-clause-all c =
    let inside = c.self.inside in
    let count : vec_len c.make_nodes.new.tags ≡ length c.make_nodes.new.tags.items = search rules in
    subst (λ n. AreBelow n c.in_ok-all.all) (sym (count ∙ c.in_ok-make_nodes.ensures.len))
    (below_longer (length inside.tags.items) c.args.nodes inside.arrows c.args.arrows.now c.in_ok-all.all
    c.in_ok-all.ensures (subst (λ s. length s.tags ≤ c.args.nodes) (sym c.self.view_is) c.requires.nodes)
    c.self.invariant.arrows c.requires.arrows)

pub invariant_of-side-2 : goal.invariant_of-side-2
invariant_of-side-2 c =
    let inside = c.self.inside in
    let old : Side = record { arrows = inside.arrows; seeds = inside.seeds; tags = inside.tags.items } in
    let new : Side = record {
      arrows = c.all.inside.links.items;
      seeds = c.in_ok-grown.field-0;
      tags = c.spread_on.new.tags.items;
    } in
    (longer_side old new c.args.nodes c.args.arrows.now c.args.seeds.now c.make_nodes.new.tags.items
    c.in_ok-changes.changes.items c.self.invariant
    (subst (λ s. length s.tags ≤ c.args.nodes) (sym c.self.view_is) c.requires.nodes) c.requires.arrows c.requires.seeds
    (c.all.view_is ∙ c.in_ok-all.ensures) c.in_ok-grown.ensures
    (c.in_ok-changes.ensures.len ∙ c.in_ok-make_nodes.ensures.len) c.in_ok-make_nodes.ensures.same
    (λ before sown is tagged. subst (λ ls. AreSpreadOn ls (sown ++ c.args.seeds.now) c.make_nodes.new.tags.items
    c.spread_on.new.tags.items c.in_ok-changes.changes.items) (sym c.all.view_is)
    (c.in_ok-changes.ensures.ok before sown (sym c.all.view_is ∙ is) tagged))).side

pub returns : goal.returns
returns c =
    let inside = c.self.inside in
    let old : Side = record { arrows = inside.arrows; seeds = inside.seeds; tags = inside.tags.items } in
    let new : Side = record {
      arrows = c.all.inside.links.items;
      seeds = c.in_ok-grown.field-0;
      tags = c.spread_on.new.tags.items;
    } in
    subst (λ s. IsLongerSide s c.args.nodes c.args.arrows.now c.args.seeds.now new c.in_ok-changes.changes.items)
    c.self.view_is
    (longer_side old new c.args.nodes c.args.arrows.now c.args.seeds.now c.make_nodes.new.tags.items
    c.in_ok-changes.changes.items c.self.invariant
    (subst (λ s. length s.tags ≤ c.args.nodes) (sym c.self.view_is) c.requires.nodes) c.requires.arrows c.requires.seeds
    (c.all.view_is ∙ c.in_ok-all.ensures) c.in_ok-grown.ensures
    (c.in_ok-changes.ensures.len ∙ c.in_ok-make_nodes.ensures.len) c.in_ok-make_nodes.ensures.same
    (λ before sown is tagged. subst (λ ls. AreSpreadOn ls (sown ++ c.args.seeds.now) c.make_nodes.new.tags.items
    c.spread_on.new.tags.items c.in_ok-changes.changes.items) (sym c.all.view_is)
    (c.in_ok-changes.ensures.ok before sown (sym c.all.view_is ∙ is) tagged)))
