use Rattle.std.proofs.Common.{◌≡◌, ◌∙◌, ◌++◌, map, refl, ap, subst}
use Rattle.cfi_flow.specs.Fans.{link_edge}
use Rattle.cfi_flow.specs.Kept.{IsExtended}
use Rattle.cfi_flow.specs.inner.KeptWays.{kept_of}
use Rattle.cfi_flow.proofs.KeptFlowLemmas.{flow_longer, edges_longer}
use Rattle.cfi_flow.proofs.kept.KeptFlow.grown.Goals as goal

pub invariant_of-result : goal.invariant_of-result
invariant_of-result c =
    let inside = c.self.inside in
    let more = c.args.more.now in
    let all = c.extend_from_slice.new.self.items in
    let edges = c.grown-2.new.edges.items in
    let all_is : all ≡ inside.listed.items ++ more.listed.items =
    c.in_ok-extend_from_slice.ensures.items ∙ ap (λ ls. inside.listed.items ++ ls) c.deref-8.ensures.value in
    let first_is : c.add_listed.new.edges.items ≡ inside.edges.items ++ map link_edge more.listed.items =
    c.in_ok-add_listed.ensures ∙ ap (λ ls. inside.edges.items ++ map link_edge ls) c.deref.ensures.value in
    (flow_longer inside.nodes inside.pointing inside.returning inside.listed.items inside.edges.items c.self.invariant
    more.nodes c.in_ok-pointing.pointing c.in_ok-returning.returning c.add_listed.new.edges.items c.grown.new.edges.items
    edges c.deref-2.result.now c.deref-3.result.now c.deref-4.result.now c.deref-5.result.now c.deref-6.result.now
    c.deref-7.result.now more.listed.items all c.in_ok-pointing.ensures.kept c.in_ok-returning.ensures.kept
    c.in_ok-pointing.ensures.nodes c.in_ok-returning.ensures.nodes all_is first_is c.in_ok-pointing.ensures.ways
    c.in_ok-returning.ensures.ways)

pub returns : goal.returns
returns c =
    let inside = c.self.inside in
    let more = c.args.more.now in
    let all = c.extend_from_slice.new.self.items in
    let edges = c.grown-2.new.edges.items in
    let returning = c.in_ok-returning.returning in
    let all_is : all ≡ inside.listed.items ++ more.listed.items =
    c.in_ok-extend_from_slice.ensures.items ∙ ap (λ ls. inside.listed.items ++ ls) c.deref-8.ensures.value in
    let first_is : c.add_listed.new.edges.items ≡ inside.edges.items ++ map link_edge more.listed.items =
    c.in_ok-add_listed.ensures ∙ ap (λ ls. inside.edges.items ++ map link_edge ls) c.deref.ensures.value in
    let added = edges_longer inside.nodes inside.pointing inside.returning inside.listed.items inside.edges.items
    c.self.invariant more.nodes c.in_ok-pointing.pointing returning c.add_listed.new.edges.items c.grown.new.edges.items
    edges c.deref-2.result.now c.deref-3.result.now c.deref-4.result.now c.deref-5.result.now c.deref-6.result.now
    c.deref-7.result.now more.listed.items all c.in_ok-pointing.ensures.kept c.in_ok-returning.ensures.kept
    c.in_ok-pointing.ensures.nodes c.in_ok-returning.ensures.nodes all_is first_is c.in_ok-pointing.ensures.ways
    c.in_ok-returning.ensures.ways in
    let points = c.in_ok-pointing.ensures.ways.longer in
    let backs = c.in_ok-returning.ensures.ways.longer in
    let old = inside.returning in
    let pointed = inside.pointing in
    subst (λ o. IsExtended o more (kept_of more.nodes c.in_ok-pointing.pointing returning all edges)) c.self.view_is
    (record {
      nodes = refl;
      arrows = backs.arrows_are ∙ ap (λ ls. old.forth.arrows ++ ls) c.deref-5.ensures.value;
      sites = backs.sites_are ∙ ap (λ ls. old.forth.seeds ++ ls) c.deref-6.ensures.value;
      returns = backs.returns_are ∙ ap (λ ls. old.back.seeds ++ ls) c.deref-7.ensures.value;
      pointers = points.returns_are ∙ ap (λ ls. pointed.back.seeds ++ ls) c.deref-4.ensures.value;
      entries = points.sites_are ∙ ap (λ ls. pointed.forth.seeds ++ ls) c.deref-3.ensures.value;
      widenings = points.arrows_are ∙ ap (λ ls. pointed.forth.arrows ++ ls) c.deref-2.ensures.value;
      listed = all_is;
      added = added.0;
      edges = added.1;
    })
