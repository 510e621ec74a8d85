use Rattle.std.proofs.Common.{◌∙◌, ◌-◌, ◌^◌, ◌≤◌, length, map, sym, ap, subst, arith}
use Rattle.std.specs.Prelude.{sum_by}
use Rattle.std.specs.List.{flat_map}
use Rattle.cfi_word.specs.declared.limits.TheConstants.{MAX_CODE_WORDS}
use Rattle.cfi_flow.specs.Flow.{AreBelow, IsSound, link_count}
use Rattle.cfi_types.specs.Classes.{AreClasses}
use Rattle.cfi_fits.specs.Widening.{AreWidenings}
use Rattle.cfi_graph.specs.Facts.{AreFacts}
use Rattle.cfi_graph.specs.Reading.{tables_of}
use Rattle.cfi_graph.specs.Edges.{told_most, links_most}
use Rattle.cfi_graph.specs.Links.{type_link}
use Rattle.cfi_graph.specs.inner.Flows.{IsFlowOf, GoesAs}
use Rattle.cfi_graph.specs.inner.Imports.{imports_in}
use Rattle.cfi_values.proofs.ThenLemmas.{if_ok}
use Rattle.cfi_graph.proofs.ClassLemmas.{all_read}
use Rattle.cfi_graph.proofs.WideningLemmas.{widenings_exact, class_links_low}
use Rattle.cfi_graph.proofs.FlowLemmas.{IsMade, flow_sound, flow_goes, flow_few}
use Rattle.cfi_graph.proofs.direct.flow_of.Goals as goal

pub classes-requires : goal.classes-requires
classes-requires c =
    omega (arith, c.requires.nodes, ap (λ ts. length (flat_map (λ xs. xs) ts)) c.in_ok-book.ensures)

pub widenings-requires : goal.widenings-requires
widenings-requires c =
    c.in_ok-classes.ensures

pub type_links-requires : goal.type_links-requires
type_links-requires c =
    let ms = c.args.modules.now in
    let classes = c.in_ok-classes.classes in
    let wider = c.in_ok-wider.wider.items in
    subst (λ ls. AreBelow (2 ^ 32 - MAX_CODE_WORDS) ls) (sym c.as_slice.ensures.value)
    (class_links_low ms classes (subst (λ ts. AreClasses ts classes) c.in_ok-book.ensures c.in_ok-classes.ensures) wider
    (widenings_exact (tables_of ms) classes wider
    (subst (λ ts. AreWidenings ts classes wider) c.in_ok-book.ensures c.in_ok-wider.ensures)) c.requires.nodes)

pub facts_of-requires-clause-read : goal.facts_of-requires-clause-read
facts_of-requires-clause-read c =
    all_read c.args.modules.now c.in_ok-classes.classes c.requires
    (subst (λ ts. AreClasses ts c.in_ok-classes.classes) c.in_ok-book.ensures c.in_ok-classes.ensures)

pub returns-clause-sound : goal.returns-clause-sound
returns-clause-sound c =
    let ms = c.args.modules.now in
    let classes = c.in_ok-classes.classes in
    let imports = imports_in c.in_ok-imports.imports in
    let wider = c.in_ok-wider.wider.items in
    let list = c.as_slice-2.result.now in
    let links = c.in_ok-links.links.items in
    let count = c.node_count-nodes.result in
    let made : IsMade ms imports classes wider list links count = record {
      graph = c.requires;
      typed = subst (λ ts. AreClasses ts classes) c.in_ok-book.ensures c.in_ok-classes.ensures;
      wide = subst (λ ts. AreWidenings ts classes wider) c.in_ok-book.ensures c.in_ok-wider.ensures;
      facts = subst (λ fs. AreFacts ms imports classes fs) (sym c.as_slice-2.ensures.value) c.in_ok-facts.ensures.facts;
      named = c.in_ok-imports.ensures.named;
      linked = c.in_ok-links.ensures ∙ ap (λ ls. map type_link ls) c.as_slice.ensures.value;
      nodes = c.node_count-nodes.ensures;
    } in
    if_ok c.flow_by.result (IsFlowOf list links count) IsSound
    (λ flow is. flow_sound ms imports classes wider list links count made flow is) c.flow_by.ensures

pub returns-clause-goes : goal.returns-clause-goes
returns-clause-goes c =
    let ms = c.args.modules.now in
    let classes = c.in_ok-classes.classes in
    let imports = imports_in c.in_ok-imports.imports in
    let wider = c.in_ok-wider.wider.items in
    let list = c.as_slice-2.result.now in
    let links = c.in_ok-links.links.items in
    let count = c.node_count-nodes.result in
    let made : IsMade ms imports classes wider list links count = record {
      graph = c.requires;
      typed = subst (λ ts. AreClasses ts classes) c.in_ok-book.ensures c.in_ok-classes.ensures;
      wide = subst (λ ts. AreWidenings ts classes wider) c.in_ok-book.ensures c.in_ok-wider.ensures;
      facts = subst (λ fs. AreFacts ms imports classes fs) (sym c.as_slice-2.ensures.value) c.in_ok-facts.ensures.facts;
      named = c.in_ok-imports.ensures.named;
      linked = c.in_ok-links.ensures ∙ ap (λ ls. map type_link ls) c.as_slice.ensures.value;
      nodes = c.node_count-nodes.ensures;
    } in
    if_ok c.flow_by.result (IsFlowOf list links count) (GoesAs ms)
    (λ flow is. flow_goes ms imports classes wider list links count made flow is) c.flow_by.ensures

pub returns-clause-few : goal.returns-clause-few
returns-clause-few c =
    let ms = c.args.modules.now in
    let classes = c.in_ok-classes.classes in
    let imports = imports_in c.in_ok-imports.imports in
    let wider = c.in_ok-wider.wider.items in
    let list = c.as_slice-2.result.now in
    let links = c.in_ok-links.links.items in
    let count = c.node_count-nodes.result in
    let made : IsMade ms imports classes wider list links count = record {
      graph = c.requires;
      typed = subst (λ ts. AreClasses ts classes) c.in_ok-book.ensures c.in_ok-classes.ensures;
      wide = subst (λ ts. AreWidenings ts classes wider) c.in_ok-book.ensures c.in_ok-wider.ensures;
      facts = subst (λ fs. AreFacts ms imports classes fs) (sym c.as_slice-2.ensures.value) c.in_ok-facts.ensures.facts;
      named = c.in_ok-imports.ensures.named;
      linked = c.in_ok-links.ensures ∙ ap (λ ls. map type_link ls) c.as_slice.ensures.value;
      nodes = c.node_count-nodes.ensures;
    } in
    if_ok c.flow_by.result (IsFlowOf list links count) (λ flow. link_count flow ≤ links_most ms)
    (λ flow is.
    flow_few ms imports classes wider list links count made flow is
    (subst (λ fs. length fs ≤ sum_by told_most ms) (sym c.as_slice-2.ensures.value) c.in_ok-facts.ensures.few))
    c.flow_by.ensures
