use Rattle.std.proofs.Common.{◌∙◌, ◌-◌, ◌^◌, ◌++◌, ◌∷◌, [], map, sym, ap, subst, arith}
use Rattle.std.proofs.lemmas.List.Elements.{All-contains, Contains-push}
use Rattle.cfi_word.specs.declared.limits.TheConstants.{MAX_CODE_WORDS}
use Rattle.cfi_flow.specs.Flow.{AreBelow}
use Rattle.cfi_types.specs.Classes.{AreClasses}
use Rattle.cfi_fits.specs.Widening.{AreWidenings}
use Rattle.cfi_graph.specs.Shaped.{IsShaped}
use Rattle.cfi_graph.specs.Facts.{AreFacts}
use Rattle.cfi_graph.specs.Reading.{tables_of}
use Rattle.cfi_graph.specs.Links.{type_link}
use Rattle.cfi_graph.specs.inner.Imports.{imports_in}
use Rattle.cfi_graph.proofs.ClassLemmas.{all_read}
use Rattle.cfi_graph.proofs.WideningLemmas.{widenings_exact, class_links_low}
use Rattle.cfi_graph.proofs.FlowLemmas.{IsMade}
use Rattle.cfi_graph.proofs.NewEdgeLemmas.{read_first, imports_more, have_flows}
use Rattle.cfi_graph.proofs.OneMoreLemmas.{length_more, graph_first}
use Rattle.cfi_graph.proofs.new_edges.flows_of.Goals as goal

pub widenings-requires : goal.widenings-requires
widenings-requires c = subst (λ ts. AreClasses ts c.args.classes.now) (sym c.in_ok-book.ensures) c.requires.classes

pub imports_of-requires : goal.imports_of-requires
imports_of-requires c = (graph_first c.args.old.now c.args.new.now c.requires.graph).apart.shaped

pub facts_of-requires-clause-few : goal.facts_of-requires-clause-few
facts_of-requires-clause-few c =
    let more = length_more c.args.old.now c.args.new.now in
    let few = c.requires.graph.few in
    omega (arith, more, few)

pub facts_of-requires-clause-read : goal.facts_of-requires-clause-read
facts_of-requires-clause-read c =
    read_first c.args.old.now c.args.new.now c.args.classes.now
    (all_read (c.args.old.now ++ c.args.new.now ∷ []) c.args.classes.now c.requires.graph c.requires.classes)

pub type_links-requires : goal.type_links-requires
type_links-requires c =
    let ms = c.args.old.now ++ c.args.new.now ∷ [] in
    let classes = c.args.classes.now in
    let wider = c.in_ok-wider.wider.items in
    subst (λ ls. AreBelow (2 ^ 32 - MAX_CODE_WORDS) ls) (sym c.as_slice.ensures.value)
    (class_links_low ms classes c.requires.classes wider
    (widenings_exact (tables_of ms) classes wider
    (subst (λ ts. AreWidenings ts classes wider) c.in_ok-book.ensures c.in_ok-wider.ensures)) c.requires.graph.nodes)

pub add_module-requires : goal.add_module-requires
add_module-requires c =
    All-contains IsShaped (c.args.old.now ++ c.args.new.now ∷ []) c.args.new.now c.requires.graph.apart.shaped
    (Contains-push c.args.old.now c.args.new.now)

pub facts_with-requires-clause-few : goal.facts_with-requires-clause-few
facts_with-requires-clause-few c = c.requires.graph.few

pub facts_with-requires-clause-read : goal.facts_with-requires-clause-read
facts_with-requires-clause-read c =
    all_read (c.args.old.now ++ c.args.new.now ∷ []) c.args.classes.now c.requires.graph c.requires.classes

pub type_links-requires-2 : goal.type_links-requires-2
type_links-requires-2 c =
    let ms = c.args.old.now ++ c.args.new.now ∷ [] in
    let classes = c.args.classes.now in
    let wider = c.in_ok-wider.wider.items in
    subst (λ ls. AreBelow (2 ^ 32 - MAX_CODE_WORDS) ls) (sym c.as_slice-3.ensures.value)
    (class_links_low ms classes c.requires.classes wider
    (widenings_exact (tables_of ms) classes wider
    (subst (λ ts. AreWidenings ts classes wider) c.in_ok-book.ensures c.in_ok-wider.ensures)) c.requires.graph.nodes)

pub returns : goal.returns
returns c =
    let old = c.args.old.now in
    let new = c.args.new.now in
    let ms = c.args.old.now ++ c.args.new.now ∷ [] in
    let classes = c.args.classes.now in
    let imports = imports_in c.in_ok-imports.imports in
    let all_imports = imports_in c.add_module.new.self in
    let wider = c.in_ok-wider.wider.items in
    let list = c.as_slice-2.result.now in
    let all_list = c.as_slice-4.result.now in
    let links = c.in_ok-known_links.known_links.items in
    let all_links = c.in_ok-links.links.items in
    let count = c.node_count_with-nodes.result in
    let linked = c.in_ok-known_links.ensures ∙ ap (λ ls. map type_link ls) c.as_slice.ensures.value in
    let all_linked = c.in_ok-links.ensures ∙ ap (λ ls. map type_link ls) c.as_slice-3.ensures.value in
    let made : IsMade ms all_imports classes wider all_list all_links count = record {
      graph = c.requires.graph;
      typed = c.requires.classes;
      wide = subst (λ ts. AreWidenings ts classes wider) c.in_ok-book.ensures c.in_ok-wider.ensures;
      facts = subst (λ fs. AreFacts ms all_imports classes fs) (sym c.as_slice-4.ensures.value) c.in_ok-facts.ensures;
      named = imports_more old new imports all_imports c.in_ok-imports.ensures.among c.in_ok-add_module.ensures;
      linked = all_linked;
      nodes = c.node_count_with-nodes.ensures;
    } in
    have_flows old new imports all_imports classes wider list all_list links all_links count made c.in_ok-flow.flow
    c.in_ok-known.known c.in_ok-flow.ensures c.in_ok-known.ensures
    (subst (λ fs. AreFacts old imports classes fs) (sym c.as_slice-2.ensures.value) c.in_ok-known_facts.ensures.facts)
    c.in_ok-imports.ensures.named (linked ∙ sym all_linked)
