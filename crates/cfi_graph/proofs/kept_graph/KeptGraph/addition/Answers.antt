use Rattle.std.proofs.Common.{◌≡◌, ◌∙◌, ◌-◌, ◌^◌, ◌++◌, ◌∷◌, [], length, map, sym, ap, subst, arith}
use Rattle.std.proofs.lemmas.List.Elements.{All-contains, Contains-push}
use Rattle.cfi_word.specs.declared.limits.TheConstants.{MAX_CODE_WORDS}
use Rattle.cfi_flow.specs.Flow.{AreBelow}
use Rattle.cfi_type_table.specs.Spelling.{AreTypes}
use Rattle.cfi_graph.specs.KeptGraph.{Graph}
use Rattle.cfi_graph.specs.Links.{type_link}
use Rattle.cfi_graph.specs.Shaped.{IsShaped}
use Rattle.cfi_graph.specs.inner.Addition.{IsAddition}
use Rattle.cfi_graph.specs.inner.Flows.{IsFlowOf}
use Rattle.cfi_graph.proofs.ClassLemmas.{all_read}
use Rattle.cfi_graph.proofs.KeptGraphLemmas.{IsRead, typed_with, is_read, others_low}
use Rattle.cfi_graph.proofs.KeptLinkLemmas.{graph_more, more_sound}
use Rattle.cfi_graph.proofs.OneMoreLemmas.{at_last, count_more, graph_first}
use Rattle.cfi_graph.proofs.kept_graph.KeptGraph.addition.Goals as goal

pub book_of-requires : goal.book_of-requires
book_of-requires c = graph_first c.args.old.now c.args.new.now c.requires.graph

pub classes_with-requires-clause-types : goal.classes_with-requires-clause-types
classes_with-requires-clause-types c =
    All-contains (λ m. AreTypes m.types) (c.args.old.now ++ c.args.new.now ∷ []) c.args.new.now c.requires.graph.types
    (Contains-push c.args.old.now c.args.new.now)

pub more_facts-requires-clause-shaped : goal.more_facts-requires-clause-shaped
more_facts-requires-clause-shaped c = (graph_first c.args.old.now c.args.new.now c.requires.graph).apart.shaped

pub more_facts-requires-clause-new : goal.more_facts-requires-clause-new
more_facts-requires-clause-new c =
    All-contains IsShaped (c.args.old.now ++ c.args.new.now ∷ []) c.args.new.now c.requires.graph.apart.shaped
    (Contains-push c.args.old.now c.args.new.now)

pub more_facts-requires-clause-read : goal.more_facts-requires-clause-read
more_facts-requires-clause-read c =
    let ms = c.args.old.now in
    let m = c.args.new.now in
    all_read (ms ++ m ∷ []) c.in_ok-classes.classes c.requires.graph
    (typed_with ms m c.in_ok-book.book c.in_ok-classes.classes c.in_ok-book.ensures c.in_ok-classes.ensures.classes)
    (length ms) m (at_last ms m)

pub type_links-requires : goal.type_links-requires
type_links-requires c =
    let ms = c.args.old.now in
    let m = c.args.new.now in
    let inside = c.self.inside in
    let old : Graph = record { classes = inside.classes; wider = inside.wider.items; flow = inside.flow } in
    let classes = c.in_ok-classes.classes in
    let others = c.in_ok-wider.wider.items in
    let list = c.in_ok-facts.facts.items in
    let read : IsRead ms m old classes others list =
    is_read ms m c.args.self.now old c.in_ok-book.book classes c.deref.result.now others list c.requires.graph
    c.self.view_is c.requires.is c.in_ok-book.ensures c.in_ok-classes.ensures.classes c.in_ok-classes.ensures.stay
    c.deref.ensures.value c.in_ok-wider.ensures c.in_ok-facts.ensures in
    subst (λ ls. AreBelow (2 ^ 32 - MAX_CODE_WORDS) ls) (sym c.as_slice.ensures.value)
    (others_low ms m old classes others list read)

pub returns : goal.returns
returns c =
    let ms = c.args.old.now in
    let m = c.args.new.now in
    let inside = c.self.inside in
    let old : Graph = record { classes = inside.classes; wider = inside.wider.items; flow = inside.flow } in
    let classes = c.in_ok-classes.classes in
    let others = c.in_ok-wider.wider.items in
    let list = c.in_ok-facts.facts.items in
    let read : IsRead ms m old classes others list =
    is_read ms m c.args.self.now old c.in_ok-book.book classes c.deref.result.now others list c.requires.graph
    c.self.view_is c.requires.is c.in_ok-book.ensures c.in_ok-classes.ensures.classes c.in_ok-classes.ensures.stay
    c.deref.ensures.value c.in_ok-wider.ensures c.in_ok-facts.ensures in
    let links = c.in_ok-links.links.items in
    let nodes = c.node_count_with-nodes.result in
    let count = c.node_count_with-nodes.ensures in
    let more = c.in_ok-flow.flow in
    let linked : links ≡ map type_link others =
    c.in_ok-links.ensures ∙ ap (λ ls. map type_link ls) c.as_slice.ensures.value in
    let made : IsFlowOf list links nodes more =
    subst (λ fs. IsFlowOf fs links nodes more) c.as_slice-2.ensures.value c.in_ok-flow.ensures in
    let least = count_more ms m in
    let same = ap (λ g. g.flow.nodes) c.self.view_is in
    subst (λ o. IsAddition ms m o (record { classes = classes; wider = c.in_ok-wider.wider; flow = more })) c.self.view_is
    (record {
      sound = more_sound ms m old classes others list read links linked nodes more made count;
      nodes = omega (arith, least, same, c.requires.is.nodes, made.nodes, count);
      graph = λ flow longer. graph_more ms m old classes others list read links linked nodes more made flow longer count;
    })
