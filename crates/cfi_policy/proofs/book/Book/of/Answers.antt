use Rattle.std.proofs.Common.{◌≡◌, ◌∙◌, length, ap, sym, subst}
use Rattle.cfi_class.specs.Labels.{HasEdge, CanBeLabelled, AreOrderedBySlot}
use Rattle.cfi_class.specs.Kept.{AreLabelsOf}
use Rattle.cfi_graph.specs.Direct.{DirectEdge}
use Rattle.cfi_graph.specs.KeptGraph.{SpanEdges}
use Rattle.cfi_policy.specs.Book.{labels_of}
use Rattle.cfi_policy.proofs.BookLemmas.{spans_direct, labels_standing}
use Rattle.cfi_policy.proofs.EdgeLemmas.{can_be_labelled}
use Rattle.cfi_policy.proofs.SpansLemmas.{spanned_order}
use Rattle.cfi_policy.proofs.book.Book.of.Goals as goal

pub of-requires-2 : goal.of-requires-2
of-requires-2 c =
    let ms = c.args.modules.now in
    let edges = c.edges.result.now in
    let span : SpanEdges ms edges = c.edges.ensures.spans ms c.requires.modules.graph c.in_ok-graph.ensures in
    subst (λ n. CanBeLabelled edges n c.args.layout.now) (sym c.slots.ensures)
    (can_be_labelled ms edges span.sound c.args.layout.now c.requires.modules)

pub returns-clause-stands : goal.returns-clause-stands
returns-clause-stands c =
    let image = c.in_ok-image.image in
    let is : labels_of image ≡ c.in_ok-kept.kept = c.in_ok-image.ensures.labels ∙ c.labels.ensures in
    record {
      graph = c.in_ok-graph.ensures;
      labels = subst (λ es. AreLabelsOf es (labels_of image)) c.edges.ensures.value
          (subst (λ l. AreLabelsOf c.edges.result.now l) (sym is) c.in_ok-kept.ensures.all);
    }

pub returns-clause-order : goal.returns-clause-order
returns-clause-order c =
    let ms = c.args.modules.now in
    let edges = c.edges.result.now in
    let span : SpanEdges ms edges = c.edges.ensures.spans ms c.requires.modules.graph c.in_ok-graph.ensures in
    let is : labels_of c.in_ok-image.image ≡ c.in_ok-kept.kept = c.in_ok-image.ensures.labels ∙ c.labels.ensures in
    spanned_order (HasEdge edges) (DirectEdge ms) (spans_direct ms edges span) c.in_ok-image.image.bary
    (subst (λ list. AreOrderedBySlot (HasEdge edges) list) (sym (ap (λ l. l.bary) is)) c.in_ok-kept.ensures.order)

pub returns-clause-labels : goal.returns-clause-labels
returns-clause-labels c =
    let ms = c.args.modules.now in
    let edges = c.edges.result.now in
    let image = c.in_ok-image.image in
    let span : SpanEdges ms edges = c.edges.ensures.spans ms c.requires.modules.graph c.in_ok-graph.ensures in
    let is : labels_of image ≡ c.in_ok-kept.kept = c.in_ok-image.ensures.labels ∙ c.labels.ensures in
    let words : length image.tary ≡ c.args.layout.now =
    ap (λ l. length l.tary) is ∙ c.in_ok-kept.ensures.labels.words in
    labels_standing ms edges image c.args.layout.now span
    (subst (λ l. AreLabelsOf edges l) (sym is) c.in_ok-kept.ensures.all) words
