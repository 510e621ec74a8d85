use Rattle.std.proofs.Common.{sym, subst}
use Rattle.cfi_class.specs.Labels.{HasEdge, CanBeLabelled, AreOrderedBySlot}
use Rattle.cfi_graph.specs.Direct.{DirectEdge}
use Rattle.cfi_graph.specs.Edges.{SpanDirectEdges}
use Rattle.cfi_policy.specs.Image.{IsImage}
use Rattle.cfi_policy.proofs.EdgeLemmas.{spans, can_be_labelled, apart_in, image_by}
use Rattle.cfi_policy.proofs.SpansLemmas.{spanned_order}
use Rattle.cfi_values.proofs.ThenLemmas.{if_ok}
use Rattle.cfi_policy.proofs.image.image_of.Goals as goal

pub image_from-requires-clause-edges : goal.image_from-requires-clause-edges
image_from-requires-clause-edges c =
    let ms = c.args.modules.now in
    let edges = c.as_slice.result.now in
    let span = subst (λ es. SpanDirectEdges ms es) (sym c.as_slice.ensures.value) c.in_ok-edges.ensures.edges in
    subst (λ n. CanBeLabelled edges n c.args.layout.now) (sym c.slots.ensures)
    (can_be_labelled ms edges span.sound c.args.layout.now c.requires)

pub image_from-requires-clause-modules : goal.image_from-requires-clause-modules
image_from-requires-clause-modules c = apart_in c.args.modules.now c.args.layout.now c.requires

pub returns-clause-image : goal.returns-clause-image
returns-clause-image c =
    let ms = c.args.modules.now in
    let code_words = c.args.layout.now in
    let edges = c.as_slice.result.now in
    let span = subst (λ es. SpanDirectEdges ms es) (sym c.as_slice.ensures.value) c.in_ok-edges.ensures.edges in
    if_ok c.image_from.result (IsImage (HasEdge edges) ms code_words) (IsImage (DirectEdge ms) ms code_words)
    (image_by ms edges span code_words) c.image_from.ensures.image

pub returns-clause-order : goal.returns-clause-order
returns-clause-order c =
    let ms = c.args.modules.now in
    let edges = c.as_slice.result.now in
    let span = subst (λ es. SpanDirectEdges ms es) (sym c.as_slice.ensures.value) c.in_ok-edges.ensures.edges in
    if_ok c.image_from.result (λ image. AreOrderedBySlot (HasEdge edges) image.bary)
    (λ image. AreOrderedBySlot (DirectEdge ms) image.bary)
    (λ image order. spanned_order (HasEdge edges) (DirectEdge ms) (spans ms edges span) image.bary order)
    c.image_from.ensures.order
