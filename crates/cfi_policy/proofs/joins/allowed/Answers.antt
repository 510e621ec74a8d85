use Rattle.std.proofs.Common.{◌↔◌, sym, subst}
use Rattle.std.specs.Prelude.{IsTrue}
use Rattle.cfi_word.specs.Chain.{Chain}
use Rattle.cfi_class.specs.Labels.{HasEdge}
use Rattle.cfi_graph.specs.Direct.{Allowed}
use Rattle.cfi_graph.specs.Edges.{SpanDirectEdges}
use Rattle.cfi_policy.proofs.EdgeLemmas.{within_code, joined_by}
use Rattle.cfi_values.proofs.ThenLemmas.{if_ok}
use Rattle.cfi_policy.proofs.joins.allowed.Goals as goal

pub are_joined-requires-clause-within : goal.are_joined-requires-clause-within
are_joined-requires-clause-within c =
    let ms = c.args.modules.now in
    let span = subst (λ es. SpanDirectEdges ms es) (sym c.as_slice.ensures.value) c.in_ok-edges.ensures.edges in
    within_code ms c.as_slice.result.now span.sound c.requires

pub returns : goal.returns
returns c =
    let ms = c.args.modules.now in
    let edges = c.as_slice.result.now in
    let span = subst (λ es. SpanDirectEdges ms es) (sym c.as_slice.ensures.value) c.in_ok-edges.ensures.edges in
    if_ok c.are_joined.result (λ is. IsTrue is ↔ Chain (HasEdge edges) c.args.branch c.args.target)
    (λ is. IsTrue is ↔ Allowed ms c.args.branch c.args.target)
    (λ is both. joined_by ms edges span c.args.branch c.args.target (IsTrue is) both) c.are_joined.ensures
