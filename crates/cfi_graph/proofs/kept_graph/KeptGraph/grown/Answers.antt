use Rattle.std.proofs.Common.{◌++◌, ◌∷◌, [], sym, subst}
use Rattle.std.proofs.lemmas.Result.{IfOk-weaker}
use Rattle.cfi_graph.specs.KeptGraph.{Graph, IsGraphOf, IsLonger}
use Rattle.cfi_graph.specs.inner.Addition.{HasAddition}
use Rattle.cfi_graph.proofs.kept_graph.KeptGraph.grown.Goals as goal

pub returns-clause-is : goal.returns-clause-is
returns-clause-is c =
    let ms = c.args.old.now ++ c.args.new.now ∷ [] in
    let more = c.in_ok-more.more in
    IfOk-weaker c.with.result (HasAddition c.args.self more) (IsGraphOf ms)
    (λ (graph : Graph) has.
    subst (λ cs. IsGraphOf ms (record { classes = cs; wider = graph.wider; flow = graph.flow })) (sym has.classes)
    (subst (λ ls. IsGraphOf ms (record { classes = more.classes; wider = ls; flow = graph.flow })) (sym has.wider)
    (c.in_ok-more.ensures.graph graph.flow has.flow)))
    c.with.ensures

pub returns-clause-edges : goal.returns-clause-edges
returns-clause-edges c =
    IfOk-weaker c.with.result (HasAddition c.args.self c.in_ok-more.more)
    (λ (graph : Graph). IsLonger c.args.self.flow.edges graph.flow.edges) (λ graph has. (has.flow.added, has.flow.edges))
    c.with.ensures
