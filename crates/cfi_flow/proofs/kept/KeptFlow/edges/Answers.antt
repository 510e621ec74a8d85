use Rattle.std.proofs.Common.{subst}
use Rattle.cfi_flow.specs.Kept.{SpansFlow}
use Rattle.cfi_flow.proofs.KeptFlowLemmas.{kept_spans}
use Rattle.cfi_flow.proofs.kept.KeptFlow.edges.Goals as goal

pub returns-clause-spans : goal.returns-clause-spans
returns-clause-spans c =
    let inside = c.self.inside in
    subst SpansFlow c.self.view_is
    (kept_spans inside.nodes inside.pointing inside.returning inside.listed.items inside.edges.items c.self.invariant)
