use Rattle.cfi_class.specs.Labels.{HasEdge}
use Rattle.cfi_policy.proofs.SpansLemmas.{same_chains, spanned_labels}
use Rattle.cfi_policy.proofs.laws.few_span_many.Goals as goal

pub returns-clause-chains : goal.returns-clause-chains
returns-clause-chains c = λ few many spans. same_chains (HasEdge few) (HasEdge many) spans

pub returns-clause-labels : goal.returns-clause-labels
returns-clause-labels c = λ few many spans. spanned_labels (HasEdge few) (HasEdge many) spans
