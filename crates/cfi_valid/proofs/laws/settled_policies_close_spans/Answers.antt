use Rattle.cfi_valid.proofs.SpanLemmas.{settled_lies}
use Rattle.cfi_valid.proofs.laws.settled_policies_close_spans.Goals as goal

pub returns : goal.returns
returns c = settled_lies
