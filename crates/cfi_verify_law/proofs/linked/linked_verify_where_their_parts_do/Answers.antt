use Rattle.cfi_verify_law.proofs.LinkedLemmas.{verified}
use Rattle.cfi_verify_law.proofs.linked.linked_verify_where_their_parts_do.Goals as goal

pub returns : goal.returns
returns c = verified
