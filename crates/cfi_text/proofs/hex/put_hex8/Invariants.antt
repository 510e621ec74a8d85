use Rattle.cfi_text.proofs.HexLemmas.{WritesHex}
use Rattle.cfi_text.proofs.hex.put_hex8.Given as goal

abbrev pub invariant-loop-at : goal.invariant-loop-at
invariant-loop-at l = WritesHex l.value l.left l.at l.digits

abbrev pub decreases-loop-at : goal.decreases-loop-at
decreases-loop-at l = l.at
