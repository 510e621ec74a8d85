use Rattle.cfi_text.proofs.HexLemmas.{ReadsHex}
use Rattle.cfi_text.proofs.hex.read_hex8.Given as goal

abbrev pub invariant-loop-c : goal.invariant-loop-c
invariant-loop-c l = ReadsHex l.word l.c-index l.value
