use Rattle.rv_line.proofs.NumberLemmas.{ReadsDigits}
use Rattle.rv_line.proofs.number.value_of.Given as goal

abbrev pub invariant-loop-byte : goal.invariant-loop-byte
invariant-loop-byte l = ReadsDigits l.digits l.byte-index l.value
