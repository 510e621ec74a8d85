use Rattle.cfi_text.proofs.DecimalLemmas.{Reads}
use Rattle.cfi_text.proofs.decimal.value_of.Given as goal

abbrev pub invariant-loop-c : goal.invariant-loop-c
invariant-loop-c l = Reads l.word l.c-index l.value
