use Rattle.elf_read.specs.Lists.{EachBelow}
use Rattle.cfi_verify.specs.Functions.{EndsWell}
use Rattle.cfi_verify.proofs.functions.first_open.Given as goal

abbrev pub invariant-loop-number : goal.invariant-loop-number
invariant-loop-number l = EachBelow l.functions (EndsWell l.spots) l.number
