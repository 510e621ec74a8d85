use Rattle.elf_read.specs.Lists.{EachBelow}
use Rattle.cfi_verify.specs.Branches.{EntriesFit}
use Rattle.cfi_verify.proofs.branches.first_bad_switch.Given as goal

abbrev pub invariant-loop-number : goal.invariant-loop-number
invariant-loop-number l = EachBelow l.checks (EntriesFit l.placed l.spots) l.number
