use Rattle.elf_read.specs.Lists.{EachBelow}
use Rattle.cfi_verify.specs.Branches.{KindFits}
use Rattle.cfi_verify.proofs.branches.first_misfit.Given as goal

abbrev pub invariant-loop-number : goal.invariant-loop-number
invariant-loop-number l = EachBelow l.checks (KindFits l.placed) l.number
