use Rattle.elf_read.specs.Lists.{EachBelow}
use Rattle.cfi_verify.specs.Branches.{NamesSlot}
use Rattle.cfi_verify.proofs.branches.first_misnamed.Given as goal

abbrev pub invariant-loop-number : goal.invariant-loop-number
invariant-loop-number l = EachBelow l.checks (NamesSlot l.placed) l.number
