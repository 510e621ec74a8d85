use Rattle.elf_write.proofs.LimitLemmas.{writable, file-short}
use Rattle.elf_write.proofs.laws.limits_fit.Goals as goal

pub returns-clause-writable : goal.returns-clause-writable
returns-clause-writable c = writable

pub returns-clause-short : goal.returns-clause-short
returns-clause-short c = file-short
