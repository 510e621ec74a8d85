use Rattle.elf_write.proofs.LimitLemmas.{empty, empty_fits}
use Rattle.elf_write.proofs.laws.some_object_is_within_limits.Goals as goal

pub returns : goal.returns
returns c = (empty, empty_fits)
