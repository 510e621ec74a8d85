use Rattle.elf_write.proofs.WitnessLemmas.{small, small_whole}
use Rattle.elf_write.proofs.laws.some_object_is_whole.Goals as goal

pub returns : goal.returns
returns c = (small, small_whole)
