use Rattle.elf_write.proofs.SoundLemmas.{reads_back}
use Rattle.elf_write.proofs.laws.written_is_read.Goals as goal

pub returns : goal.returns
returns c = reads_back
