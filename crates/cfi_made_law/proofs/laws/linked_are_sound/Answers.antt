use Rattle.cfi_made_law.proofs.LinkLemmas.{linked-sound}
use Rattle.cfi_made_law.proofs.laws.linked_are_sound.Goals as goal

pub returns : goal.returns
returns c modules output are linked = linked-sound modules are output linked
