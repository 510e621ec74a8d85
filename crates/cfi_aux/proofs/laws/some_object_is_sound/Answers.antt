use Rattle.cfi_aux.proofs.NothingLemmas.{nothing, nothing_is_sound}
use Rattle.cfi_aux.proofs.laws.some_object_is_sound.Goals as goal

pub returns : goal.returns
returns c = (nothing, nothing_is_sound)
