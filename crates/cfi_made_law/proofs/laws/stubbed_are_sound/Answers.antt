use Rattle.cfi_made_law.proofs.StubWholeLemmas.{stubbed-sound}
use Rattle.cfi_made_law.proofs.laws.stubbed_are_sound.Goals as goal

pub returns : goal.returns
returns c source out sound none made = stubbed-sound source out sound none made
