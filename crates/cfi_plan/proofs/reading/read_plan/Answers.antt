use Rattle.cfi_plan.proofs.SoundLemmas.{due-IsPlan}
use Rattle.cfi_plan.proofs.reading.read_plan.Goals as goal

pub returns-clause-sound : goal.returns-clause-sound
returns-clause-sound c = due-IsPlan c.read_text.result c.args.text.now c.read_text.ensures
