use Rattle.cfi_types.proofs.HitLemmas.{no_hits}
use Rattle.cfi_types.proofs.hits.add_hits.Goals as goal

pub loop-name-init : goal.loop-name-init
loop-name-init c = no_hits c.args.hits.now c.args.names.now
