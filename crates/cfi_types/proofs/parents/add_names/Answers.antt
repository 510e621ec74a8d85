use Rattle.cfi_types.proofs.NameLemmas.{no_names}
use Rattle.cfi_types.proofs.parents.add_names.Goals as goal

pub loop-place-init : goal.loop-place-init
loop-place-init c = no_names c.args.parents.now c.args.named.now c.args.number
