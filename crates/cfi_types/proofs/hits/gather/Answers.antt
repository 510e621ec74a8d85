use Rattle.cfi_types.proofs.HitLemmas.{none_gathered}
use Rattle.cfi_types.proofs.hits.gather.Goals as goal

pub loop-member-init : goal.loop-member-init
loop-member-init c =
    none_gathered c.args.hits.now c.args.parents.now c.args.members.now c.args.classes.now c.args.class
