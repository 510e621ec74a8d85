use Rattle.cfi_sim.proofs.BeginLemmas.{refresh_by}
use Rattle.cfi_sim.proofs.standing.Standing.refresh.Goals as goal

pub returns : goal.returns
returns c = refresh_by c.args.self.now c.begin.new.self c.requires c.in_ok-begun.begun c.in_ok-begun.ensures
